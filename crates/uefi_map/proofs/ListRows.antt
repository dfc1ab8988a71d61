-- The worked rows of lists of PCI resources hold.
use Rattle.std.proofs.Common.{ℕ, List, [], ◌∷◌, ◌++◌, take, refl, lit<, arith}
use Rattle.uefi_map.specs.pci.Resource.{resource_in}
use Rattle.uefi_map.specs.pci.ResourceList.{BeginWithRecords}
use Rattle.uefi_map.specs.rows.Lists.{ports, low_memory, high_memory, one_bus, ports_record, low_memory_record}
use Rattle.uefi_map.specs.rows.Lists.{high_memory_record, one_bus_record, root_bridge, RecordRows, ListRows, FaultRows}
use Rattle.uefi_map.specs.rows.Lists.{RowsHold}

record_rows : RecordRows
unfolding resource_in
record_rows = assumption

-- The four records, and then the rest.
four_records : (rest : List ℕ)
    → BeginWithRecords (ports_record ++ (low_memory_record ++ (high_memory_record ++ (one_bus_record ++ rest))))
    (ports ∷ low_memory ∷ high_memory ∷ one_bus ∷ []) rest
four_records rest = (
  ports_record,
  _,
  record_rows.ports,
  (
    low_memory_record,
    _,
    record_rows.low_memory,
    (high_memory_record, _, record_rows.high_memory, (one_bus_record, _, record_rows.one_bus, refl, refl), refl),
    refl,
  ),
  refl,
)

ports_alone : (rest : List ℕ) → BeginWithRecords (ports_record ++ rest) (ports ∷ []) rest
ports_alone rest = (ports_record, rest, record_rows.ports, refl, refl)

list_rows : ListRows
list_rows = record {
  four = (0x79 ∷ 0 ∷ [], four_records (0x79 ∷ 0 ∷ []), (0 ∷ [], refl));
  four_alone = (0x79 ∷ [], four_records (0x79 ∷ []), ([], refl));
  none = (0x79 ∷ [], refl, ([], refl));
}

fault_rows : FaultRows
fault_rows = record {
  empty = ([], [], refl, refl);
  one_record = (ports ∷ [], [], ports_alone [], refl);
  four_records = (ports ∷ low_memory ∷ high_memory ∷ one_bus ∷ [], [], four_records [], refl);
  tag_alone = ([], 0x8a ∷ [], refl, (([], refl), lit< tt));
  last_byte_missing = ([], take 45 ports_record, refl, ((_, refl), lit< tt));
  third_cut = (
    ports ∷ low_memory ∷ [],
    take 8 high_memory_record,
    (ports_record, _, record_rows.ports, (low_memory_record, _, record_rows.low_memory, refl, refl), refl),
    ((_, refl), lit< tt),
  );
  other_tag = ([], 0x12 ∷ [], refl, (([], refl), (λ same. omega (arith, same)), (λ same. omega (arith, same))));
  tag_after_record = (
    ports ∷ [],
    0 ∷ root_bridge,
    ports_alone (0 ∷ root_bridge),
    ((root_bridge, refl), (λ same. omega (arith, same)), (λ same. omega (arith, same))),
  );
}

pub rows_hold : RowsHold
rows_hold = (record_rows, list_rows, fault_rows)
