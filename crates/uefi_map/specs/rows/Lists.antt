-- Worked rows of the definitions: a root bridge's list, and faults.
use Rattle.std.specs.Prelude.{◌≡◌, ℕ, List, [], ◌∷◌, ◌++◌, replicate, take}
use Rattle.uefi_map.specs.declared.pci.resource.QwordAddressSpaceDescriptor.{QwordAddressSpaceDescriptor}
use Rattle.uefi_map.specs.declared.pci.resource.ResourceRangeType.{ResourceRangeType}
use Rattle.uefi_map.specs.declared.pci.resource.ResourceRangeType.TheVariants.{Memory, Io, Bus, Unknown}
use Rattle.uefi_map.specs.declared.pci.resource_error.ResourceError.TheVariants.{NoEndTag, CutRecord, UnknownTag}
use Rattle.uefi_map.specs.pci.Resource.{range_type, resource_given, IsRecord}
use Rattle.uefi_map.specs.pci.ResourceList.{HaveList, HaveFault}

-- The ranges of a root bridge: I/O ports, memory below four gigabytes and above, and one bus number.
abbrev pub range : ResourceRangeType → ℕ → ℕ → ℕ → ℕ → QwordAddressSpaceDescriptor
range kind granularity lowest highest size = resource_given kind 0 0 granularity lowest highest 0 size

abbrev pub ports : QwordAddressSpaceDescriptor
ports = range Io 0 0x6000 0x6fff 0x1000

abbrev pub low_memory : QwordAddressSpaceDescriptor
low_memory = range Memory 0x20 0x80000000 0x810fffff 0x1100000

abbrev pub high_memory : QwordAddressSpaceDescriptor
high_memory = range Memory 0x40 0xc000000000 0xc0000fffff 0x100000

abbrev pub one_bus : QwordAddressSpaceDescriptor
one_bus = range Bus 0 0 0 1

-- Their records.
abbrev pub ports_record : List ℕ
ports_record =
    0x8a ∷ 0x2b ∷ 0 ∷ 1 ∷ replicate 11 0 ++ 0x60 ∷ replicate 6 0 ++ 0xff ∷ 0x6f ∷ replicate 15 0 ++ 0x10 ∷ replicate 6 0

abbrev pub low_memory_record : List ℕ
low_memory_record =
    0x8a ∷ 0x2b ∷ replicate 4 0 ++ 0x20 ∷ replicate 10 0 ++ 0x80 ∷ replicate 4 0
    ++ 0xff ∷ 0xff ∷ 0x0f ∷ 0x81 ∷ replicate 14 0 ++ 0x10 ∷ 0x01 ∷ replicate 4 0

abbrev pub high_memory_record : List ℕ
high_memory_record =
    0x8a ∷ 0x2b ∷ replicate 4 0 ++ 0x40 ∷ replicate 11 0 ++ 0xc0 ∷ replicate 3 0
    ++ 0xff ∷ 0xff ∷ 0x0f ∷ 0 ∷ 0xc0 ∷ replicate 13 0 ++ 0x10 ∷ replicate 5 0

abbrev pub one_bus_record : List ℕ
one_bus_record = 0x8a ∷ 0x2b ∷ 0 ∷ 2 ∷ replicate 34 0 ++ 1 ∷ replicate 7 0

abbrev pub root_bridge : List ℕ
root_bridge = ports_record ++ low_memory_record ++ high_memory_record ++ one_bus_record ++ 0x79 ∷ 0 ∷ []

pub record RecordRows : Type 0 where
  pub ports : IsRecord ports_record ports
  pub low_memory : IsRecord low_memory_record low_memory
  pub high_memory : IsRecord high_memory_record high_memory
  pub one_bus : IsRecord one_bus_record one_bus
  pub no_name : range_type 3 ≡ Unknown 3

-- The four ranges, with a byte after the end tag and without it; and the end tag alone.
pub record ListRows : Type 0 where
  pub four : HaveList root_bridge (ports ∷ low_memory ∷ high_memory ∷ one_bus ∷ [])
  pub four_alone : HaveList (take 185 root_bridge) (ports ∷ low_memory ∷ high_memory ∷ one_bus ∷ [])
  pub none : HaveList (0x79 ∷ []) []

-- The bytes end before a tag, or within a record, or there is another tag.
pub record FaultRows : Type 0 where
  pub empty : HaveFault [] NoEndTag
  pub one_record : HaveFault (take 46 root_bridge) NoEndTag
  pub four_records : HaveFault (take 184 root_bridge) NoEndTag
  pub tag_alone : HaveFault (take 1 root_bridge) CutRecord
  pub last_byte_missing : HaveFault (take 45 root_bridge) CutRecord
  pub third_cut : HaveFault (take 100 root_bridge) CutRecord
  pub other_tag : HaveFault (0x12 ∷ []) (UnknownTag 18)
  pub tag_after_record : HaveFault (ports_record ++ 0 ∷ root_bridge) (UnknownTag 0)

abbrev pub RowsHold : Type 0
RowsHold = RecordRows × ListRows × FaultRows
