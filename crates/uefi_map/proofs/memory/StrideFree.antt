-- The entries of a map don't depend on the rest of its strides, and a write leaves that rest.
use Rattle.std.proofs.Common.{◌≡◌, ◌≢◌, ℕ, ◌+◌, ◌*◌, ◌≤◌, ◌<◌, inl, inr, List, length, take, drop, ◌∙◌, ap}
use Rattle.std.proofs.Common.{arith}
use Rattle.std.proofs.lemmas.Bool.{cases_lt}
use Rattle.std.proofs.lemmas.Grind.{rows, common_steps}
use Rattle.uefi_map.specs.memory.Descriptor.{descriptor_length, descriptor_bytes, descriptor_in, encoding}
use Rattle.uefi_map.specs.memory.Descriptor.{with_descriptor}
use Rattle.uefi_map.specs.memory.Map.{count_of}
use Rattle.uefi_map.specs.memory.Laws.{SameEntries, WritesOne}
use Rattle.uefi_map.proofs.memory.Fields.{descriptor_in-encoding, length-encoding}
use Rattle.uefi_base.proofs.Ranges.{range-same_prefix, range-same_rest}
use Rattle.uefi_map.proofs.memory.Parts.{before_part, behind_part, the_part, length-replaced}
use Rattle.uefi_map.proofs.memory.Strides.{ends_within, same_from}

pub same_entries : SameEntries
same_entries one other meta same = same_from one other meta.desc_size 0 (count_of meta)
    (λ j above below. same j (omega arith))

-- A descriptor ends where a later one begins, or before.
ends_before : (stride i j : ℕ) → descriptor_length ≤ stride → i < j → i * stride + descriptor_length ≤ j * stride
ends_before stride i j room before = grind (arith, rows, common_steps)

-- The forty bytes of another descriptor stay.
other_bytes : (old new : List ℕ) (stride i j : ℕ) → descriptor_length ≤ stride → j ≢ i
    → take (i * stride) new ≡ take (i * stride) old
    → drop (i * stride + descriptor_length) new ≡ drop (i * stride + descriptor_length) old
    → descriptor_bytes new stride j ≡ descriptor_bytes old stride j
other_bytes old new stride i j room other before after =
    elim (cases_lt j i) [
      | inl lower ↦ range-same_prefix (i * stride) new old (j * stride) (j * stride + descriptor_length)
          (omega arith) (ends_before stride j i room lower) before
      | inr higher ↦ range-same_rest (i * stride + descriptor_length) new old (j * stride)
          (j * stride + descriptor_length) (ends_before stride i j room (omega arith)) after
    ]

pub writes_one : WritesOne
writes_one bytes meta i d map within fits =
    let stride = meta.desc_size in
    let offset = i * stride in
    let new = with_descriptor bytes stride i d in
    let sized = length-encoding d in
    let ends : offset + descriptor_length ≤ meta.map_size = ends_within stride meta.map_size i map.room within in
    let reaches : offset + descriptor_length ≤ length bytes = omega (arith, ends, map.within) in
    let before = before_part bytes (encoding d) offset descriptor_length sized reaches in
    let after = behind_part bytes (encoding d) offset descriptor_length sized reaches in
    let part = the_part bytes (encoding d) offset descriptor_length sized reaches in
    record {
      set = ap descriptor_in part ∙ descriptor_in-encoding d fits;
      others = λ j below other. ap descriptor_in (other_bytes bytes new stride i j map.room other before after);
      before = before;
      after = after;
      same_length = length-replaced bytes (encoding d) offset descriptor_length sized reaches;
    }
