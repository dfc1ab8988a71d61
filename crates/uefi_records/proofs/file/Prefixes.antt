-- The fields of records, in a prefix of bytes.
use Rattle.std.proofs.Common.{◌≡◌, ℕ, ◌≤◌, List, take, sym, ◌∙◌, ap, arith}
use Rattle.std.specs.Int.{w64, from_le_bytes}
use Rattle.std.proofs.lemmas.List.{length-take, get_or-take}
use Rattle.uefi_base.proofs.Ranges.{range-take}
use Rattle.uefi_records.specs.private.file.Kept.{EndsWithName}
use Rattle.uefi_records.specs.file.FileInfo.{file_fields, file_name_offset, size_in}
use Rattle.uefi_records.specs.file.FileSystemInfo.{file_system_fields, label_offset}

-- What is read from bytes is read from those before the offset alone.
abbrev pub StandsBefore : {A : Type 0} → ℕ → (List ℕ → A) → Type 0
StandsBefore offset read = (n : ℕ) (bytes : List ℕ) → offset ≤ n → read (take n bytes) ≡ read bytes

pub size_stands : StandsBefore 8 size_in
size_stands n bytes covers = ap (from_le_bytes w64) (range-take n bytes 0 8 (omega arith) covers)

pub file_fields_stand : StandsBefore file_name_offset file_fields
file_fields_stand n bytes covers =
    let file_size = range-take n bytes 8 16 (omega arith) (omega arith) in
    let physical_size = range-take n bytes 16 24 (omega arith) (omega arith) in
    let create_time = range-take n bytes 24 40 (omega arith) (omega arith) in
    let last_access_time = range-take n bytes 40 56 (omega arith) (omega arith) in
    let modification_time = range-take n bytes 56 72 (omega arith) (omega arith) in
    let attribute = range-take n bytes 72 80 (omega arith) (omega arith) in
    rw (file_size, physical_size, create_time, last_access_time, modification_time, attribute)

pub file_system_fields_stand : StandsBefore label_offset file_system_fields
file_system_fields_stand n bytes covers =
    let read_only = get_or-take n bytes 8 0 (omega arith) in
    let volume_size = range-take n bytes 16 24 (omega arith) (omega arith) in
    let free_space = range-take n bytes 24 32 (omega arith) (omega arith) in
    let block_size = range-take n bytes 32 36 (omega arith) (omega arith) in
    cc

module _ {A : Type 0} {offset : ℕ} {read : List ℕ → A} (stands : StandsBefore offset read) where
  -- So it is the same in a prefix that ends with a name.
  pub in_named : (before : ℕ) (bytes : List ℕ) (end : ℕ) → offset ≤ before → EndsWithName before (take end bytes)
      → read (take end bytes) ≡ read bytes
  in_named before bytes end first named = stands end bytes (omega (arith, first, named.before, length-take end bytes))

  -- It is the same in bytes that agree on a prefix.
  pub in_both : (n : ℕ) (one other : List ℕ) → offset ≤ n → take n one ≡ take n other → read one ≡ read other
  in_both n one other covers same = sym (stands n one covers) ∙ ap read same ∙ stands n other covers
