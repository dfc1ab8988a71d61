-- Records at the beginning of bytes, and the resources that are read from them.
use Rattle.std.proofs.Common.{◌≡◌, ℕ, zero, suc, ◌-◌, ◌/◌, ◌≤◌, List, [], ◌∷◌, ◌++◌, length, take, drop, refl, sym}
use Rattle.std.proofs.Common.{◌∙◌, ap, subst, arith, append_assoc, length-append, length-drop}
use Rattle.std.proofs.lemmas.List.{take_at, drop_at, take-append-drop, length-take-le}
use Rattle.uefi_map.specs.declared.pci.resource.QwordAddressSpaceDescriptor.{QwordAddressSpaceDescriptor}
use Rattle.uefi_map.specs.pci.Resource.{record_tag, record_length, resource_in, IsRecord}
use Rattle.uefi_map.specs.pci.ResourceList.{BeginWithRecords, BeginWith}
use Rattle.uefi_map.specs.pci.Views.{resources, resources_in}

-- Records, and then more records.
pub more_records : (bytes rest after : List ℕ) (ds es : List QwordAddressSpaceDescriptor)
    → BeginWithRecords bytes ds rest → BeginWithRecords rest es after
    → BeginWithRecords bytes (ds ++ es) after
more_records bytes rest after [] es none more = subst (λ b. BeginWithRecords b es after) (sym none) more
more_records bytes rest after (d ∷ ds) es records more =
    (records.0, records.1, records.2, more_records records.1 rest after ds es records.3 more, records.4)

-- Enough bytes that begin with the tag begin with one record, and then what follows it.
pub first_record : (bytes : List ℕ) → BeginWith bytes record_tag → record_length ≤ length bytes
    → BeginWithRecords bytes (resource_in (take record_length bytes) ∷ []) (drop record_length bytes)
first_record [] begin enough = absurd (omega arith)
first_record (t ∷ bytes) begin enough =
    let begun : t ∷ bytes ≡ record_tag ∷ begin.0 = begin.1 in
    let tag : t ≡ record_tag = cc in
    let is : IsRecord (take record_length (t ∷ bytes)) _ =
    record { size = length-take-le record_length (t ∷ bytes) enough; tag = tag; fields = refl } in (
      take record_length (t ∷ bytes),
      drop record_length (t ∷ bytes),
      is,
      refl,
      sym (take-append-drop record_length (t ∷ bytes)),
    )

-- There is a resource for each record.
length-resources : (count : ℕ) (records : List ℕ) → length (resources count records) ≡ count
length-resources zero records = refl
length-resources (suc count) records = ap suc (length-resources count (drop record_length records))

pub resource_count : (records : List ℕ) → length (resources_in records) ≡ length records / record_length
resource_count records = length-resources (length records / record_length) records

-- The resource of the first record, and those of the others.
pub next_resource : (records : List ℕ) → record_length ≤ length records → resources_in records ≡ resource_in
    (take record_length records) ∷ resources_in (drop record_length records)
next_resource records enough =
    let count : length records / record_length ≡ suc (length (drop record_length records) / record_length) =
    omega (arith, length-drop record_length records) in
    ap (λ n. resources n records) count

resource_before : (first rest : List ℕ) → length first ≡ record_length
    → resources_in (first ++ rest) ≡ resource_in first ∷ resources_in rest
resource_before first rest size =
    let begin = take_at first rest record_length size in
    let others = drop_at first rest record_length size in
    next_resource (first ++ rest) (omega (arith, size, length-append first rest))
    ∙ (λ i. resource_in (begin i) ∷ resources_in (others i))

-- The bytes of records, which are read as the resources whose records they are.
text_of : (bytes rest : List ℕ) (ds : List QwordAddressSpaceDescriptor) → BeginWithRecords bytes ds rest
    → (text : List ℕ) × (bytes ≡ text ++ rest) × (resources_in text ≡ ds)
text_of bytes rest [] none = ([], none, refl)
text_of bytes rest (d ∷ ds) records =
    let first = records.0 in
    let others = text_of records.1 rest ds records.3 in (
      first ++ others.0,
      records.4 ∙ ap (λ b. first ++ b) others.1 ∙ sym (append_assoc first others.0 rest),
      resource_before first others.0 records.2.size ∙ (λ i. sym records.2.fields i ∷ others.2 i),
    )

-- So are the bytes before the rest.
pub are_read : (bytes rest : List ℕ) (ds : List QwordAddressSpaceDescriptor) → BeginWithRecords bytes ds rest
    → resources_in (take (length bytes - length rest) bytes) ≡ ds
are_read bytes rest ds records =
    let text = text_of bytes rest ds records in
    let size = length bytes - length rest in
    ap resources_in (ap (take size) text.1
    ∙ take_at text.0 rest size (omega (arith, ap length text.1, length-append text.0 rest))) ∙ text.2

-- What follows records is no longer than the whole.
pub rest_within : (bytes rest : List ℕ) (ds : List QwordAddressSpaceDescriptor) → BeginWithRecords bytes ds rest
    → length rest ≤ length bytes
rest_within bytes rest ds records =
    let text = text_of bytes rest ds records in
    omega (arith, ap length text.1, length-append text.0 rest)
