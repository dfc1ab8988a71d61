-- All bytes begin with exactly one list, or have exactly one fault.
use Rattle.std.proofs.Common.{◌≡◌, ℕ, suc, zero, ◌≤◌, ◌≢◌, ◌⊎◌, List, [], ◌∷◌, ◌++◌, length, take, drop, refl, sym, ◌∙◌}
use Rattle.std.proofs.Common.{ap, subst, arith, inl, inr, length-append, length-drop, get_or}
use Rattle.std.specs.Prelude.{◌==◌, if◌then◌else◌}
use Rattle.std.proofs.lemmas.List.{take_at, drop_at, get_or_append_left}
use Rattle.std.proofs.lemmas.Bool.{cases_eq, cases_lt}
use Rattle.std.proofs.lemmas.Bool.Decides.{nat_tests}
use Rattle.uefi_map.specs.declared.pci.resource.QwordAddressSpaceDescriptor.{QwordAddressSpaceDescriptor}
use Rattle.uefi_map.specs.declared.pci.resource_error.ResourceError.{ResourceError}
use Rattle.uefi_map.specs.declared.pci.resource_error.ResourceError.TheVariants.{NoEndTag, CutRecord, UnknownTag}
use Rattle.uefi_map.specs.declared.pci.resource_error.ResourceError.TheVariants.{Memory}
use Rattle.uefi_map.specs.pci.Resource.{record_tag, record_length, resource_in, IsRecord}
use Rattle.uefi_map.specs.pci.ResourceList.{BeginWithRecords, BeginWith, end_tag, HaveList, IsFaultOf, HaveFault}
use Rattle.uefi_map.specs.pci.ResourceList.{HaveSomeList, HaveSomeFault, HaveOneList, HaveOneFault}
use Rattle.uefi_map.specs.pci.Laws.{ListOrFault, NeverBoth, ListAlone, FaultAlone}
use Rattle.uefi_map.proofs.pci.Records.{more_records, first_record}

-- The bytes begin with no record.
abbrev NoRecord : List ℕ → Type 0
NoRecord rest = (first after : List ℕ) (d : QwordAddressSpaceDescriptor) → IsRecord first d → rest ≡ first ++ after → ⊥

-- The records up to where none comes are one list, and what follows them is one.
one_walk : (ds es : List QwordAddressSpaceDescriptor) (bytes r s : List ℕ) → BeginWithRecords bytes ds r
    → BeginWithRecords bytes es s
    → NoRecord r → NoRecord s → (ds ≡ es) × (r ≡ s)
one_walk [] [] bytes r s p q none_r none_s = (refl, sym p ∙ q)
one_walk [] (e ∷ es) bytes r s p q none_r none_s = absurd (none_r q.0 q.1 e q.2 (sym p ∙ q.4))
one_walk (d ∷ ds) [] bytes r s p q none_r none_s = absurd (none_s p.0 p.1 d p.2 (sym q ∙ p.4))
one_walk (d ∷ ds) (e ∷ es) bytes r s p q none_r none_s =
    let whole : p.0 ++ p.1 ≡ q.0 ++ q.1 = sym p.4 ∙ q.4 in
    let text : p.0 ≡ q.0 = sym (take_at p.0 p.1 record_length p.2.size) ∙ ap (take record_length) whole
    ∙ take_at q.0 q.1 record_length q.2.size in
    let after : p.1 ≡ q.1 = sym (drop_at p.0 p.1 record_length p.2.size) ∙ ap (drop record_length) whole
    ∙ drop_at q.0 q.1 record_length q.2.size in
    let rest = one_walk ds es q.1 r s (subst (λ b. BeginWithRecords b ds r) after p.3) q.3 none_r none_s in
    let first : d ≡ e = p.2.fields ∙ ap resource_in text ∙ sym q.2.fields in
    let others : ds ≡ es = rest.0 in
    ((cc), rest.1)

-- A record begins with its tag, and has all its bytes.
abbrev first_byte : List ℕ → ℕ
first_byte bytes = get_or bytes 0 0

tag_of : (text after more : List ℕ) (d : QwordAddressSpaceDescriptor) (tag : ℕ) → IsRecord text d
    → tag ∷ more ≡ text ++ after → tag ≡ record_tag
tag_of text after more d tag is e =
    ap first_byte e ∙ get_or_append_left text after 0 0 (omega (arith, is.size)) ∙ is.tag

long_enough : (rest text after : List ℕ) (d : QwordAddressSpaceDescriptor) → IsRecord text d → rest ≡ text ++ after
    → record_length ≤ length rest
long_enough rest text after d is e = omega (arith, is.size, ap length e, length-append text after)

other_tag : (rest : List ℕ) (tag : ℕ) → BeginWith rest tag → (tag ≡ record_tag → ⊥) → NoRecord rest
other_tag rest tag begin other text after d is e = other (tag_of text after begin.0 d tag is (sym begin.1 ∙ e))

none_at_end : (rest : List ℕ) → BeginWith rest end_tag → NoRecord rest
none_at_end rest begin = other_tag rest end_tag begin (λ same. absurd (omega (arith, same)))

none_at_fault : (rest : List ℕ) (fault : ResourceError) → IsFaultOf rest fault → NoRecord rest
none_at_fault rest NoEndTag empty =
    λ text after d is e. omega (arith, long_enough rest text after d is e, ap length empty)
none_at_fault rest CutRecord cut = λ text after d is e. omega (arith, long_enough rest text after d is e, cut.1)
none_at_fault rest (UnknownTag tag) unknown = other_tag rest tag unknown.0 unknown.1
none_at_fault rest Memory never = absurd never

pub list_alone : ListAlone
list_alone bytes ds es p q = (one_walk ds es bytes p.0 q.0 p.1 q.1 (none_at_end p.0 p.2) (none_at_end q.0 q.2)).0

-- The first byte decides which fault the bytes have.
abbrev fault_at : List ℕ → ResourceError
fault_at [] = NoEndTag
fault_at (tag ∷ rest) = if tag == record_tag then CutRecord else UnknownTag tag

unknown_at : (tag : ℕ) → tag ≢ record_tag → UnknownTag tag ≡ (if tag == record_tag then CutRecord else UnknownTag tag)
unknown_at tag other = grind (arith, nat_tests)

fault_is : (rest : List ℕ) (fault : ResourceError) → IsFaultOf rest fault → fault ≡ fault_at rest
fault_is rest NoEndTag empty = sym (ap fault_at empty)
fault_is rest CutRecord cut = sym (ap fault_at cut.0.1)
fault_is rest (UnknownTag tag) unknown = unknown_at tag unknown.1 ∙ sym (ap fault_at unknown.0.1)
fault_is rest Memory never = absurd never

pub fault_alone : FaultAlone
fault_alone bytes f g p q =
    let same : p.1 ≡ q.1 = (one_walk p.0 q.0 bytes p.1 q.1 p.2 q.2 (none_at_fault p.1 f p.3)
    (none_at_fault q.1 g q.3)).1 in
    fault_is p.1 f p.3 ∙ ap fault_at same ∙ sym (fault_is q.1 g q.3)

-- The end tag is no fault.
end_is_no_fault : (rest : List ℕ) (fault : ResourceError) → BeginWith rest end_tag → IsFaultOf rest fault → ⊥
end_is_no_fault rest NoEndTag end empty = absurd (omega (arith, ap length (sym empty ∙ end.1)))
end_is_no_fault rest CutRecord end cut = absurd (omega (arith, ap first_byte (sym end.1 ∙ cut.0.1)))
end_is_no_fault rest (UnknownTag tag) end unknown = unknown.2 (ap first_byte (sym unknown.0.1 ∙ end.1))
end_is_no_fault rest Memory end never = never

pub never_both : NeverBoth
never_both bytes has faulty =
    let p = has.1 in
    let q = faulty.1 in
    let same : p.0 ≡ q.1 = (one_walk has.0 q.0 bytes p.0 q.1 p.1 q.2 (none_at_end p.0 p.2)
    (none_at_fault q.1 faulty.0 q.3)).1 in
    end_is_no_fault q.1 faulty.0 (subst (λ (rest : List ℕ). BeginWith rest end_tag) same p.2) q.3

-- A list or a fault, after one record more.
abbrev ListOrFaultOf : List ℕ → Type 0
ListOrFaultOf bytes = HaveSomeList bytes ⊎ HaveSomeFault bytes

after_record : (bytes after : List ℕ) (d : QwordAddressSpaceDescriptor) → BeginWithRecords bytes (d ∷ []) after
    → ListOrFaultOf after → ListOrFaultOf bytes
after_record bytes after d first (inl p) =
    inl (d ∷ p.0, (p.1.0, more_records bytes after p.1.0 (d ∷ []) p.0 first p.1.1, p.1.2))
after_record bytes after d first (inr p) =
    inr (p.0, (d ∷ p.1.0, p.1.1, more_records bytes after p.1.1 (d ∷ []) p.1.0 first p.1.2, p.1.3))

fault_here : (bytes : List ℕ) (fault : ResourceError) → IsFaultOf bytes fault → ListOrFaultOf bytes
fault_here bytes fault p = inr (fault, ([], bytes, refl, p))

-- By recursion on a number that the length doesn't exceed.
found_within : (n : ℕ) (bytes : List ℕ) → length bytes ≤ n → ListOrFaultOf bytes
found_within n [] within = fault_here [] NoEndTag refl
found_within zero (t ∷ bytes) within = absurd (omega arith)
found_within (suc n) (t ∷ bytes) within =
    elim (cases_eq t record_tag) [
      | inl is_record ↦
          let begin : BeginWith (t ∷ bytes) record_tag = (bytes, ap (λ u. u ∷ bytes) is_record) in
          elim (cases_lt (length (t ∷ bytes)) record_length) [
            | inl short ↦ fault_here (t ∷ bytes) CutRecord (begin, short)
            | inr enough ↦
                let after = drop record_length (t ∷ bytes) in
                after_record (t ∷ bytes) after _ (first_record (t ∷ bytes) begin enough)
                (found_within n after (omega (arith, length-drop record_length (t ∷ bytes))))
          ]
      | inr no_record ↦ elim (cases_eq t end_tag) [
        | inl is_end ↦ inl ([], (t ∷ bytes, refl, (bytes, ap (λ u. u ∷ bytes) is_end)))
        | inr no_end ↦ fault_here (t ∷ bytes) (UnknownTag t) ((bytes, refl), no_record, no_end)
      ]
    ]

pub list_or_fault : ListOrFault
list_or_fault bytes = found_within (length bytes) bytes (omega arith)

-- A list is the only one, and a fault is.
pub have_one_list : (bytes : List ℕ) (list : List QwordAddressSpaceDescriptor) → HaveList bytes list
    → HaveOneList bytes list
have_one_list bytes list stands = record {
  stands = stands;
  no_other = λ other has. list_alone bytes other list has stands;
  no_fault = never_both bytes (list, stands);
}

pub have_one_fault : (bytes : List ℕ) (fault : ResourceError) → HaveFault bytes fault → HaveOneFault bytes fault
have_one_fault bytes fault stands = record {
  stands = stands;
  no_other = λ other has. fault_alone bytes other fault has stands;
  no_list = λ has. never_both bytes has (fault, stands);
}
