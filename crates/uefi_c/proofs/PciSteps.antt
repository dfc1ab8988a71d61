-- A record of a resource that a cursor is at.
use Rattle.std.proofs.Common.{◌≡◌, ℕ, ◌+◌, ◌-◌, List, [], ◌∷◌, length, drop, sym, ap, subst, ◌∙◌}
use Rattle.std.proofs.lemmas.List.{drop-drop, drop_at}
use Rattle.std.specs.Prelude.{slice_index}
use Rattle.uefi_map.specs.declared.pci.resource.QwordAddressSpaceDescriptor.{QwordAddressSpaceDescriptor}
use Rattle.uefi_map.specs.pci.Resource.{record_length, range_type, resource_in}
use Rattle.uefi_map.specs.pci.ResourceList.{BeginWithRecords}
use Rattle.uefi_c.proofs.Cursors.{rest_at_end}

module _ (rest after : List ℕ) (resource : QwordAddressSpaceDescriptor)
    (begin : BeginWithRecords rest (resource ∷ []) after) where
  -- Its type is one that a number stands for.
  kind : resource.resource_range_type ≡ range_type (slice_index begin.0 3)
  unfolding resource_in
  kind = ap (λ (r : QwordAddressSpaceDescriptor). r.resource_range_type) begin.2.fields

  -- What follows it follows the cursor that moved.
  after_record : (list : List ℕ) (offset : ℕ) → rest ≡ drop offset list
      → drop (length list - length after) list ≡ after
  after_record list offset from = rest_at_end list after (offset + record_length)
      (sym begin.3 ∙ sym (drop_at begin.0 begin.1 record_length begin.2.size)
      ∙ ap (drop record_length) (sym begin.4 ∙ from)
      ∙ drop-drop record_length offset list)

  -- So the resource is between the two, as what was made of its fields says.
  pub one_record : (list : List ℕ) (offset new : ℕ) (seen : QwordAddressSpaceDescriptor) → rest ≡ drop offset list
      → new ≡ length list - length after
      → ((number : ℕ) → resource.resource_range_type ≡ range_type number → seen ≡ resource)
      → BeginWithRecords (drop offset list) (seen ∷ []) (drop new list)
  one_record list offset new seen from moved is =
      let there : BeginWithRecords (drop offset list) (resource ∷ []) after =
      subst (λ (b : List ℕ). BeginWithRecords b (resource ∷ []) after) from begin in
      let shown : BeginWithRecords (drop offset list) (seen ∷ []) after =
      subst (λ (r : QwordAddressSpaceDescriptor). BeginWithRecords (drop offset list) (r ∷ []) after)
      (sym (is (slice_index begin.0 3) kind)) there in
      subst (λ (t : List ℕ). BeginWithRecords (drop offset list) (seen ∷ []) t)
      (sym (ap (λ (n : ℕ). drop n list) moved ∙ after_record list offset from)) shown
