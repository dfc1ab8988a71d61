-- A text is read as a GUID, or has one error.
use Rattle.std.proofs.Common.{◌≡◌, ℕ, ◌<◌, true, false, List, slice_index, refl, sym, ap, ◌∙◌, arith}
use Rattle.std.proofs.Common.{Result, Ok, Err, subst}
use Rattle.uefi_base.specs.declared.guid.Guid.{Guid}
use Rattle.uefi_base.specs.declared.text_error.GuidFromStrError.{GuidFromStrError}
use Rattle.uefi_base.specs.declared.text_error.GuidFromStrError.TheVariants.{InvalidLength, InvalidSeparator, InvalidHex}
use Rattle.uefi_base.specs.GuidText.{is_separator, fits_guid, FitsGuidBefore, IsGuidText, guid_bytes}
use Rattle.uefi_base.specs.GuidReading.{IsFirstUnfit, HasGuidFault, ReadsGuid}

-- A byte that doesn't fit isn't before the first one.
not_before : (text : List ℕ) (i k : ℕ) → IsFirstUnfit text i → FitsGuidBefore text k → i < k → ⊥
not_before text i k first fits before =
    let fit : fits_guid i (slice_index text i) ≡ true = fits i before in
    let unfit : fits_guid i (slice_index text i) ≡ false = first.unfit in
    let both : true ≡ false = sym fit ∙ unfit in
    cc

-- There is one first byte that doesn't fit.
one_unfit : (text : List ℕ) (i k : ℕ) → IsFirstUnfit text i → IsFirstUnfit text k → i ≡ k
one_unfit text i k first other =
    let no_less : i < k → ⊥ = not_before text i k first other.before in
    let no_more : k < i → ⊥ = not_before text k i other first.before in
    grind (arith, no_less, no_more)

-- The text of a GUID has no error.
no_fault : (text : List ℕ) (fault : GuidFromStrError) → IsGuidText text → HasGuidFault text fault → ⊥
no_fault text InvalidLength is has = has is.sized
no_fault text (InvalidSeparator i) is has = not_before text i _ has.0 is.fits has.0.within
no_fault text (InvalidHex i) is has = not_before text i _ has.0 is.fits has.0.within

-- An index isn't both that of a dash and that of a hex digit.
not_both : (text : List ℕ) (i k : ℕ) → IsFirstUnfit text i → IsFirstUnfit text k
    → is_separator i ≡ true → is_separator k ≡ false → ⊥
not_both text i k first other dash digit =
    let both : true ≡ false = sym dash ∙ ap is_separator (one_unfit text i k first other) ∙ digit in
    cc

-- A text has one error.
one_fault : (text : List ℕ) (fault other : GuidFromStrError) → HasGuidFault text fault → HasGuidFault text other
    → fault ≡ other
one_fault text InvalidLength InvalidLength has also = refl
one_fault text InvalidLength (InvalidSeparator k) has also = absurd (has also.0.sized)
one_fault text InvalidLength (InvalidHex k) has also = absurd (has also.0.sized)
one_fault text (InvalidSeparator i) InvalidLength has also = absurd (also has.0.sized)
one_fault text (InvalidSeparator i) (InvalidSeparator k) has also =
    ap InvalidSeparator (one_unfit text i k has.0 also.0)
one_fault text (InvalidSeparator i) (InvalidHex k) has also = absurd (not_both text i k has.0 also.0 has.1 also.1)
one_fault text (InvalidHex i) InvalidLength has also = absurd (also has.0.sized)
one_fault text (InvalidHex i) (InvalidSeparator k) has also = absurd (not_both text k i also.0 has.0 also.1 has.1)
one_fault text (InvalidHex i) (InvalidHex k) has also = ap InvalidHex (one_unfit text i k has.0 also.0)

pub guid_is_read : (text : List ℕ) (guid : Guid) → IsGuidText text → guid.0 ≡ guid_bytes text → ReadsGuid text (Ok guid)
guid_is_read text guid is bytes = record {
  guid = bytes;
  accepted = (λ _. is, λ _. refl);
  refused = λ fault. (λ err. absurd cc, λ has. absurd (no_fault text fault is has));
}

error_of : {T : Type 0} (fault other : GuidFromStrError) → ◌≡◌ {A = Result T GuidFromStrError} (Err fault) (Err other)
    → fault ≡ other
error_of fault other same = cc

pub fault_is_returned : (text : List ℕ) (fault : GuidFromStrError) → HasGuidFault text fault
    → ReadsGuid text (Err fault)
fault_is_returned text fault has = record {
  guid = tt;
  accepted = (λ ok. absurd cc, λ is. absurd (no_fault text fault is has));
  refused = λ other. (
    λ err. let P : GuidFromStrError → Type 0 = HasGuidFault text in subst P (error_of fault other err) has,
    λ also. ap Err (one_fault text fault other has also),
  );
}
