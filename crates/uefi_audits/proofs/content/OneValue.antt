-- What the value of a variable says is one thing.
use Rattle.std.proofs.Common.{◌≡◌, ℕ, List, sym, ap, ◌∙◌, Option}
use Rattle.uefi_path.specs.LoadOption.{IsLoadOption, OneLoadOption, load_option_bytes}
use Rattle.uefi_base.specs.Unaligned.{AreUnits, unit_bytes}
use Rattle.tcg_event.specs.BootOrder.{OneBootOrder}
use Rattle.tcg_event.specs.Laws.{OneEncoded}
use Rattle.tcg_event.specs.Reading.{Reads}
use Rattle.tcg_event.specs.Signature.{AreSignatureLists, IsSignature, OneSignature, lists_bytes, signature_bytes}
use Rattle.tcg_event.proofs.OneValue.{one_read}
use Rattle.uefi_audits.specs.content.Value.{SaysValue, Value, boot_option, boot_order, signature, signature_lists, value_or_unread}
use Rattle.uefi_audits.specs.content.Value.{ValueForm, OfBootOption, OfBootOrder, OfSignatureLists, OfSignature, OfNothing}

-- The laws that this rests on.
pub record OneOfEach : Type 0 where
  pub load_option : OneLoadOption
  pub boot_order : OneBootOrder
  pub signature : OneSignature

one_found : {A : Type 0} (Is : A → Type 0) (encoding : A → List ℕ) (says : A → Value) → OneEncoded Is encoding
    → (bytes : List ℕ) (a b : Value) → ((found : Option A) × Reads Is encoding bytes found × (a ≡ value_or_unread says found))
    → ((found : Option A) × Reads Is encoding bytes found × (b ≡ value_or_unread says found)) → a ≡ b
one_found Is encoding says one bytes a b (found, read, is) (also, other, that) =
    is ∙ ap (value_or_unread says) (one_read Is encoding one bytes found also read other) ∙ sym that

pub one_value : OneOfEach → (form : ValueForm) (bytes : List ℕ) (a b : Value) → SaysValue form bytes a
    → SaysValue form bytes b → a ≡ b
unfolding SaysValue
one_value laws OfBootOption bytes a b says other =
    one_found IsLoadOption load_option_bytes boot_option laws.load_option bytes a b says other
one_value laws OfBootOrder bytes a b says other =
    one_found AreUnits unit_bytes boot_order laws.boot_order bytes a b says other
one_value laws OfSignatureLists bytes a b says other =
    one_found AreSignatureLists lists_bytes signature_lists laws.signature.lists bytes a b says other
one_value laws OfSignature bytes a b says other =
    one_found IsSignature signature_bytes signature laws.signature.signature bytes a b says other
one_value laws OfNothing bytes a b says other = says ∙ sym other
