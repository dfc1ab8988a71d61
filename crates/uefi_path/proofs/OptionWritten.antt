-- A load option that was written, and the view of it.
use Rattle.std.proofs.Common.{ℕ, ◌≤◌, ◌≡◌, List, [], ◌∷◌, length, take, sym, ◌∙◌, ap}
use Rattle.std.specs.Prelude.{Option, Result, Ok, Err, IsOk, IfOk, IfErr, OnOk, OnErr, MatchResult, ◌↔◌}
use denote.Ref.{shr_vals, shr_Tells, shr_Lawful}
use denote.Builtin.{RefOf}
use denote.Signature.{plain, named_lft}
use mir.Syntax.{named}
use Rattle.uefi_base.specs.Buffer.{put_prefix}
use Rattle.uefi_base.specs.declared.status.Error.{Error}
use Rattle.uefi_base.proofs.WalkNames.{refl as same}
use Rattle.uefi_base.proofs.WriterArgs.{Arg}
use Rattle.uefi_base.proofs.Written.{Wrote, Made, wrote, seen_in}
use Rattle.uefi_path.specs.LoadOption.{IsLoadOption, load_option_bytes}
use Rattle.uefi_path.specs.LoadOptionParts.{ArePartsOfOption, HasParts, IsOptionPut, IsWritingError, parts_size}
use Rattle.uefi_path.specs.LoadOptionViews.{load_option_of}
use Rattle.uefi_path.specs.private.Encoding.{EncodesOption}
use Rattle.uefi_path.specs.contracts.load_option_parts.LoadOptionParts.{the_row as Parts_row}
use Rattle.uefi_path.specs.declared.load_option.LoadOption.{LoadOption as LoadOptionView}
use Rattle.uefi_path.specs.declared.load_option_parts.LoadOptionParts.{LoadOptionParts}
use Rattle.uefi_path.proofs.OptionParts.{length-parts_bytes, option_bytes, parts_bytes, same_parts}

-- The argument: a `&LoadOptionParts`, borrowed for the second of three lifetimes.
abbrev pub parts_given : Arg 3
parts_given = record {
  slot = RefOf (1 ∷ []) tt (plain (λ κs. Parts_row (named_lft 3 2 tt κs))) (λ _. tt);
  silent = λ κs x f. same;
  vals = λ κs. shr_vals;
  tells = λ κs. shr_Tells (named 1) κs.1.0 (Parts_row (named_lft 3 2 tt κs));
  lawful = λ 𝓛 κs. shr_Lawful 𝓛 (named 1) κs.1.0 (Parts_row (named_lft 3 2 tt κs));
}

-- The bytes of the option that the view has.
abbrev pub option_view : LoadOptionView → List ℕ
option_view view = load_option_bytes (load_option_of view)

module _ (parts : LoadOptionParts) (old new : List ℕ) where
  abbrev Fits : Type 0
  Fits = ArePartsOfOption parts × (parts_size parts ≤ length old)

  abbrev pub WroteOption : Result ℕ (Error (Option ℕ)) → Type 0
  WroteOption = Wrote (parts_bytes parts) old new (parts_size parts) (ArePartsOfOption parts) Fits (IsWritingError parts)

  abbrev pub MadeOption : Result LoadOptionView (Error (Option ℕ)) → Type 0
  MadeOption made = Made option_view (parts_bytes parts) old new (ArePartsOfOption parts) Fits (IsWritingError parts) made
      × IfOk made (λ view. IsLoadOption (load_option_of view))

  bytes_put : (written : Result ℕ (Error (Option ℕ))) → OnOk written (IsOptionPut parts old new)
      → OnOk written (new ≡ put_prefix (parts_bytes parts) old) × OnOk written (ArePartsOfOption parts)
  bytes_put (Ok end) (option, is, has, put) =
      (put ∙ ap (λ part. put_prefix part old) (option_bytes parts option has), (option, is, has))
  bytes_put (Err error) put = (tt, tt)

  pub wrote_option : (written : Result ℕ (Error (Option ℕ))) → IfOk written (λ end. end ≡ parts_size parts)
      → OnOk written (IsOptionPut parts old new) → IfErr written (IsWritingError parts) → OnErr written (new ≡ old)
      → IsOk written ↔ Fits → WroteOption written
  wrote_option written end put fails unchanged fits =
      let both = bytes_put written put in wrote end both.0 both.1 fails unchanged fits

  pub option_sized : ArePartsOfOption parts → Fits → length (parts_bytes parts) ≡ parts_size parts
  option_sized is fits = length-parts_bytes parts

  encodes : ArePartsOfOption parts → Fits → EncodesOption (parts_bytes parts)
  encodes (option, is, has) fits = (option, record { is = is; encoded = sym (option_bytes parts option has) })

  pub option_seen : (written : Result ℕ (Error (Option ℕ))) → WroteOption written
      → IfOk written (λ end. (end ≤ length new) × EncodesOption (take end new))
  option_seen written answered = seen_in option_sized EncodesOption encodes written answered

  -- The view has the parts, and the buffer its option.
  pub option_made : (made : Result LoadOptionView (Error (Option ℕ))) → MadeOption made
      → MatchResult made (λ view. new ≡ put_prefix (load_option_bytes (load_option_of view)) old) (λ _. new ≡ old)
      × IfOk made (λ view. HasParts parts (load_option_of view))
  option_made (Ok view) (made, is_option) =
      let (option, is, has) = made.seen.1 in (
        made.after ∙ ap (λ part. put_prefix part old) (sym made.seen.0),
        same_parts parts option (load_option_of view) is is_option
            (made.seen.0 ∙ sym (option_bytes parts option has)) has,
      )
  option_made (Err error) (made, is_option) = (made.after, tt)
