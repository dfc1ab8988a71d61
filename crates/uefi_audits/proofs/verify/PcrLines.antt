-- The lines of PCRs: each states one.
use Rattle.std.proofs.Common.{◌≡◌, ◌∙◌, ℕ, List, [], ◌∷◌, ◌++◌, ap, sym, inl, inr, true, false, Bool}
use Rattle.std.specs.Prelude.{Option, Some, None, MatchOption, is_some, ◌↔◌}
use Rattle.std.specs.Borrow.{Bor}
use Rattle.pcr_replay.specs.declared.bank.Bank.{Bank}
use Rattle.uefi_audits.specs.declared.verify.held.HeldPcr.{HeldPcr}
use Rattle.uefi_audits.specs.declared.verify.held.Section.{Section}
use Rattle.uefi_audits.specs.declared.verify.held.Section.TheVariants.{Replayed}
use Rattle.uefi_audits.specs.verify.Reading.{Adds, IsNew, IsPcrLine, IsTpm1Line, Stated, StatesPcr}

-- Whether it is the line of a PCR, from what was read of it.
pub is_pcr_line : (line : List ℕ) (found : Option (ℕ × Bor (List ℕ))) (some : Bool)
    → MatchOption found ((number : ℕ) (digits : List ℕ) → IsPcrLine line number digits → ⊥)
    (λ pair. IsPcrLine line pair.0 pair.1.now) → some ≡ is_some found
    → (some ≡ true) ↔ ((number : ℕ) × (digits : List ℕ) × IsPcrLine line number digits)
is_pcr_line line None some none is =
    ((λ so. let h : true ≡ false = sym so ∙ is in cc), (λ so. absurd (none so.0 so.1 so.2)))
is_pcr_line line (Some pair) some line_is is = ((λ so. (pair.0, pair.1.now, line_is)), (λ so. is))

-- A line that states no PCR of either form states none.
pub states_none : (section : Section) (line : List ℕ)
    → ((number : ℕ) (digits : List ℕ) → IsTpm1Line line number digits → ⊥)
    → ((bank : Bank) → section ≡ Replayed bank → (number : ℕ) (digits : List ℕ) → IsPcrLine line number digits → ⊥)
    → (held : HeldPcr) → StatesPcr section line held → ⊥
states_none section line no_tpm1 no_line held states =
    elim states.2 [
      | inl here ↦ no_line held.bank here.0 held.pcr states.0 here.1
      | inr here ↦ no_tpm1 held.pcr states.0 here.1
    ]

-- A new PCR was added.
pub states_new : (before : Stated) (line : List ℕ) (held : HeldPcr) (items : List HeldPcr)
    → StatesPcr before.section line held → IsNew held before.pcrs → items ≡ before.pcrs ++ held ∷ []
    → Adds before line (record { pcrs = items; unsupported = before.unsupported; section = before.section })
states_new before line held items states new is =
    inr (inl (
      held,
      states,
      new,
      ap (λ pcrs. let s : Stated = record { pcrs = pcrs; unsupported = before.unsupported; section = before.section } in s) is,
    ))
