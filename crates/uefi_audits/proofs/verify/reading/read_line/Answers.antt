use Rattle.std.proofs.Common.{◌≡◌, false, inl, inr, refl, subst, true, List}
use Rattle.uefi_audits.specs.declared.verify.held.HeldPcr.{HeldPcr}
use Rattle.uefi_audits.specs.verify.Reading.{IsNew}
use Rattle.uefi_audits.specs.private.verify.Views.{stated_of}
use Rattle.uefi_audits.proofs.verify.PcrLines.{states_new}
use Rattle.uefi_audits.proofs.verify.reading.read_line.Goals as goal

pub returns-in-Some : goal.returns-in-Some
returns-in-Some g c = inl (c.in-Some.name.now, c.in-Some.ensures, c.in_ok-begin_bank.ensures c.args.section)

pub returns-in_default-2 : goal.returns-in_default-2
returns-in_default-2 g c = λ after adds.
    elim adds [
      | inl begins ↦ c.in_default.ensures begins.0 begins.1
      | inr more ↦ elim more [
        | inl states ↦ let none = rw c.in_default-2.is at c.in_ok-pcr.ensures in none states.0 states.1
        | inr passed ↦ elim passed.0 [
          | inl other ↦ let h : false ≡ true = c.if-is_passed_over.ensures.1 (inl other) in cc
          | inr quote ↦ let h : false ≡ true = c.if-is_passed_over.ensures.1 (inr quote.0) in cc
        ]
      ]
    ]

pub returns : goal.returns
returns g c =
    states_new (stated_of c.args.held.now c.args.section) c.args.line.now c.in-Some-2.pcr c.push.new.self.items
    (rw c.in-Some-2.is at c.in_ok-pcr.ensures)
    (subst (λ (items : List HeldPcr). IsNew c.in-Some-2.pcr items) c.as_slice.ensures.value (c.if-not-is_new.ensures.0 refl))
    c.in_ok-push.ensures.items
