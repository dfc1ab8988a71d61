use Rattle.std.proofs.Common.{rules, tests}
use Rattle.std.proofs.lemmas.Iterator.{YieldsList-from_chars, first_from_find}
use Rattle.uefi_base.specs.Ucs2.{HasUnit}
use Rattle.uefi_base.proofs.Characters.{first_without_unit}
use Rattle.uefi_c.proofs.ucs2.first_without_unit.Goals as goal

pub returns : goal.returns
returns c =
    first_without_unit _ _
    (first_from_find _ _ _ (λ d. ¬ HasUnit d) HasUnit c.find.ensures.ran
    (YieldsList-from_chars c.args.text.now c.utf8.text cc) (λ x q k. search (rules, tests))
    (λ x q k. search (rules, tests)))
