use Rattle.std.proofs.Common.{◌∙◌, ap, rules, sym, Some, nat_eq}
use borrow.Author.Tests.{tests}
use Rattle.std.proofs.lemmas.Iterator.{YieldsList-from_slice}
use Rattle.std.proofs.lemmas.Iterator.Search.{find_from_yields_List}
use Rattle.std.specs.Option.{option_eq}
use Rattle.uefi_path_text.specs.private.Pieces.{is_mark}
use Rattle.uefi_path_text.proofs.reading.FirstMarks.{same_byte, before_slash, before_comma}
use Rattle.uefi_path_text.proofs.parse.piece.first_mark.Goals as goal

pub returns-then-eq-clause-first : goal.returns-then-eq-clause-first
returns-then-eq-clause-first c =
    let found = find_from_yields_List is_mark _ _ c.find.result c.find.ensures.ran
    (YieldsList-from_slice c.args.text.now cc) (λ x b q k. search (rules, tests)) in
    before_slash c.args.text.now
    (sym (c.if-eq.ensures ∙ same_byte c.find.result _ ∙ ap (λ r. option_eq nat_eq r (Some 0x2f)) found))

pub returns-else-eq-clause-first : goal.returns-else-eq-clause-first
returns-else-eq-clause-first c =
    let found = find_from_yields_List is_mark _ _ c.find.result c.find.ensures.ran
    (YieldsList-from_slice c.args.text.now cc) (λ x b q k. search (rules, tests)) in
    before_comma c.args.text.now
    (sym (c.if-eq.ensures ∙ same_byte c.find.result _ ∙ ap (λ r. option_eq nat_eq r (Some 0x2f)) found))
