use Rattle.std.proofs.Common.{◌∙◌, ap, not, rules, Some, nat_eq}
use borrow.Author.Tests.{tests}
use Rattle.std.proofs.lemmas.Iterator.{YieldsList-from_slice}
use Rattle.std.proofs.lemmas.Iterator.Search.{find_from_yields_List}
use Rattle.std.specs.Option.{option_eq}
use Rattle.uefi_path_text.specs.text.FileName.{is_node_character}
use Rattle.uefi_path_text.proofs.reading.FirstMarks.{same_byte}
use Rattle.uefi_path_text.proofs.parse.piece.reads_as_node.Goals as goal

pub returns : goal.returns
returns c =
    let found = find_from_yields_List (λ x. not (is_node_character x)) _ _ c.find.result c.find.ensures.ran
    (YieldsList-from_slice c.args.text.now cc) (λ x b q k. search (rules, tests)) in
    c.eq.ensures ∙ same_byte c.find.result _ ∙ ap (λ r. option_eq nat_eq r (Some 0x28)) found
