use Rattle.std.proofs.Common.{refl, rules, sym, ◌∙◌}
use borrow.Author.Tests.{tests}
use Rattle.std.proofs.lemmas.Iterator.Consumers.{YieldsList-from_first}
use Rattle.std.proofs.lemmas.Iterator.Search.{all_from_yields_List}
use Rattle.std.proofs.lemmas.List.Folds.{list_all-map}
use Rattle.std.specs.Option.{unwrap_or}
use Rattle.uefi_path_text.specs.private.FileName.{characters_left}
use Rattle.uefi_path_text.specs.text.FileName.{is_name_character}
use Rattle.uefi_path_text.proofs.text.file_name.has_name_characters.Goals as goal

pub returns : goal.returns
returns c =
    all_from_yields_List (λ o. is_name_character (unwrap_or o 0xfffd)) c.all.new.self _ _ c.all.ensures.ran
    (YieldsList-from_first (λ x. x) characters_left {s = c.args.name} _ refl) (λ x b q k. search (rules, tests))
    ∙ sym (list_all-map is_name_character (λ o. unwrap_or o 0xfffd) (characters_left c.args.name))
