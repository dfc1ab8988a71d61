use Rattle.std.proofs.Common.{not, refl, rules}
use borrow.Author.Tests.{tests}
use Rattle.std.proofs.lemmas.Iterator.Consumers.{YieldsList-from_first}
use Rattle.std.proofs.lemmas.Iterator.Search.{any_from_yields_List}
use Rattle.std.specs.Option.{is_some}
use Rattle.uefi_path_text.specs.private.FileName.{characters_left}
use Rattle.uefi_path_text.proofs.text.file_name.has_unpaired_surrogate.Goals as goal

pub returns : goal.returns
returns c =
    any_from_yields_List (λ o. not (is_some o)) c.any.new.self _ _ c.any.ensures.ran
    (YieldsList-from_first (λ x. x) characters_left {s = c.args.name} _ refl) (λ x b q k. search (rules, tests))
