use Rattle.std.proofs.Common.{◌≡◌, ℕ, Option, None, Some, refl, rules, not, ap, sym, ◌∙◌}
use borrow.Author.Tests.{tests}
use Rattle.std.proofs.lemmas.Iterator.{YieldsList-from_map}
use Rattle.std.proofs.lemmas.Iterator.Consumers.{YieldsList-from_first}
use Rattle.std.proofs.lemmas.Iterator.Search.{find_from_yields_List}
use Rattle.std.specs.Option.{unwrap_or, option_map, option_eq}
use Rattle.std.specs.Prelude.{nat_eq}
use Rattle.uefi_path_text.specs.private.FileName.{characters_left}
use Rattle.uefi_path_text.specs.text.FileName.{is_node_character}
use Rattle.uefi_path_text.proofs.text.file_name.reads_as_node.Goals as goal

-- What `find` returned is what it found.
as_found : (r : Option ℕ) → option_map (λ x. x) r ≡ r
as_found None = refl
as_found (Some x) = refl

pub returns : goal.returns
returns c =
    let found = find_from_yields_List (λ x. not (is_node_character x)) c.find.new.self _ c.find.result c.find.ensures.ran
    (YieldsList-from_map _ (λ o. unwrap_or o 0xfffd) (YieldsList-from_first (λ x. x) characters_left (characters_left c.args.name) (ap characters_left c.map.ensures.source))
    c.map.ensures.closure (λ x r q k. search (rules, tests)))
    (λ x b q k. search (rules, tests)) in
    c.eq.ensures ∙ ap (λ r. option_eq nat_eq r (Some 0x28)) (sym (as_found c.find.result) ∙ found)
