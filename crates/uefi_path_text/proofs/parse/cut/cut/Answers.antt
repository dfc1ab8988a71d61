use Rattle.std.proofs.Common.{arith, rules, tests, eqb, ◌+◌, ◌≡◌, ◌<◌, length, sym, ◌∙◌}
use Rattle.std.specs.List.{position}
use Rattle.std.proofs.lemmas.Iterator.{YieldsList-from_slice}
use Rattle.std.proofs.lemmas.Iterator.Search.{position_from_yields_List}
use Rattle.std.proofs.lemmas.List.{take_rest, length-drop, length-take}
use Rattle.uefi_path_text.proofs.arguments.Parts.{cut_at_some, cut_at_none}
use Rattle.uefi_path_text.proofs.parse.cut.cut.Goals as goal

pub returns-in-Some : goal.returns-in-Some
returns-in-Some c =
    let found : c.position.result ≡ position (λ x. eqb x c.args.mark) c.args.text.now = position_from_yields_List (λ x. eqb x c.args.mark) _ _ c.position.result c.position.ensures.ran (YieldsList-from_slice c.args.text.now c.iter.ensures.rest) (λ x b q k. search (rules, tests)) in
    let cut = cut_at_some c.args.mark c.args.text.now c.in-Some.end (sym c.in-Some.is ∙ found) in
    let within : c.in-Some.end < length c.args.text.now = cut.0 in
    record {
      parts = rw (take_rest c.args.text.now (c.in-Some.end + 1)) cut.1;
      length = rw (take_rest c.args.text.now (c.in-Some.end + 1)) (omega (arith, length-drop (c.in-Some.end + 1) c.args.text.now, length-take c.in-Some.end c.args.text.now));
    }

pub returns-in-None : goal.returns-in-None
returns-in-None c =
    let found : c.position.result ≡ position (λ x. eqb x c.args.mark) c.args.text.now = position_from_yields_List (λ x. eqb x c.args.mark) _ _ c.position.result c.position.ensures.ran (YieldsList-from_slice c.args.text.now c.iter.ensures.rest) (λ x b q k. search (rules, tests)) in
    record {
      parts = cut_at_none c.args.mark c.args.text.now (sym c.in-None.is ∙ found);
      length = omega arith;
    }
