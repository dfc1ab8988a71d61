use Rattle.std.proofs.Common.{List, ◌++◌, sym, ap, ◌∙◌, map, drop}
use Rattle.std.proofs.lemmas.List.{append-nil}
use Rattle.uefi_hii.specs.Pairs.{Pair, pairs}
use Rattle.uefi_c.specs.Config.{pair_seen}
use Rattle.uefi_c.proofs.PairSteps.{one_more}
use Rattle.uefi_c.proofs.callers.pairs.pairs_by_steps.Goals as goal

pub loop-pair-preserved : goal.loop-pair-preserved
loop-pair-preserved g c =
    let new = c.uefi_config_next_pair.new in
    let text = c.args.text.now in
    one_more c.loop-pair.views.items c.push.new.self.items new.out (pairs (drop c.loop-pair.offset text))
    (pairs (drop new.offset text)) (pairs text)
    c.in_ok-push.ensures.items (c.uefi_config_next_pair.ensures.pair c.loop-pair-test.true) c.loop-pair.invariant

pub returns : goal.returns
returns g c =
    let seen = map pair_seen c.loop-pair.views.items in
    sym (append-nil seen) ∙ ap (λ (t : List Pair). seen ++ t) (sym (c.uefi_config_next_pair.ensures.none c.loop-pair-test.false))
    ∙ c.loop-pair.invariant
