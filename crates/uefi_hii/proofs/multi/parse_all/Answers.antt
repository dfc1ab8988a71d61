use Rattle.std.proofs.Common.{◌≡◌, sym, subst, [], ◌∷◌, ◌++◌}
use Rattle.uefi_hii.specs.Pairs.{pairs}
use Rattle.uefi_hii.specs.Views.{uncut_pairs}
use Rattle.uefi_hii.proofs.Wholes.{HasCut, cut_all, cut_more, cut_only}
use Rattle.uefi_hii.proofs.multi.parse_all.Goals as goal

pub loop-result-preserved : goal.loop-result-preserved
loop-result-preserved g c =
    let push : c.push.new.self.items ≡ c.loop-result.all.items ++ c.in-Some.result ∷ [] =
    cc (c.in_ok-push.ensures.items) in
    subst (HasCut {A = g.row.A.Denot} (pairs c.args.text.now) (uncut_pairs c.next.new.self)) (sym push)
    (cut_more (pairs c.args.text.now) (uncut_pairs c.loop-result.configurations)
    (uncut_pairs c.next.new.self) c.loop-result.all.items c.in-Some.result c.loop-result.invariant
    c.if-is_memory.ensures c.in-Some.ensures.steps.1)

pub returns-clause-cut : goal.returns-clause-cut
returns-clause-cut g c =
    cut_all c.args.text.now
    (uncut_pairs c.loop-result.configurations) c.loop-result.all.items c.loop-result.invariant
    c.in_default.ensures.steps.0

pub returns-clause-only : goal.returns-clause-only
returns-clause-only g c =
    cut_only c.args.text.now c.loop-result.all.items
    (cut_all c.args.text.now
    (uncut_pairs c.loop-result.configurations) c.loop-result.all.items c.loop-result.invariant
    c.in_default.ensures.steps.0)
