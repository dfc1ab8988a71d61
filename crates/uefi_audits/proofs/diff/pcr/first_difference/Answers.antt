use Rattle.std.proofs.Common.{◌≡◌, ◌∙◌, arith, map, sym}
use Rattle.std.proofs.lemmas.List.{length-map}
use Rattle.uefi_audits.specs.diff.Differences.{compared_at}
use Rattle.uefi_audits.specs.diff.Views.{parts_of}
use Rattle.uefi_audits.specs.private.diff.Ranks.{numbered_at}
use Rattle.uefi_audits.proofs.diff.Pcrs.{all_same, below_more, event_got}
use Rattle.uefi_audits.proofs.diff.pcr.first_difference.Goals as goal

pub loop-at-preserved : goal.loop-at-preserved
loop-at-preserved c =
    let old = c.args.old.now in
    let new = c.args.new.now in
    let at = c.loop-at.at in
    let parts = parts_of c.args.parts.now in
    below_more (λ k. compared_at parts (map numbered_at old) k ≡ compared_at parts (map numbered_at new) k) at
    c.loop-at.invariant
    (sym (event_got parts old at c.get.result c.copied-one.result c.copied-one.ensures c.get.ensures.lookup.0 c.get.ensures.lookup.1)
    ∙ c.in_ok-is_same_or_none.ensures.0 c.if-not-branch.false ∙ event_got parts new at c.get-in-loop-at.result c.copied-other.result
    c.copied-other.ensures c.get-in-loop-at.ensures.lookup.0 c.get-in-loop-at.ensures.lookup.1)

pub returns : goal.returns
returns c =
    let old = length-map c.args.old.now numbered_at in
    let new = length-map c.args.new.now numbered_at in
    all_same (parts_of c.args.parts.now) _ _ (λ k below. c.loop-at.invariant k
    (omega (arith, below, old, new, c.loop-at-test.false, c.max-at-end.ensures)))
