use Rattle.std.proofs.Common.{◌∙◌, ◌++◌, ap, map, refl}
use Rattle.std.specs.Prelude.{◌||◌}
use Rattle.uefi_audits.specs.OutOfPlace.{if_broken, if_misplaced, misplaced_of}
use Rattle.uefi_audits.specs.private.Counting.{finding_of}
use Rattle.uefi_audits.proofs.Numbered.{all_appended}
use Rattle.uefi_audits.proofs.OutOfPlace.{one_judged, separated_more}
use Rattle.uefi_audits.proofs.out_of_place.push_misplaced.Goals as goal

pub loop-index-preserved : goal.loop-index-preserved
loop-index-preserved g c =
    let all = c.args.all.now in
    let index = c.loop-index.index in
    let item = c.index-all-index.result in
    let before = c.loop-index.invariant in
    record {
      found = one_judged c.args.pcr c.args.is_of_bios all index item c.loop-index.is_separated _ _ _ c.loop-index-test.true
          c.index-all-index.is before.separated before.found
          (c.in_ok-push_if_broken.ensures
          ∙ ap (λ rule. map misplaced_of c.loop-index.found.items ++ if_broken index (finding_of item).entry rule) c.rule_at-rule.ensures);
      separated = ap (λ it. c.loop-index.is_separated || it) c.separates-is_separated.ensures
          ∙ separated_more c.args.pcr all index item c.loop-index.is_separated c.loop-index-test.true c.index-all-index.is
          before.separated;
    }

pub returns : goal.returns
returns g c =
    all_appended (if_misplaced c.args.pcr c.args.is_of_bios (map finding_of c.args.all.now)) finding_of c.args.all.now
    (map finding_of c.args.all.now) c.loop-index.index _ _ refl c.loop-index-test.false c.loop-index.invariant.found
