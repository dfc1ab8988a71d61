use Rattle.std.proofs.Common.{◌≡◌, [], ap, arith, map, rules}
use Rattle.uefi_audits.specs.diff.Views.{difference_of, numbered_of, parts_of}
use Rattle.uefi_audits.proofs.diff.Below.{none_below, one_differs, one_same}
use Rattle.uefi_audits.proofs.diff.difference.differences_of.Goals as goal
use Rattle.uefi_audits.proofs.diff.difference.differences_of.Goals.{in-Some+in_ok-push, in_default}

pub loop-pcr-init : goal.loop-pcr-init
loop-pcr-init c =
    let none : c.new-found.result.items ≡ [] = search rules in record {
      below = none_below _ _ _ (map difference_of c.new-found.result.items) (ap (map difference_of) none);
      within = omega arith;
    }

pub loop-pcr-preserved : goal.loop-pcr-preserved
loop-pcr-preserved c =
    let parts = parts_of c.args.parts.now in
    let olds = map numbered_of c.args.olds.now in
    let news = map numbered_of c.args.news.now in
    let pcr = c.loop-pcr.pcr in
    let before = c.loop-pcr.invariant.below in record {
      below = elim c.match-branch-2.branch [
        | in-Some+in_ok-push w ↦ one_differs parts olds news pcr c.loop-pcr.found.items c.match-branch-2.found.items _
            w.in-Some.difference before c.in_ok-difference.ensures w.in-Some.is (search rules)
        | in_default w ↦ rw w.found-is
            (one_same parts olds news pcr c.loop-pcr.found.items _ before c.in_ok-difference.ensures w.in_default.is)
      ];
      within = omega arith;
    }
