use Rattle.std.proofs.Common.{List, map, rules, subst}
use Rattle.std.proofs.lemmas.Result.{IfOk-weaker}
use Rattle.uefi_audits.specs.diff.Differences.{AreChanged, Change}
use Rattle.uefi_audits.specs.diff.Views.{change_of, parts_of}
use Rattle.uefi_audits.proofs.diff.Parted.{joined}
use Rattle.uefi_audits.proofs.diff.difference.changed_in.Goals as goal

pub returns : goal.returns
returns c =
    IfOk-weaker c.changed.result _ _
    (λ found are. subst (λ (pairs : List Change). AreChanged (parts_of c.args.parts.now) pairs (map change_of found.items))
    (joined c.args.pairs.now c.in_ok-left.left.items c.as_slice-2.result.now (search rules) c.in_ok-left.ensures) are)
    c.changed.ensures
