use Rattle.std.proofs.Common.{◌∙◌, ap, sym}
use Rattle.uefi_audits.specs.diff.Counterparts.{before}
use Rattle.uefi_audits.proofs.diff.Words.{prefix, whole}
use Rattle.uefi_audits.proofs.diff.names.before.Goals as goal

pub returns-in-Some : goal.returns-in-Some
returns-in-Some c =
    prefix c.args.value c.in-Some.prefix.now _ c.in-Some.ensures.0
    ∙ ap (before c.args.value) (sym c.in-Some.ensures.1)

pub returns-in-None : goal.returns-in-None
returns-in-None c = whole c.args.value c.args.bytes.now c.in-None.ensures
