use Rattle.std.proofs.Common.{ap, ◌∙◌}
use Rattle.uefi_base.specs.Utf16.{before_nul}
use Rattle.uefi_base.specs.Views.{units_left}
use Rattle.uefi_base.proofs.Utf16.{unit_kept}
use Rattle.uefi_base.proofs.chars_lossy.CharsLossy.next_unit.Goals as goal

pub returns : goal.returns
returns c =
    ap before_nul c.in_ok-unit.ensures.steps ∙ unit_kept c.in_ok-unit.unit (units_left c.next.new.self) c.if-unit-eq0.false
