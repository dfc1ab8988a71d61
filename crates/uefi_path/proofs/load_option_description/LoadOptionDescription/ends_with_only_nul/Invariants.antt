use Rattle.std.proofs.Common.{take}
use Rattle.uefi_path.specs.LoadOption.{AreNonzeroUnits}
use Rattle.uefi_path.specs.LoadOptionParts.{description_units}
use Rattle.uefi_path.proofs.load_option_description.LoadOptionDescription.ends_with_only_nul.Given as goal

abbrev pub invariant-loop-i : goal.invariant-loop-i
invariant-loop-i l = AreNonzeroUnits (take l.i (description_units l.self))
