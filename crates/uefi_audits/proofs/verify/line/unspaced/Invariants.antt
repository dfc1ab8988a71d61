use Rattle.std.proofs.Common.{◌≡◌, ◌++◌, length}
use Rattle.std.specs.Option.{option_map}
use Rattle.uefi_audits.specs.verify.Reading.{unspaced}
use Rattle.uefi_audits.proofs.verify.line.unspaced.Given as goal

-- The digits so far and those of the rest are those of the text.
abbrev pub invariant-loop-high : goal.invariant-loop-high
invariant-loop-high g l = option_map (λ more. l.digits.items ++ more) (unspaced l.rest) ≡ unspaced l.text

abbrev pub decreases-loop-high : goal.decreases-loop-high
decreases-loop-high g l = length l.rest
