use Rattle.std.proofs.Common.{refl, arith}
use Rattle.uefi_hii.specs.declared.digit.TheConstants.{DIGITS}
use Rattle.uefi_hii.specs.Hex.{hex_digit}
use Rattle.uefi_hii.proofs.HexTable.{are_entries, digit_at, none_at}
use Rattle.uefi_hii.proofs.digit.hex_digit.Goals as goal

pub returns-then-digit-lt16-clause-value : goal.returns-then-digit-lt16-clause-value
unfolding are_entries hex_digit
returns-then-digit-lt16-clause-value c =
    digit_at DIGITS.now 0 c.args.c refl (omega (arith, c.ranges.c.fits)) c.if-digit-lt16.true

pub returns-else-digit-lt16-clause-value : goal.returns-else-digit-lt16-clause-value
unfolding are_entries hex_digit
returns-else-digit-lt16-clause-value c =
    none_at DIGITS.now 0 c.args.c refl (omega (arith, c.ranges.c.fits)) c.if-digit-lt16.false
