use Rattle.std.proofs.Common.{append_assoc}
use Rattle.uefi_listing.specs.Time.{clock_text}
use Rattle.uefi_listing.proofs.Digits.{padded_integral-zeros}
use Rattle.uefi_listing.proofs.time.ClockDisplay.fmt.Goals as goal

pub returns-clause-writes : goal.returns-clause-writes
unfolding clock_text
returns-clause-writes g c = simp append_assoc
    (simp (
      c.laid_out.ensures,
      c.laid_out-2.ensures,
      c.laid_out-3.ensures,
      c.laid_out-4.ensures,
      c.hour-hour.ensures,
      c.minute-minute.ensures,
      c.second-second.ensures,
      c.nanosecond-nanosecond.ensures,
      padded_integral-zeros,
      append_assoc,
    ) at c.write.ensures.writes)
