use Rattle.std.proofs.Common.{append_assoc}
use Rattle.uefi_listing.specs.Time.{date_text}
use Rattle.uefi_listing.proofs.Digits.{padded_integral-zeros}
use Rattle.uefi_listing.proofs.time.DateDisplay.fmt.Goals as goal

pub returns-clause-writes : goal.returns-clause-writes
unfolding date_text
returns-clause-writes g c = simp append_assoc
    (simp (
      c.laid_out.ensures,
      c.laid_out-2.ensures,
      c.laid_out-3.ensures,
      c.year-year.ensures,
      c.month-month.ensures,
      c.day-day.ensures,
      padded_integral-zeros,
      append_assoc,
    ) at c.write.ensures.writes)
