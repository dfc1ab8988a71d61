use Rattle.std.proofs.Common.{◌≡◌, refl}
use Rattle.uefi_records.specs.time.Fields.{TimeFields, without_pads}
use Rattle.uefi_listing.specs.Time.{date_text, clock_text, zone_text, time_line}
use Rattle.uefi_listing.proofs.time.push_time_listing.Goals as goal

-- A line shows no padding.
time_line-without_pads : (time : TimeFields) → time_line (without_pads time) ≡ time_line time
unfolding date_text clock_text zone_text time_line
time_line-without_pads time = refl

pub returns-in_ok-push_time-in-Ok : goal.returns-in_ok-push_time-in-Ok
returns-in_ok-push_time-in-Ok g c =
    let read = c.in-Ok.ensures.ok in
    let grown = rw (read.2, time_line-without_pads read.0) at c.in_ok-push_time-in-Ok.ensures in
    (time_line read.0, (read.0, record { stands = read.1; faultless = read.3; line = refl }), grown)
