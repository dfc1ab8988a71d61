-- The worked rows hold.
use Rattle.std.proofs.Common.{refl}
use Rattle.uefi_tcg.specs.Entries.{placed}
use Rattle.pcr_replay.specs.Replay.{digests_by, only_digest, why_ignored}
use Rattle.pcr_replay.specs.Rows.{EventRows, RowsHold, StartRows, ValueRows}
use Rattle.pcr_replay.specs.Start.{contradiction, locality_fault, locality_in, start_value, stated_locality}

starts : StartRows
unfolding placed contradiction locality_fault stated_locality locality_in
starts = record {
  unstated = refl;
  stated_0 = refl;
  stated_3 = refl;
  stated_4 = refl;
  stated_twice = refl;
  of_another_pcr = refl;
  hcrtm_alone = refl;
  hcrtm_and_stated_4 = refl;
  hcrtm_and_stated_3 = refl;
  two_that_differ = refl;
  another_value = refl;
  late = refl;
  after_another_pcr = refl;
}

values : ValueRows
unfolding placed start_value
values = record {
  pcr_0 = refl;
  pcr_16 = refl;
  pcr_17 = refl;
  pcr_22 = refl;
  pcr_23 = refl;
  launched = refl;
  launch = refl;
  no_launch = refl;
}

events : EventRows
unfolding why_ignored locality_in digests_by only_digest
events = record {
  no_action = refl;
  no_pcr = refl;
  other_pcr = refl;
  last_pcr = refl;
  own_pcr = refl;
  no_digest = refl;
  two_digests = refl;
  other_length = refl;
}

pub rows_hold : RowsHold
rows_hold = record { starts = starts; values = values; events = events }
