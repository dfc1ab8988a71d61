-- How many of many logs were replayed, and for how many of these a locality was assumed.
use Rattle.std.specs.Prelude.{ℕ, ◌+◌, ◌-◌, ◌^◌, min, Bool, if◌then◌else◌}
use Rattle.uefi_audit.specs.declared.replay_counts.ReplayCounts.{ReplayCounts}

-- With one more log, up to the largest number.
abbrev pub counted : ReplayCounts → Bool → ReplayCounts
counted counts is_stated = record {
  replayed = min (counts.replayed + 1) (2 ^ 64 - 1);
  assumed = min (counts.assumed + (if is_stated then 0 else 1)) (2 ^ 64 - 1);
}
