-- PCRs (`pcr_replay`) of plain numbers.
use Rattle.std.specs.Prelude.{ℕ, ◌≡◌, ◌≤◌, ◌==◌, ◌⊎◌, List, [], ◌∷◌, Ok, Err, nat_lt, take, if◌then◌else◌}
use Rattle.pcr_replay.specs.declared.fault.Fault.{Fault}
use Rattle.pcr_replay.specs.declared.fault.Fault.TheVariants.{NoDigest, TwoDigests, OtherLength, UnknownLocality, OtherLocality, LateLocality}
use Rattle.pcr_replay.specs.declared.start.Start.{Start}
use Rattle.uefi_tcg.specs.Entries.{Entry}
use Rattle.pcr_replay.specs.Replay.{Outcome}
use Rattle.pcr_replay.specs.Start.{start_at, start_in}
use Rattle.uefi_c.specs.Status.{IsOneOf, late_locality, no_digest, ok, other_length, other_locality, two_digests, unknown_locality}
use Rattle.uefi_c.specs.declared.replay.UefiPcr.{UefiPcr}

-- How PCR 0 starts: at this locality, which is below 256, or else as the log of these entries says.
abbrev pub start_given : ℕ → List Entry → Start
start_given locality entries = if nat_lt locality 256 then start_at locality else start_in entries

-- The statuses of a PCR that is undetermined, and of any.
abbrev pub IsPcrFault : ℕ → Type 0
IsPcrFault status =
    IsOneOf status (no_digest ∷ two_digests ∷ other_length ∷ unknown_locality ∷ other_locality ∷ late_locality ∷ [])

abbrev pub IsPcrStatus : ℕ → Type 0
IsPcrStatus status = (status ≡ ok) ⊎ IsPcrFault status

-- A PCR that was given has one of these statuses, and its value has room in 64 bytes.
pub record IsPcr (seen : UefiPcr) : Type 0 where
  pub status : IsPcrStatus seen.status
  pub size : seen.size ≤ 64

-- The fault of one of them.
abbrev pub fault_of : ℕ → Fault
fault_of status =
    if status == no_digest then NoDigest
    else if status == two_digests then TwoDigests
    else if status == other_length then OtherLength
    else if status == unknown_locality then UnknownLocality
    else if status == other_locality then OtherLocality
    else LateLocality

-- What a PCR holds: on success a value, else the event by which it is undetermined.
abbrev pub outcome_seen : UefiPcr → Outcome
outcome_seen seen =
    if seen.status == ok then Ok (take seen.size seen.value)
    else Err (record { index = seen.index; offset = seen.offset; fault = fault_of seen.status })
