-- How PCR 0 starts, by what the caller and the log state.
use Rattle.std.specs.Prelude.{ℕ, Bool, false, ◌||◌, List, Option, None, Some, is_some}
use Rattle.uefi_tcg.specs.Entries.{Entry}
use Rattle.pcr_replay.specs.Start.{start_at, start_in, startup_locality}
use Rattle.pcr_replay.specs.declared.start.Start.{Start}
use Rattle.uefi_audits.specs.declared.known_start.KnownStart.{KnownStart}

-- At the locality that the caller states, or else as the log says.
abbrev pub start_by : Option ℕ → List Entry → Start
start_by (Some locality) entries = start_at locality
start_by None entries = start_in entries

-- Whether either states one.
abbrev pub is_stated : Option ℕ → List Entry → Bool
is_stated locality entries = is_some locality || is_some (startup_locality entries)

abbrev pub known_start : Option ℕ → List Entry → KnownStart
known_start locality entries = record { start = start_by locality entries; is_stated = is_stated locality entries }

-- At a locality that nobody states.
abbrev pub assumed_start : ℕ → KnownStart
assumed_start locality = record { start = start_at locality; is_stated = false }
