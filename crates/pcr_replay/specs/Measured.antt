-- Events whose digest is the hash of their data. Which events these are, their type says (TCG PC Client Platform Firmware Profile 1.06, 10.4.1); of others the data only tell about what was measured.
use Rattle.std.specs.Prelude.{ℕ, List, Bool, false, Result, Ok, Err}
use Rattle.std.specs.Str.{bytes_eq}
use Rattle.uefi_tcg.specs.v2.Event.{Event}
use Rattle.pcr_replay.specs.declared.bank.Bank.{Bank}
use Rattle.pcr_replay.specs.declared.fault.Fault.{Fault}
use Rattle.pcr_replay.specs.Banks.{hash_of}
use Rattle.pcr_replay.specs.Replay.{digest_for}

-- A digest was found, and its bytes are these.
abbrev pub is_digest : Result (List ℕ) Fault → List ℕ → Bool
is_digest (Ok digest) bytes = bytes_eq digest bytes
is_digest (Err fault) bytes = false

-- The event has one digest of the bank, which is the hash of these bytes.
unfoldable pub is_hash_of : Bank → List ℕ → Event → Bool
is_hash_of bank bytes event = is_digest (digest_for bank event) (hash_of bank bytes)

-- It is that of its data.
abbrev pub is_hash_of_data : Bank → Event → Bool
is_hash_of_data bank event = is_hash_of bank event.event_data event
