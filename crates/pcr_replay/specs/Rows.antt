-- Worked rows of the definitions: how PCR 0 starts, what PCRs start with, and which events have no effect or no digest.
use Rattle.std.specs.Prelude.{◌≡◌, ℕ, ◌++◌, true, false, List, [], ◌∷◌, replicate, None, Some, Err}
use Rattle.uefi_tcg.specs.v2.Event.{Digest, Event}
use Rattle.uefi_tcg.specs.v2.Header.{no_action}
use Rattle.pcr_replay.specs.declared.bank.Bank.TheVariants.{Sha1}
use Rattle.pcr_replay.specs.declared.fault.Fault.{Fault}
use Rattle.pcr_replay.specs.declared.fault.Fault.TheVariants.{NoDigest, TwoDigests, OtherLength, UnknownLocality, OtherLocality, LateLocality}
use Rattle.pcr_replay.specs.declared.fault.Undetermined.{Undetermined}
use Rattle.pcr_replay.specs.declared.ignored.Ignored.TheVariants.{NoPcr, OtherPcr}
use Rattle.uefi_tcg.specs.Entries.{Entry, placed}
use Rattle.pcr_replay.specs.Replay.{digest_for, why_ignored}
use Rattle.pcr_replay.specs.Start.{extends, hcrtm_type, is_launched, locality_signature, start_at, start_in, start_value}

-- An event that states a locality, one of a hardware CRTM, and one of the type `EV_SEPARATOR`.
abbrev pub states : ℕ → ℕ → Event
states pcr locality = record {
  pcr_index = pcr;
  event_type = no_action;
  digests = [];
  event_data = locality_signature ++ locality ∷ [];
}

abbrev pub hcrtm : Event
hcrtm = record { pcr_index = 0; event_type = hcrtm_type; digests = []; event_data = [] }

abbrev pub separates : ℕ → List Digest → Event
separates pcr digests = record { pcr_index = pcr; event_type = 4; digests = digests; event_data = [] }

abbrev pub sha1_digest : ℕ → Digest
sha1_digest length = record { algorithm = 4; bytes = replicate length 0 }

-- Events in a log in which each has ten bytes.
abbrev pub logged : List Event → List Entry
logged events = placed (λ (event : Event). replicate 10 0) (λ event. event) 0 events

abbrev pub second : Fault → Undetermined
second fault = record { index = 1; offset = 10; fault = fault }

-- How PCR 0 starts.
pub record StartRows : Type 0 where
  pub unstated : start_in [] ≡ start_at 0
  pub stated_0 : start_in (logged (states 0 0 ∷ [])) ≡ start_at 0
  pub stated_3 : start_in (logged (states 0 3 ∷ [])) ≡ start_at 3
  pub stated_4 : start_in (logged (states 0 4 ∷ [])) ≡ start_at 4
  pub stated_twice : start_in (logged (states 0 3 ∷ states 0 3 ∷ [])) ≡ start_at 3
  pub of_another_pcr : start_in (logged (states 5 3 ∷ [])) ≡ start_at 0
  pub hcrtm_alone : start_in (logged (hcrtm ∷ [])) ≡ start_at 4
  pub hcrtm_and_stated_4 : start_in (logged (hcrtm ∷ states 0 4 ∷ [])) ≡ start_at 4
  pub hcrtm_and_stated_3 : (start_in (logged (hcrtm ∷ states 0 3 ∷ []))).contradiction ≡ Some (second OtherLocality)
  pub two_that_differ : (start_in (logged (states 0 3 ∷ states 0 4 ∷ []))).contradiction ≡ Some (second OtherLocality)
  pub another_value : (start_in (logged (states 5 3 ∷ states 0 200 ∷ []))).contradiction ≡ Some (second UnknownLocality)
  pub late : (start_in (logged (separates 0 [] ∷ states 0 3 ∷ []))).contradiction ≡ Some (second LateLocality)
  pub after_another_pcr : start_in (logged (separates 1 [] ∷ states 0 3 ∷ [])) ≡ start_at 3

-- What PCRs start with, as values of three bytes at locality 4.
pub record ValueRows : Type 0 where
  pub pcr_0 : start_value 3 4 false 0 ≡ 0 ∷ 0 ∷ 4 ∷ []
  pub pcr_16 : start_value 3 4 false 16 ≡ 0 ∷ 0 ∷ 0 ∷ []
  pub pcr_17 : start_value 3 4 false 17 ≡ 255 ∷ 255 ∷ 255 ∷ []
  pub pcr_22 : start_value 3 4 false 22 ≡ 255 ∷ 255 ∷ 255 ∷ []
  pub pcr_23 : start_value 3 4 false 23 ≡ 0 ∷ 0 ∷ 0 ∷ []
  pub launched : start_value 3 4 true 17 ≡ 0 ∷ 0 ∷ 0 ∷ []
  pub launch : is_launched (logged (separates 22 [] ∷ [])) ≡ true
  pub no_launch : is_launched (logged (separates 23 [] ∷ states 17 3 ∷ [])) ≡ false

-- Events that extend nothing, and those that make a PCR undetermined.
pub record EventRows : Type 0 where
  pub no_action : extends 0 (states 0 3) ≡ false
  pub no_pcr : why_ignored (separates 24 []) ≡ Some NoPcr
  pub other_pcr : why_ignored (states 5 3) ≡ Some OtherPcr
  pub last_pcr : why_ignored (separates 23 []) ≡ None
  pub own_pcr : why_ignored (states 0 3) ≡ None
  pub no_digest : digest_for Sha1 (separates 1 []) ≡ Err NoDigest
  pub two_digests : digest_for Sha1 (separates 1 (sha1_digest 20 ∷ sha1_digest 20 ∷ [])) ≡ Err TwoDigests
  pub other_length : digest_for Sha1 (separates 1 (sha1_digest 2 ∷ [])) ≡ Err OtherLength

pub record RowsHold : Type 0 where
  pub starts : StartRows
  pub values : ValueRows
  pub events : EventRows
