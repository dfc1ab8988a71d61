-- How the events of two logs differ, by PCRs. An event is compared with its counterpart: by PCR, type, the digests of some
-- algorithms, and its data, or by digests alone. Its index and its offset aren't compared.
use Rattle.std.specs.Prelude.{ℕ, zero, suc, Bool, true, false, ◌≡◌, ◌≢◌, ◌⊎◌, ◌<◌}
use Rattle.std.specs.Prelude.{List, [], ◌∷◌, ◌++◌, flat_map, map, slice_get, Option, None, Some, option_map, option_to_list, if◌then◌else◌}
use Rattle.std.specs.List.{filter_map}
use Rattle.uefi_tcg.specs.v2.Event.{Digest, Event}
use Rattle.pcr_replay.specs.Replay.{digests_by}
use Rattle.pcr_replay.specs.declared.read_log.ReadLog.{ReadLog}
use Rattle.uefi_audits.specs.diff.Counterparts.{ArePaired, Key, Paired, data_key, digest_key, name_key}
use Rattle.uefi_audits.specs.diff.Numbered.{AreNumberedIn, Numbered, of_pcr}

-- The digests of an algorithm, in order.
abbrev pub digests_in : List Digest → ℕ → List (List ℕ)
digests_in digests algorithm = digests_by algorithm digests

-- Which parts of events are compared, beside their PCRs and their types: their digests of these algorithms, and their data or not.
pub record Parts : Type 0 where
  pub algorithms : List ℕ
  pub with_data : Bool

abbrev pub data_if : Bool → Event → List ℕ
data_if true event = event.event_data
data_if false event = []

-- An event as it is compared.
pub record Compared : Type 0 where
  pub pcr_index : ℕ
  pub event_type : ℕ
  pub event_data : List ℕ
  pub digests : List (List (List ℕ))

abbrev pub compared_event : Parts → Event → Compared
compared_event parts event = record {
  pcr_index = event.pcr_index;
  event_type = event.event_type;
  event_data = data_if parts.with_data event;
  digests = map (digests_in event.digests) parts.algorithms;
}

abbrev pub compared : Parts → Numbered → Compared
compared parts found = compared_event parts found.entry.event

-- All events as they are compared, and the one at a place, if there is one.
abbrev pub all_compared : Parts → List Numbered → List Compared
all_compared parts all = map (compared parts) all

abbrev pub compared_at : Parts → List Numbered → ℕ → Option Compared
compared_at parts all at = option_map (compared parts) (slice_get all at)

-- Two lists differ here first: in an event, or since one of them has none.
pub record DifferAt (parts : Parts) (old new : List Numbered) (at : ℕ) : Type 0 where
  pub before : (k : ℕ) → k < at → compared_at parts old k ≡ compared_at parts new k
  pub here : compared_at parts old at ≢ compared_at parts new at

-- An event of the old log and its counterpart in the new one.
pub record Change : Type 0 where
  pub old : Numbered
  pub new : Numbered

-- The events that have a counterpart, each with it; and those that have none.
abbrev pub change_in : Paired → Option Change
change_in paired = option_map (λ new. record { old = paired.found; new = new }) paired.counterpart

abbrev pub changes_in : List Paired → List Change
changes_in all = filter_map change_in all

abbrev pub if_alone : Numbered → Option Numbered → Option Numbered
if_alone found None = Some found
if_alone found (Some counterpart) = None

abbrev pub alone_in : List Paired → List Numbered
alone_in all = filter_map (λ paired. if_alone paired.found paired.counterpart) all

-- Those pairs, in order, whose events aren't the same as they are compared.
abbrev pub AreSame : Parts → Change → Type 0
AreSame parts pair = compared parts pair.old ≡ compared parts pair.new

abbrev pub WithIfChanged : Parts → Change → List Change → List Change → Type 0
WithIfChanged parts pair rest changed =
    (AreSame parts pair × (changed ≡ rest)) ⊎ ((AreSame parts pair → ⊥) × (changed ≡ pair ∷ rest))

abbrev pub AreChanged : Parts → List Change → List Change → Type 0
AreChanged parts [] changed = changed ≡ []
AreChanged parts (pair ∷ pairs) changed =
    (rest : List Change) × WithIfChanged parts pair rest changed × AreChanged parts pairs rest

-- The first pair whose new event comes before that of an earlier pair: the order of the events is another.
pub record IsMovedAt (pairs : List Change) (at : ℕ) (pair : Change) : Type 0 where
  pub here : slice_get pairs at ≡ Some pair
  pub earlier : Change
  pub place : ℕ
  pub within : place < at
  pub there : slice_get pairs place ≡ Some earlier
  pub before : pair.new.index < earlier.new.index

abbrev pub IsFirstMoved : List Change → Option Change → Type 0
IsFirstMoved pairs None = (at : ℕ) (pair : Change) → IsMovedAt pairs at pair → ⊥
IsFirstMoved pairs (Some moved) =
    (at : ℕ) × IsMovedAt pairs at moved × ((earlier : ℕ) (pair : Change) → earlier < at → IsMovedAt pairs earlier pair → ⊥)

-- How the events of a PCR differ.
pub record Difference : Type 0 where
  pub pcr : ℕ
  pub changed : List Change
  pub only_old : List Numbered
  pub only_new : List Numbered
  pub moved : Option Change

-- A difference in one event: it isn't the same as its counterpart, one log alone has it, or it is the first whose order is another.
pub data EventDifference : Type 0 where
  event_changed : Change → EventDifference
  event_only_old : Numbered → EventDifference
  event_only_new : Numbered → EventDifference
  event_moved : Change → EventDifference

-- Those of a PCR, and those of all PCRs, in order.
unfoldable pub pcr_events : Difference → List EventDifference
pcr_events difference =
    map event_changed difference.changed ++ (map event_only_old difference.only_old
    ++ (map event_only_new difference.only_new ++ map event_moved (option_to_list difference.moved)))

abbrev pub event_differences : List Difference → List EventDifference
event_differences all = flat_map pcr_events all

-- By what events are counterparts, in order: by their data, and then, of the events that are left, by their names. If data
-- aren't compared, by their digests alone.
abbrev pub first_key : Parts → Numbered → Key
first_key parts = if parts.with_data then data_key else digest_key (slice_get parts.algorithms 0)

abbrev pub second_key : Parts → Numbered → Key
second_key parts = if parts.with_data then name_key else digest_key (slice_get parts.algorithms 0)

-- The counterparts of a PCR's events.
pub record Counterparts : Type 0 where
  pub of_old : List Paired
  pub of_new : List Paired
  pub left_of_old : List Paired
  pub left_of_new : List Paired

pub record AreCounterpartsOf (parts : Parts) (old new : List Numbered) (all : Counterparts) : Type 0 where
  pub of_old : ArePaired (first_key parts) old new all.of_old
  pub of_new : ArePaired (first_key parts) new old all.of_new
  pub left_of_old : ArePaired (second_key parts) (alone_in all.of_old) (alone_in all.of_new) all.left_of_old
  pub left_of_new : ArePaired (second_key parts) (alone_in all.of_new) (alone_in all.of_old) all.left_of_new

-- These events of a PCR differ so.
pub record DifferSo (parts : Parts) (pcr : ℕ) (old new : List Numbered) (difference : Difference) : Type 0 where
  pub of_pcr : difference.pcr ≡ pcr
  pub at : ℕ
  pub first : DifferAt parts old new at
  pub counterparts : Counterparts
  pub are : AreCounterpartsOf parts old new counterparts
  pub changed : AreChanged parts (changes_in counterparts.of_old ++ changes_in counterparts.left_of_old) difference.changed
  pub only_old : difference.only_old ≡ alone_in counterparts.left_of_old
  pub only_new : difference.only_new ≡ alone_in counterparts.left_of_new
  pub moved : IsFirstMoved (changes_in counterparts.of_old) difference.moved

-- They are the same, and there is no difference; or they differ.
abbrev pub IsDifference : Parts → ℕ → List Numbered → List Numbered → Option Difference → Type 0
IsDifference parts pcr old new None = all_compared parts old ≡ all_compared parts new
IsDifference parts pcr old new (Some difference) = DifferSo parts pcr old new difference

-- The differences of all PCRs below a number, in order.
unfoldable pub DifferBelow : Parts → ℕ → List Numbered → List Numbered → List Difference → Type 0
DifferBelow parts zero old new all = all ≡ []
DifferBelow parts (suc pcr) old new all =
    (before : List Difference) × (here : Option Difference) × DifferBelow parts pcr old new before
    × IsDifference parts pcr (of_pcr pcr old) (of_pcr pcr new) here × (all ≡ before ++ option_to_list here)

-- The differences of two logs: of the PCRs 0 to 23, and of those above.
abbrev pub AreDifferences : {A : Type 0} → Parts → ReadLog A → ReadLog A → List Difference → Type 0
AreDifferences parts old new all =
    (olds : List Numbered) × (news : List Numbered) × AreNumberedIn old olds × AreNumberedIn new news
    × DifferBelow parts 25 olds news all
