-- Events with their keys, and how many events before each have that key.
use Rattle.std.specs.Prelude.{◌≡◌, List, [], ◌∷◌, ◌++◌, Bool, cond, map, option_map, Option, None, Some}
use Rattle.std.specs.Borrow.{Bor}
use Rattle.std.specs.BTreeMap.{BTreeMap, get}
use Rattle.std.specs.Ordering.{is_eq}
use Rattle.std.specs.declared.cmp.Ordering.{Ordering}
use Rattle.uefi_audits.specs.declared.diff.counterparts.PairedEvent.{PairedEvent}
use Rattle.uefi_audits.specs.declared.diff.counterparts.RankedEvent.{RankedEvent}
use Rattle.uefi_audits.specs.declared.diff.changed.EventPair.{EventPair}
use Rattle.uefi_audits.specs.declared.diff.difference.Counterparts as declared
use Rattle.uefi_audits.specs.declared.diff.event_key.RankedKey.{RankedKey}
use Rattle.uefi_audits.specs.declared.diff.pcr.NumberedEntry.{NumberedEntry}
use Rattle.uefi_audits.specs.diff.Counterparts.{Key, Paired, how_many}
use Rattle.uefi_audits.specs.diff.Differences.{Change, Counterparts}
use Rattle.uefi_audits.specs.diff.Numbered.{Numbered}
use Rattle.uefi_audits.specs.diff.Views.{numbered_of}
use Rattle.uefi_audits.specs.private.diff.Keys.{Ranked, ranked_cmp, ranked_of}

-- An event of a list.
abbrev pub numbered_at : Bor NumberedEntry → Numbered
numbered_at found = numbered_of found.now

-- An event with its counterpart, if it has one; and an event that has one, with it.
abbrev pub paired_of : PairedEvent → Paired
paired_of paired =
    record { found = numbered_at paired.found; counterpart = option_map numbered_at paired.counterpart }

abbrev pub pair_of : EventPair → Change
pair_of pair = record { old = numbered_at pair.old; new = numbered_at pair.new }

-- An event with its key and its rank.
pub record RankedNumbered : Type 0 where
  pub key : Ranked
  pub found : Numbered

abbrev pub event_of : RankedEvent → RankedNumbered
event_of ranked = record { key = ranked_of ranked.key; found = numbered_at ranked.found }

abbrev pub with_rank : (Numbered → Key) → List Numbered → Numbered → RankedNumbered
with_rank key_of before found =
    record { key = record { key = key_of found; rank = how_many key_of (key_of found) before }; found = found }

abbrev pub ranked_after : (Numbered → Key) → List Numbered → List Numbered → List RankedNumbered
ranked_after key_of before [] = []
ranked_after key_of before (found ∷ more) = with_rank key_of before found ∷ ranked_after key_of (before ++ found ∷ []) more

abbrev pub ranked_in : (Numbered → Key) → List Numbered → List RankedNumbered
ranked_in key_of all = ranked_after key_of [] all

-- The last event with a key.
abbrev pub is_ranked : Ranked → Ranked → Bool
is_ranked key other = is_eq (ranked_cmp other key)

abbrev pub or_with : Ranked → RankedNumbered → Option Numbered → Option Numbered
or_with key ranked (Some later) = Some later
or_with key ranked None = cond (is_ranked key ranked.key) (Some ranked.found) None

abbrev pub last_with : Ranked → List RankedNumbered → Option Numbered
last_with key [] = None
last_with key (ranked ∷ more) = or_with key ranked (last_with key more)

-- The map has it.
abbrev pub place_cmp : RankedKey → RankedKey → Ordering
place_cmp key other = ranked_cmp (ranked_of key) (ranked_of other)

abbrev pub ArePlaces : BTreeMap RankedKey (Bor NumberedEntry) → List RankedNumbered → Type 0
ArePlaces places all =
    (key : RankedKey) → option_map numbered_at (get place_cmp places key) ≡ last_with (ranked_of key) all

-- An event with what the map has at its key.
abbrev pub paired_by : BTreeMap RankedKey (Bor NumberedEntry) → RankedEvent → Paired
paired_by places ranked =
    record { found = numbered_at ranked.found; counterpart = option_map numbered_at (get place_cmp places ranked.key) }

-- The events of a PCR with their counterparts.
abbrev pub counterparts_of : declared.Counterparts → Counterparts
counterparts_of all = record {
  of_old = map paired_of all.of_old.items;
  of_new = map paired_of all.of_new.items;
  left_of_old = map paired_of all.left_of_old.items;
  left_of_new = map paired_of all.left_of_new.items;
}
