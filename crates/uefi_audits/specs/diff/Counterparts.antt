-- Which event of one log is the counterpart of an event of another: of the events with one key, the first is the counterpart of
-- the first, the second of the second, and so on.
use Rattle.std.specs.Prelude.{ℕ, ◌≡◌, ◌==◌, ◌-◌, Bool, false, List, [], ◌∷◌, codes, drop, length, map, nat_eq, slice_get, take, Option, None, Some, if◌then◌else◌}
use Rattle.std.specs.List.{count_by, starts_with}
use Rattle.std.specs.Ordering.{is_eq, nat_cmp, on, then_cmp}
use Rattle.std.specs.Cmp.Lexicographic.{slice_cmp}
use Rattle.std.specs.declared.cmp.Ordering.{Ordering}
use Rattle.tcg_event.specs.Variable.{Variable}
use Rattle.uefi_tcg.specs.v2.Event.{Event}
use Rattle.pcr_replay.specs.Replay.{digests_by}
use Rattle.uefi_audits.specs.Check.{are_hashes}
use Rattle.uefi_audits.specs.content.Content.{Content, loader_text, tagged, variable, image}
use Rattle.uefi_audits.specs.diff.Numbered.{Numbered, pcr_of, type_of}

-- What an event is sought by among those of another log: its PCR, its type, and a name, which the data of some types have in a
-- namespace.
pub record Key : Type 0 where
  pub pcr_index : ℕ
  pub event_type : ℕ
  pub namespace : List ℕ
  pub name : List ℕ

-- By its data: they are the name.
abbrev pub data_key : Numbered → Key
data_key found =
    record { pcr_index = pcr_of found; event_type = type_of found; namespace = []; name = found.entry.event.event_data }

-- The bytes before the first one of a value; and the first word of a text, which a space ends, or the NUL.
abbrev pub before : ℕ → List ℕ → List ℕ
before value [] = []
before value (byte ∷ bytes) = if byte == value then [] else byte ∷ before value bytes

abbrev pub first_word : List ℕ → List ℕ
first_word bytes = before 0x20 (before 0 bytes)

pub record Name : Type 0 where
  pub namespace : List ℕ
  pub name : List ℕ

abbrev pub named : List ℕ → List ℕ → Name
named namespace name = record { namespace = namespace; name = name }

-- The name of what GRUB measured: of a command its first word, and of the command line of a kernel or of a module none, each in
-- the namespace of the word that GRUB writes before it.
abbrev pub begins_with : List ℕ → List ℕ → Bool
begins_with bytes prompt = starts_with nat_eq bytes prompt

unfoldable pub command_name : List ℕ → Name
command_name bytes =
    if begins_with bytes (codes "grub_cmd: ") then named (codes "grub_cmd") (first_word (drop 10 bytes))
    else if begins_with bytes (codes "kernel_cmdline: ") then named (codes "kernel_cmdline") []
    else if begins_with bytes (codes "module_cmdline: ") then named (codes "module_cmdline") []
    else named [] []

-- The name of a variable, which its value follows, in the namespace of its GUID (`UEFI_VARIABLE_DATA`, TCG PC Client Platform
-- Firmware Profile 1.06).
abbrev pub variable_name : Variable → List ℕ → Name
variable_name found bytes =
    let rest = drop 32 bytes in named (take 16 bytes) (take (length rest - length found.payload) rest)

-- The name that data have by what they say: that of a variable in the namespace of its GUID, the device path of an image, the
-- first word of a command, the number of the first tag (`TCG_PCClientTaggedEvent`). Other data have none.
unfoldable pub name_in : Content → List ℕ → Name
name_in (variable found value) bytes = variable_name found bytes
name_in (image found nodes) bytes = named [] found.device_path
name_in (loader_text found) bytes = command_name bytes
name_in (tagged events rest) bytes = named [] (take 4 bytes)
name_in other bytes = named [] []

-- Whether the digests of an event are the hash of a variable's value alone.
unfoldable pub has_uncovered_name : Content → Event → Bool
has_uncovered_name (variable found value) event = are_hashes found.payload event
has_uncovered_name other event = false

-- By its name.
abbrev pub keyed_by : ℕ → ℕ → Name → Key
keyed_by pcr kind name =
    record { pcr_index = pcr; event_type = kind; namespace = name.namespace; name = name.name }

abbrev pub name_key : Numbered → Key
name_key found = keyed_by (pcr_of found) (type_of found) (name_in found.content found.entry.event.event_data)

-- By its first digest of an algorithm, which is the name.
abbrev pub first_or_none : List (List ℕ) → List ℕ
first_or_none [] = []
first_or_none (digest ∷ digests) = digest

abbrev pub first_digest : Option ℕ → Event → List ℕ
first_digest None event = []
first_digest (Some algorithm) event = first_or_none (digests_by algorithm event.digests)

abbrev pub digest_key : Option ℕ → Numbered → Key
digest_key algorithm found =
    keyed_by (pcr_of found) (type_of found) (named [] (first_digest algorithm found.entry.event))

-- The order of keys. Two keys are one if they are equal in it.
unfoldable pub key_cmp : Key → Key → Ordering
key_cmp =
    then_cmp (then_cmp (on (λ (k : Key). k.pcr_index) nat_cmp) (on (λ (k : Key). k.event_type) nat_cmp))
    (then_cmp (on (λ (k : Key). k.namespace) (slice_cmp nat_cmp)) (on (λ (k : Key). k.name) (slice_cmp nat_cmp)))

abbrev pub is_key : Key → Key → Bool
is_key key other = is_eq (key_cmp other key)

-- How many of these events have a key.
abbrev pub how_many : (Numbered → Key) → Key → List Numbered → ℕ
how_many key_of key all = count_by (λ found. is_key key (key_of found)) all

-- The events at these places are counterparts: they have one key, which as many events before them have.
pub record AreCounterparts (key_of : Numbered → Key) (old : List Numbered) (at : ℕ) (new : List Numbered) (place : ℕ) : Type 0 where
  pub one : Numbered
  pub other : Numbered
  pub here : slice_get old at ≡ Some one
  pub there : slice_get new place ≡ Some other
  pub one_key : key_of one ≡ key_of other
  pub as_many : how_many key_of (key_of one) (take at old) ≡ how_many key_of (key_of other) (take place new)

-- An event with its counterpart, if it has one.
pub record Paired : Type 0 where
  pub found : Numbered
  pub counterpart : Option Numbered

abbrev pub IsCounterpart : (Numbered → Key) → List Numbered → ℕ → List Numbered → Option Numbered → Type 0
IsCounterpart key_of old at new (Some found) =
    (place : ℕ) × (slice_get new place ≡ Some found) × AreCounterparts key_of old at new place
IsCounterpart key_of old at new None = (place : ℕ) → AreCounterparts key_of old at new place → ⊥

-- These are all events of one log, each with its counterpart in another.
pub record ArePaired (key_of : Numbered → Key) (old new : List Numbered) (all : List Paired) : Type 0 where
  pub events : map (λ (paired : Paired). paired.found) all ≡ old
  pub counterparts : (at : ℕ) (paired : Paired) → slice_get all at ≡ Some paired → IsCounterpart key_of old at new paired.counterpart

-- An event has at most one counterpart, and is the counterpart of that.
pub record OneCounterpart : Type 0 where
  pub both_ways : (key_of : Numbered → Key) (old new : List Numbered) (at place : ℕ) → AreCounterparts key_of old at new place
      → AreCounterparts key_of new place old at
  pub one : (key_of : Numbered → Key) (old new : List Numbered) (at place other : ℕ)
      → AreCounterparts key_of old at new place → AreCounterparts key_of old at new other → other ≡ place
