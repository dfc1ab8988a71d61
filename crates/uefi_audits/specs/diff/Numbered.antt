-- The events of a log, each with its index and what its data say.
use Rattle.std.specs.Prelude.{ℕ, ◌≡◌, ◌+◌, ◌==◌, min, Bool, List, [], ◌∷◌}
use Rattle.std.specs.List.{filter}
use Rattle.uefi_tcg.specs.Entries.{Entry}
use Rattle.uefi_tcg.specs.declared.uintn_size.UintnSize.{UintnSize}
use Rattle.pcr_replay.specs.ReadLogs.{entries_in, uintn_size_in}
use Rattle.pcr_replay.specs.declared.read_log.ReadLog.{ReadLog}
use Rattle.uefi_audits.specs.content.Content.{Content, Says}
use Rattle.uefi_audits.specs.content.Form.{form}

-- An entry of a log with its index, and what its data say.
pub record Numbered : Type 0 where
  pub index : ℕ
  pub entry : Entry
  pub content : Content

-- These are the entries, of which the first has this index, of a log with a UINTN of this size.
abbrev pub AreNumbered : UintnSize → ℕ → List Entry → List Numbered → Type 0
AreNumbered size index [] all = all ≡ []
AreNumbered size index (entry ∷ entries) all =
    (content : Content) × (rest : List Numbered) × Says size (form entry.event.event_type) entry.event.event_data content
    × AreNumbered size (index + 1) entries rest × (all ≡ record { index = index; entry = entry; content = content } ∷ rest)

-- These are all entries of a log.
abbrev pub AreNumberedIn : {A : Type 0} → ReadLog A → List Numbered → Type 0
AreNumberedIn read all = AreNumbered (uintn_size_in read) 0 (entries_in read) all

-- Those of a PCR. The PCRs above 23, which a PC's TPM doesn't have, are taken together as one, PCR
-- 24.
abbrev pub is_of : ℕ → Entry → Bool
is_of pcr entry = min entry.event.pcr_index 24 == pcr

abbrev pub of_pcr : ℕ → List Numbered → List Numbered
of_pcr pcr all = filter (λ found. is_of pcr found.entry) all

-- The PCR and the type of an event.
abbrev pub pcr_of : Numbered → ℕ
pcr_of found = found.entry.event.pcr_index

abbrev pub type_of : Numbered → ℕ
type_of found = found.entry.event.event_type
