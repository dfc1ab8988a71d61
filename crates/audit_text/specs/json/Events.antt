-- What `uefi_audit events` prints of a log as JSON: a line for each event, in order.
use Rattle.std.specs.Prelude.{ℕ, ◌≡◌, List, ◌++◌, codes}
use Rattle.uefi_tcg.specs.declared.uintn_size.UintnSize.{UintnSize}
use Rattle.uefi_tcg.specs.Entries.{Entry}
use Rattle.audit_text.specs.json.Event.{IsEventLine}
use Rattle.audit_text.specs.words.Events.{AreShown}

-- The text is the line of an event at this index, and a line break.
abbrev pub IsWholeLine : UintnSize → List ℕ → ℕ → Entry → List ℕ → Type 0
IsWholeLine size name index entry text =
    (line : List ℕ) × IsEventLine size name index entry line × (text ≡ line ++ codes "\n")

-- It is the lines of all events of a log of this name.
abbrev pub AreEventLines : UintnSize → List ℕ → List Entry → List ℕ → Type 0
AreEventLines size name entries text = AreShown (IsWholeLine size name) 0 entries text
