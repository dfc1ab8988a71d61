-- What holds of all data.
use Rattle.std.specs.Prelude.{ℕ, ◌≡◌, List}
use Rattle.uefi_tcg.specs.declared.uintn_size.UintnSize.{UintnSize}
use Rattle.uefi_tcg.specs.v2.Event.{Event}
use Rattle.uefi_audits.specs.Check.{IsChecked}
use Rattle.uefi_audits.specs.content.Content.{Content, Says}
use Rattle.uefi_audits.specs.content.Form.{Form}
use Rattle.uefi_audits.specs.declared.check.Checked.{Checked}

-- Data of a form say one thing: so an event has one line.
abbrev pub OneContent : Type 0
OneContent =
    (size : UintnSize) (form : Form) (bytes : List ℕ) (content other : Content) → Says size form bytes content
    → Says size form bytes other → content ≡ other

-- One thing is said of an event's digests: so the events of a log have one result.
abbrev pub OneChecked : Type 0
OneChecked = (event : Event) (checked other : Checked) → IsChecked event checked → IsChecked event other → checked ≡ other
