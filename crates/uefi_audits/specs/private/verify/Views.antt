-- What values stand for: words that contracts name them by.
use Rattle.std.specs.Prelude.{map}
use Rattle.uefi_audits.specs.declared.verify.held.Held.{Held}
use Rattle.uefi_audits.specs.declared.verify.held.Section.{Section}
use Rattle.uefi_audits.specs.verify.Reading.{Stated}

-- What was read of a text, and which bank its next line is of.
abbrev pub stated_of : {A : Type 0} → Held A → Section → Stated
stated_of held section = record { pcrs = held.pcrs.items; unsupported = map (λ name. name.now) held.unsupported.items; section = section }
