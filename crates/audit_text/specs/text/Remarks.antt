-- The lines that remark on a log: the locality that is assumed, banks without a digest or that can't be replayed, PCRs that aren't compared, and the events that have no effect and should have.
use Rattle.std.specs.Prelude.{ℕ, List, [], ◌∷◌, ◌++◌, codes, flat_map, if◌then◌else◌}
use Rattle.std.specs.Fmt.{decimal}
use Rattle.pcr_replay.specs.declared.bank.Bank.{Bank}
use Rattle.pcr_replay.specs.declared.ignored.Ignored.{Ignored}
use Rattle.pcr_replay.specs.declared.ignored.Ignored.TheVariants.{NoPcr, OtherPcr}
use Rattle.uefi_audits.specs.Naming.{bank_name}
use Rattle.uefi_audits.specs.declared.ignored.IgnoredEvent.{IgnoredEvent}
use Rattle.uefi_audits.specs.declared.known_start.KnownStart.{KnownStart}
use Rattle.audit_text.specs.words.Numbers.{hex_text}
use Rattle.shown.specs.Name.{shown_name}

-- The locality at which PCR 0 starts, if none is stated.
unfoldable pub start_lines : List ℕ → KnownStart → List ℕ
start_lines name known =
    if known.is_stated then []
    else shown_name name ++ codes ": states no locality; PCR 0 starts at locality " ++ decimal known.start.locality ++ codes "\n"

-- The line of a bank of which no event has a digest.
unfoldable pub inactive_line : List ℕ → Bank → List ℕ
inactive_line name bank = shown_name name ++ (codes ": no event has a digest of the bank " ++ (bank_name bank ++ codes "\n"))

-- The one line of all algorithms whose banks can't be replayed, if there are any.
unfoldable pub unsupported_line : List ℕ → List ℕ → List ℕ
unsupported_line name [] = []
unsupported_line name (first ∷ others) =
    shown_name name ++ codes ": not supported: the bank of algorithm " ++ hex_text first
    ++ flat_map (λ other. codes ", " ++ hex_text other) others ++ codes "\n"

-- The one line of all PCRs that events extend and that aren't compared, if there are any: the first of them, and the others.
unfoldable pub other_pcrs : List ℕ → List ℕ
other_pcrs pcrs = flat_map (λ pcr. codes ", " ++ decimal pcr) pcrs

unfoldable pub uncompared_from : List ℕ → ℕ → List ℕ → List ℕ
uncompared_from name first others =
    shown_name name ++ (codes ": not compared: PCR " ++ (decimal first ++ (other_pcrs others ++ codes ", which events extend\n")))

unfoldable pub uncompared_line : List ℕ → List ℕ → List ℕ
uncompared_line name [] = []
uncompared_line name (first ∷ others) = uncompared_from name first others

-- Why an event has no effect.
abbrev pub ignored_text : Ignored → ℕ → List ℕ
ignored_text NoPcr pcr = codes "is of PCR " ++ decimal pcr ++ codes ", which no TPM has"
ignored_text OtherPcr pcr = codes "states the locality, and isn't of PCR 0"

-- The line of an event that has none: the file's name, the index, the offset, and why.
unfoldable pub ignored_line : List ℕ → IgnoredEvent → List ℕ
ignored_line name event =
    shown_name name ++ codes ": event " ++ decimal event.index ++ codes " at offset " ++ decimal event.offset ++ codes " "
    ++ ignored_text event.why event.pcr ++ codes "\n"
