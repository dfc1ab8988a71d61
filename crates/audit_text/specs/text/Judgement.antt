-- What is said of a log before its events are read.
use Rattle.std.specs.Prelude.{ℕ, List, ◌++◌, codes, if◌then◌else◌}
use Rattle.std.specs.Fmt.{decimal}
use Rattle.uefi_audits.specs.declared.judgement.Judgement.{Judgement}
use Rattle.uefi_audits.specs.declared.judgement.Judgement.TheVariants.{Accepted, NothingMeasured, LeftOver}
use Rattle.uefi_audits.specs.Trailing.{is_of_empty_log}
use Rattle.uefi_audits.specs.declared.trailing.Trailing.{Trailing}
use Rattle.audit_text.specs.text.Trailing.{trailing_lines}
use Rattle.shown.specs.Name.{shown_name}

-- The line of a log with many algorithms, by how many it has and how many are read.
unfoldable pub many_line : List ℕ → ℕ → ℕ → List ℕ
many_line name rows most =
    shown_name name ++ codes ": its header has " ++ decimal rows ++ codes " algorithms, and at most " ++ decimal most
    ++ codes " are read (--max-rows)\n"

-- The line of one in which nothing was measured, by what follows its last event.
unfoldable pub nothing_line : List ℕ → Trailing → List ℕ
nothing_line name trailing =
    shown_name name ++ (if is_of_empty_log trailing then codes ": the log is empty\n" else codes ": nothing was measured\n")

-- What is said by the judgement.
unfoldable pub judgement_lines : List ℕ → Judgement → Trailing → List ℕ
judgement_lines name LeftOver trailing = trailing_lines name trailing
judgement_lines name Accepted trailing = trailing_lines name trailing
judgement_lines name NothingMeasured trailing = trailing_lines name trailing ++ nothing_line name trailing
