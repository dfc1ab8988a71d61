-- The lines that say what follows the last event of a log.
use Rattle.std.specs.Prelude.{ℕ, ◌==◌, List, [], ◌++◌, codes, if◌then◌else◌}
use Rattle.std.specs.Fmt.{decimal}
use Rattle.uefi_audits.specs.declared.trailing.Trailing.{Trailing}
use Rattle.shown.specs.Name.{shown_name}

-- How many bytes are padding, and where they begin.
unfoldable pub padding_line : List ℕ → ℕ → ℕ → List ℕ
padding_line name count offset =
    shown_name name ++ codes ": " ++ decimal count ++ codes " bytes of padding at offset " ++ decimal offset ++ codes "\n"

abbrev pub padding_lines : List ℕ → Trailing → List ℕ
padding_lines name trailing = if trailing.padding == 0 then [] else padding_line name trailing.padding trailing.offset

-- How many bytes are left over, and where they begin.
unfoldable pub left_over_line : List ℕ → ℕ → ℕ → List ℕ
left_over_line name count offset =
    shown_name name ++ codes ": " ++ decimal count ++ codes " bytes are left over at offset " ++ decimal offset ++ codes "\n"

abbrev pub left_over_lines : List ℕ → Trailing → List ℕ
left_over_lines name trailing = if trailing.left_over == 0 then [] else left_over_line name trailing.left_over trailing.offset

-- Both.
abbrev pub trailing_lines : List ℕ → Trailing → List ℕ
trailing_lines name trailing = padding_lines name trailing ++ left_over_lines name trailing
