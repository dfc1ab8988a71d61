use Rattle.std.proofs.Common.{◌≡◌, ℕ, List, ◌++◌, flat_map}
use Rattle.std.specs.Fmt.{HasWritten, IsPlainFormatter}
use Rattle.uefi_base.specs.Utf16.{lossy_characters}
use Rattle.uefi_base.specs.Views.{slice_units, chars_left}
use Rattle.uefi_path_text.specs.write.Partial.{escaped_character}
use Rattle.uefi_path_text.proofs.text.escape.write_escaped_units.Given as goal

abbrev pub invariant-loop-character : goal.invariant-loop-character
invariant-loop-character g l =
    IsPlainFormatter l.initial.f → (done : List ℕ)
    × HasWritten g.W.Write.write_str_gives l.initial.f (flat_map escaped_character done) l.f
    × (done ++ chars_left l.character-iterator ≡ lossy_characters (slice_units l.fn.units))
