use Rattle.std.proofs.Common.{◌≡◌, ℕ, List, ◌++◌, encode_utf8_all}
use Rattle.std.specs.Fmt.{HasWritten, IsPlainFormatter}
use Rattle.uefi_base.specs.Views.{chars_left}
use Rattle.uefi_base.proofs.chars_lossy.write_characters.Given as goal

abbrev pub invariant-loop-character : goal.invariant-loop-character
invariant-loop-character g l =
    IsPlainFormatter l.initial.f → (done : List ℕ)
    × HasWritten g.W.Write.write_str_gives l.initial.f (encode_utf8_all done) l.f
    × (done ++ chars_left l.character-iterator ≡ chars_left l.fn.characters)
