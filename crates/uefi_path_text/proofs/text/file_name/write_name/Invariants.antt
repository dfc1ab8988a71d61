use Rattle.std.proofs.Common.{◌≡◌, ℕ, List, ◌++◌, encode_utf8_all}
use Rattle.std.specs.Char.Utf16.{utf16_lossy_chars}
use Rattle.std.specs.Fmt.{HasWritten, IsPlainFormatter}
use Rattle.uefi_path_text.specs.private.FileName.{name_units}
use Rattle.uefi_path_text.proofs.text.file_name.write_name.Given as goal

abbrev pub invariant-loop-character : goal.invariant-loop-character
invariant-loop-character g l =
    IsPlainFormatter l.initial.f → (done : List ℕ)
    × HasWritten g.W.Write.write_str_gives l.initial.f (encode_utf8_all done) l.f
    × (done ++ utf16_lossy_chars (name_units l.character-iterator) ≡ utf16_lossy_chars (name_units l.fn.name))
