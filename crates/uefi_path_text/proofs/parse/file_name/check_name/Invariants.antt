use Rattle.std.proofs.Common.{◌≡◌, ◌+◌, length}
use Rattle.std.specs.Str.{IsUtf8, chars}
use Rattle.std.specs.Str.Iter.{char_indices_rest, char_indices_offset}
use Rattle.std.specs.List.{list_all}
use Rattle.uefi_path_text.specs.text.FileName.{is_name_character}
use Rattle.uefi_path_text.proofs.FileNames.{named_front}
use Rattle.uefi_path_text.proofs.parse.file_name.check_name.Given as goal

-- The characters so far are those of a name.
abbrev pub invariant-loop-offset : goal.invariant-loop-offset
invariant-loop-offset l =
    IsUtf8 (char_indices_rest l.offset-iterator)
    × (list_all is_name_character (chars (char_indices_rest l.offset-iterator))
    ≡ list_all is_name_character (chars l.name))
    × (char_indices_offset l.offset-iterator + length (named_front (chars (char_indices_rest l.offset-iterator)))
    ≡ length (named_front (chars l.name)))
    × (char_indices_offset l.offset-iterator + length (char_indices_rest l.offset-iterator) ≡ length l.name)
