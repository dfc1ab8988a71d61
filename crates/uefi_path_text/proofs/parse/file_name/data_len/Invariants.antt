use Rattle.std.proofs.Common.{◌≡◌, ◌≤◌, ◌+◌, length}
use Rattle.std.specs.Str.{IsUtf8}
use Rattle.std.specs.Str.Iter.{chars_rest}
use Rattle.uefi_path_text.specs.parse.Nodes.{name_node}
use Rattle.uefi_path_text.proofs.parse.file_name.data_len.Given as goal

-- The units so far, and the data of the text that is left, are all.
abbrev pub invariant-loop-character : goal.invariant-loop-character
invariant-loop-character l =
    IsUtf8 (chars_rest l.character-iterator)
    × (length (name_node l.name).payload + 2 ≡ l.size + length (name_node (chars_rest l.character-iterator)).payload)
    × (l.size ≤ 0xfffb)
