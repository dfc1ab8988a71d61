use Rattle.std.proofs.Common.{◌≡◌, ◌≤◌, ◌+◌, length}
use Rattle.std.specs.Str.{IsUtf8}
use Rattle.std.specs.Str.Iter.{chars_rest}
use Rattle.uefi_base.specs.Buffer.{put_at}
use Rattle.uefi_path_text.specs.parse.Nodes.{name_node}
use Rattle.uefi_path_text.proofs.parse.file_name.put_data.Given as goal

-- With the data of the text that is left, all are written.
abbrev pub invariant-loop-character : goal.invariant-loop-character
invariant-loop-character l =
    IsUtf8 (chars_rest l.character-iterator)
    × (put_at l.end (name_node (chars_rest l.character-iterator)).payload l.buffer
    ≡ put_at l.offset (name_node l.name).payload l.initial.buffer)
    × (l.end + length (name_node (chars_rest l.character-iterator)).payload ≤ length l.buffer)
