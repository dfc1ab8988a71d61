-- None of the words so far is the text.
use Rattle.std.proofs.Common.{◌≡◌, ◌≤◌, map, take, None, length}
use Rattle.std.specs.List.{find}
use Rattle.std.specs.Str.{bytes_eq}
use Rattle.uefi_path_text.specs.private.WordViews.{word_view}
use Rattle.uefi_path_text.proofs.form.words.Words.number.Given as goal

abbrev pub invariant-loop-word : goal.invariant-loop-word
invariant-loop-word l =
    (find (λ word. bytes_eq word.0 l.text) (map word_view (take l.word-index l.word-items)) ≡ None)
    × (l.farthest ≤ length l.text)
