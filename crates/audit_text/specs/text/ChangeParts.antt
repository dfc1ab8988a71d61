-- Parts of what changed between two events: bytes, lines, and the words of a text.
use Rattle.std.specs.Prelude.{ℕ, ◌==◌, ◌-◌, ◌&&◌, ◌||◌, not, Bool, List, [], ◌++◌, take, drop, length, map, nat_eq, codes, if◌then◌else◌}
use Rattle.std.specs.Fmt.{decimal}
use Rattle.std.specs.List.{common_prefix_len, filter, join_by, list_any, slice_split}
use Rattle.std.specs.Str.{bytes_eq, trim_start}
use Rattle.std.specs.Str.Lines.{lines}
use Rattle.hex.specs.Hex.{encode_lower}
use Rattle.audit_text.specs.words.Said.{more}

-- Texts with a separator between each two.
abbrev pub joined : List ℕ → List (List ℕ) → List ℕ
joined separator texts = join_by (λ text. text) separator texts

-- What one side of a change has: `nothing`, if no text.
unfoldable pub side_text : List ℕ → List ℕ
side_text side = if length side == 0 then codes "nothing" else side

-- What the old side has and what the new one has. If neither has text, nothing is said.
unfoldable pub change_between : List ℕ → List ℕ → List ℕ
change_between old new =
    if length old == 0 && length new == 0 then [] else side_text old ++ (codes " -> " ++ side_text new)

-- Bytes in hex: the first 32, and how many there are more.
unfoldable pub first_bytes : List ℕ → List ℕ
first_bytes bytes = encode_lower (take 32 bytes) ++ more (length bytes - 32)

-- The bytes from an index, and those from the first that differs. If none does, nothing is said.
unfoldable pub bytes_from : ℕ → List ℕ → List ℕ → List ℕ
bytes_from index old new =
    codes "from byte " ++ (decimal index ++ (codes ": "
    ++ change_between (first_bytes (drop index old)) (first_bytes (drop index new))))

unfoldable pub byte_change : List ℕ → List ℕ → List ℕ
byte_change old new = if bytes_eq old new then [] else bytes_from (common_prefix_len nat_eq old new) old new

-- The lines of a block without their indent; those of some lines that aren't among others; and those that only one block has.
abbrev pub lines_of : List ℕ → List (List ℕ)
lines_of block = map trim_start (lines block)

abbrev pub is_among : List (List ℕ) → List ℕ → Bool
is_among others line = list_any (λ other. bytes_eq line other) others

abbrev pub lines_only : List (List ℕ) → List (List ℕ) → List (List ℕ)
lines_only others lines = filter (λ line. not (is_among others line)) lines

unfoldable pub only_text : List (List ℕ) → List (List ℕ) → List ℕ
only_text others lines = joined (codes "; ") (lines_only others lines)

unfoldable pub line_change : List ℕ → List ℕ → List ℕ
line_change old new = change_between (only_text (lines_of new) (lines_of old)) (only_text (lines_of old) (lines_of new))

-- The words of a text as it is shown, which spaces separate; those from an index, after `.. ` for the words before them; and those from the
-- first that differs.
abbrev pub words_of : List ℕ → List (List ℕ)
words_of text = slice_split (λ byte. byte == 0x20) text

abbrev pub after_dots : ℕ → List ℕ → List ℕ
after_dots count rest = if count == 0 || length rest == 0 then rest else codes ".. " ++ rest

unfoldable pub joined_words : ℕ → List (List ℕ) → List ℕ
joined_words index words = joined (codes " ") (drop index words)

unfoldable pub words_from : ℕ → List (List ℕ) → List ℕ
words_from index words = after_dots index (joined_words index words)

unfoldable pub words_between : ℕ → List (List ℕ) → List (List ℕ) → List ℕ
words_between index old new = change_between (words_from index old) (words_from index new)

unfoldable pub word_change : List ℕ → List ℕ → List ℕ
word_change old new = words_between (common_prefix_len bytes_eq (words_of old) (words_of new)) (words_of old) (words_of new)
