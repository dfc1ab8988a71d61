-- The form of a file's path: its name itself, in UTF-8 (UEFI 2.10, 10.6.1.6).
use Rattle.std.specs.Prelude.{ℕ, ◌-◌, ◌%◌, ◌==◌, ◌&&◌, ◌||◌, Bool, not, nat_eq, nat_le, nat_lt, List, length, filter, slice_index}
use Rattle.std.specs.Prelude.{Option, Some, None, encode_utf8_all, if◌then◌else◌}
use Rattle.std.specs.Char.Utf16.{has_unpaired_surrogate, utf16_lossy_chars}
use Rattle.std.specs.List.{list_all, find}
use Rattle.std.specs.Option.{option_eq}
use Rattle.uefi_base.specs.Unaligned.{units_of}
use Rattle.uefi_path.specs.Node.{Node}
use Rattle.uefi_path_text.specs.text.Arguments.{without_nul}

abbrev pub is_between : ℕ → ℕ → ℕ → Bool
is_between low high c = nat_le low c && nat_le c high

-- A control character of ASCII or Latin-1, a separator of lines or paragraphs, or a control of the writing direction
-- (Unicode's property `Bidi_Control`).
abbrev pub is_control : ℕ → Bool
is_control c =
    is_between 0 0x1f c || is_between 0x7f 0x9f c || (c == 0x61c) || is_between 0x200e 0x200f c
    || is_between 0x2028 0x202e c || is_between 0x2066 0x2069 c

-- A character that a name may have: neither a control character, nor `/`, which ends a node, nor `,`, which ends a
-- path.
abbrev pub is_name_character : ℕ → Bool
is_name_character c = not (is_control c) && not (c == 0x2f) && not (c == 0x2c)

-- A character that a type of nodes may have in its name: a letter or a digit of ASCII, or a hyphen.
abbrev pub is_node_character : ℕ → Bool
is_node_character c =
    (nat_le 0x30 c && nat_le c 0x39) || (nat_le 0x41 c && nat_le c 0x5a) || (nat_le 0x61 c && nat_le c 0x7a) || c == 0x2d

-- The characters read as a node with arguments: the first that a type of nodes can't have in its name is `(`.
abbrev pub reads_as_node : List ℕ → Bool
reads_as_node name = option_eq nat_eq (find (λ c. not (is_node_character c)) name) (Some 0x28)

-- A name has the characters, and doesn't read as a node.
abbrev pub is_name : List ℕ → Bool
is_name name = list_all is_name_character name && not (reads_as_node name)

-- The units are one or more, and then a NUL.
abbrev pub is_nul_ended : List ℕ → Bool
is_nul_ended units = nat_lt 1 (length units) && slice_index units (length units - 1) == 0

-- As many parentheses open as close: EDK II reads no path with another name.
abbrev pub count_of : ℕ → List ℕ → ℕ
count_of wanted units = length (filter (λ unit. unit == wanted) units)

abbrev pub is_paired : List ℕ → Bool
is_paired units = count_of 0x28 units == count_of 0x29 units

-- The text of the units before the NUL: that of their characters, if each surrogate has its partner and they are a
-- name.
unfoldable pub name_text : List ℕ → Option (List ℕ)
name_text units =
    if not (has_unpaired_surrogate units) && is_name (utf16_lossy_chars units)
    then Some (encode_utf8_all (utf16_lossy_chars units)) else None

-- The text of the path of a file (10.3.5.4), whose data are units that end with a NUL, with each parenthesis in a pair.
unfoldable pub file_name_text : Node → Option (List ℕ)
file_name_text node =
    if node.device_type == 4 && node.sub_type == 4 && length node.payload % 2 == 0
    && is_nul_ended (units_of node.payload) && is_paired (units_of node.payload)
    then name_text (without_nul (units_of node.payload)) else None
