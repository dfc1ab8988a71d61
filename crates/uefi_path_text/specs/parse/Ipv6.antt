-- The text of an IPv6 address (RFC 4291, 2.2).
use Rattle.std.specs.Prelude.{ℕ, suc, ◌+◌, ◌-◌, ◌==◌, ◌&&◌, Bool, true, false, nat_le, List, [], ◌∷◌, ◌++◌, length, take, drop, slice_index, replicate}
use Rattle.std.specs.Prelude.{Option, Some, None, if◌then◌else◌}
use Rattle.std.specs.List.{list_all}
use Rattle.std.specs.Option.{option_map}
use Rattle.std.specs.Str.Parse.{digits_value}
use Rattle.std.specs.Int.{bytes_high_first}
use Rattle.uefi_path_text.specs.parse.Parts.{given, is_numeral, cut_at}
use Rattle.uefi_path_text.specs.parse.Ipv4.{is_ipv4, ipv4_bytes}

-- A group: one to four hex digits, which are two bytes, the highest first.
abbrev pub is_group : List ℕ → Bool
is_group part = is_numeral 16 part && nat_le (length part) 4

abbrev pub group_bytes : List ℕ → List ℕ
group_bytes part = bytes_high_first 2 (digits_value 16 part)

-- An IPv4 address, each number of which has at most three digits.
abbrev pub is_short : List ℕ → Bool
is_short number = nat_le (length number) 3

abbrev pub is_ipv4_end : List ℕ → Bool
is_ipv4_end part = is_ipv4 part && list_all is_short (cut_at 0x2e part)

-- Bytes, and those after them, if these are given.
abbrev pub followed : List ℕ → Option (List ℕ) → Option (List ℕ)
followed bytes more = option_map (λ others. bytes ++ others) more

-- The bytes of groups. At the end of an address an IPv4 address can be in the place of the last two.
abbrev pub groups_in : Bool → List (List ℕ) → Option (List ℕ)
groups_in is_end [] = Some []
groups_in is_end (part ∷ parts) =
    if is_group part then followed (group_bytes part) (groups_in is_end parts)
    else given (is_end && length parts == 0 && is_ipv4_end part) (ipv4_bytes part)

-- No groups, or groups with colons between them.
abbrev pub side_in : Bool → List ℕ → Option (List ℕ)
side_in is_end text = groups_in is_end (if length text == 0 then [] else cut_at 0x3a text)

-- The offset of the first `::`.
abbrev pub gap_in : List ℕ → Option ℕ
gap_in [] = None
gap_in (c ∷ text) = if c == 0x3a && slice_index text 0 == 0x3a then Some 0 else option_map suc (gap_in text)

-- Without a `::` there are all eight groups.
abbrev pub sixteen_bytes : Option (List ℕ) → Option (List ℕ)
sixteen_bytes None = None
sixteen_bytes (Some bytes) = given (length bytes == 16) bytes

-- With one there are at most seven, and zeros in its place.
abbrev pub with_gap : List ℕ → List ℕ → List ℕ
with_gap front back = front ++ (replicate (16 - (length front + length back)) 0 ++ back)

abbrev pub around : Option (List ℕ) → Option (List ℕ) → Option (List ℕ)
around None back = None
around (Some front) None = None
around (Some front) (Some back) = given (nat_le (length front + length back) 14) (with_gap front back)

abbrev pub by_gap : List ℕ → Option ℕ → Option (List ℕ)
by_gap text None = sixteen_bytes (side_in true text)
by_gap text (Some gap) = around (side_in false (take gap text)) (side_in true (drop (gap + 2) text))

-- The bytes of an address, if the text is one.
unfoldable pub ipv6_in : List ℕ → Option (List ℕ)
ipv6_in text = by_gap text (gap_in text)
