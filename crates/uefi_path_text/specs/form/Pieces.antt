-- Digits of a fixed shape as they are written.
use Rattle.std.specs.Prelude.{ℕ, ◌/◌, ◌%◌, List, [], ◌∷◌, ◌++◌, true, slice_index}
use Rattle.std.specs.Fmt.{digit_glyph}
use Rattle.uefi_path_text.specs.declared.form.shape.Shape.{Shape}
use Rattle.uefi_path_text.specs.declared.form.shape.Shape.TheVariants.{Guid, Eui64, Ieee1394, Address}
use Rattle.uefi_path_text.specs.declared.form.shape.Piece.{Piece}
use Rattle.uefi_path_text.specs.declared.form.shape.Piece.TheVariants.{Digits as digits_at, Mark as mark_of}

-- The two digits of the byte at a place, or a mark.
abbrev pub piece_text : List ℕ → Piece → List ℕ
piece_text bytes (digits_at k) =
    digit_glyph true (slice_index bytes k / 16) ∷ digit_glyph true (slice_index bytes k % 16) ∷ []
piece_text bytes (mark_of c) = c ∷ []

abbrev pub pieces_text : List ℕ → List Piece → List ℕ
pieces_text bytes [] = []
pieces_text bytes (piece ∷ pieces) = piece_text bytes piece ++ pieces_text bytes pieces

abbrev pub dash : Piece
dash = mark_of 0x2d

abbrev pub colon : Piece
colon = mark_of 0x3a

-- The pieces of each shape, in the order of the text.
abbrev pub pieces : Shape → List Piece
pieces Guid = digits_at 3 ∷ digits_at 2 ∷ digits_at 1 ∷ digits_at 0 ∷ dash ∷ digits_at 5 ∷ digits_at 4 ∷ dash
    ∷ digits_at 7 ∷ digits_at 6 ∷ dash ∷ digits_at 8 ∷ digits_at 9 ∷ dash ∷ digits_at 10 ∷ digits_at 11 ∷ digits_at 12
    ∷ digits_at 13 ∷ digits_at 14 ∷ digits_at 15 ∷ []
pieces Eui64 = digits_at 7 ∷ dash ∷ digits_at 6 ∷ dash ∷ digits_at 5 ∷ dash ∷ digits_at 4 ∷ dash ∷ digits_at 3 ∷ dash
    ∷ digits_at 2 ∷ dash ∷ digits_at 1 ∷ dash ∷ digits_at 0 ∷ []
pieces Ieee1394 = digits_at 7 ∷ digits_at 6 ∷ digits_at 5 ∷ digits_at 4 ∷ digits_at 3 ∷ digits_at 2 ∷ digits_at 1 ∷ digits_at 0 ∷ []
pieces Address = digits_at 0 ∷ digits_at 1 ∷ digits_at 2 ∷ digits_at 3 ∷ digits_at 4 ∷ digits_at 5 ∷ []

abbrev pub shape_size : Shape → ℕ
shape_size Guid = 16
shape_size Eui64 = 8
shape_size Ieee1394 = 8
shape_size Address = 6

-- Those of an IPv6 address: eight groups of two bytes.
abbrev pub ipv6_pieces : List Piece
ipv6_pieces = digits_at 0 ∷ digits_at 1 ∷ colon ∷ digits_at 2 ∷ digits_at 3 ∷ colon ∷ digits_at 4 ∷ digits_at 5 ∷ colon
    ∷ digits_at 6 ∷ digits_at 7 ∷ colon ∷ digits_at 8 ∷ digits_at 9 ∷ colon ∷ digits_at 10 ∷ digits_at 11 ∷ colon
    ∷ digits_at 12 ∷ digits_at 13 ∷ colon ∷ digits_at 14 ∷ digits_at 15 ∷ []
