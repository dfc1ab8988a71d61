-- What a piece has to be, so that it is written.
use Rattle.std.specs.Prelude.{Bool, true, nat_lt}
use Rattle.uefi_path_text.specs.declared.form.shape.Piece.{Piece}
use Rattle.uefi_path_text.specs.declared.form.shape.Piece.TheVariants.{Digits as digits_at, Mark as mark_of}

-- A mark is a character of ASCII.
abbrev pub is_ascii : Piece → Bool
is_ascii (digits_at k) = true
is_ascii (mark_of c) = nat_lt c 128
