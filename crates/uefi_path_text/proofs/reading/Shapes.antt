-- Digits of each shape are read as the bytes that they were written of.
use Rattle.std.proofs.Common.{◌≡◌, ℕ, List, length, true, refl, sym, ap, ◌∙◌, map, Some}
use Rattle.std.specs.List.{list_all}
use Rattle.uefi_path_text.specs.form.Pieces.{pieces, pieces_text, shape_size}
use Rattle.uefi_path_text.specs.text.Arguments.{is_argument}
use Rattle.uefi_path_text.specs.parse.Values.{shape_bytes, bytes_in, pattern, has_pattern}
use Rattle.uefi_path_text.specs.declared.form.shape.Shape.{Shape}
use Rattle.uefi_path_text.specs.declared.form.shape.Shape.TheVariants.{Guid, Eui64, Ieee1394, Address}
use Rattle.uefi_path_text.specs.declared.form.argument.Argument.TheVariants.{Digits}
use Rattle.uefi_base.specs.LittleEndian.{AreBytes}
use Rattle.uefi_path_text.proofs.reading.ByteLists.{listed}
use Rattle.uefi_path_text.proofs.reading.Pieces.{pieces_pattern, is_mark, pieces_fit, pieces_argument, digits_twice, shape_read}

-- The pieces of a shape have its pattern, and its marks can be in an argument.
same_pattern : (shape : Shape) → pieces_pattern (pieces shape) ≡ pattern shape
same_pattern Guid = refl
same_pattern Eui64 = refl
same_pattern Ieee1394 = refl
same_pattern Address = refl

marks : (shape : Shape) → list_all is_mark (pieces shape) ≡ true
marks Guid = refl
marks Eui64 = refl
marks Ieee1394 = refl
marks Address = refl

-- Their digits are those of the bytes, in the order of the data.
same_bytes : (shape : Shape) (bytes : List ℕ) → length bytes ≡ shape_size shape
    → shape_bytes shape (pieces_text bytes (pieces shape)) ≡ map digits_twice bytes
unfolding shape_bytes
same_bytes Guid bytes long = ap (map digits_twice) (listed 16 bytes long)
same_bytes Eui64 bytes long = ap (map digits_twice) (listed 8 bytes long)
same_bytes Ieee1394 bytes long = ap (map digits_twice) (listed 8 bytes long)
same_bytes Address bytes long = ap (map digits_twice) (listed 6 bytes long)

pub shape_argument : (shape : Shape) (bytes : List ℕ) → AreBytes bytes → is_argument (pieces_text bytes (pieces shape)) ≡ true
shape_argument shape bytes each = pieces_argument bytes (pieces shape) each (marks shape)

pub digits_read : (shape : Shape) (bytes : List ℕ) → length bytes ≡ shape_size shape → AreBytes bytes
    → bytes_in (Digits shape) (pieces_text bytes (pieces shape)) ≡ Some bytes
digits_read shape bytes long each =
    let fits = ap (λ p. has_pattern p (pieces_text bytes (pieces shape))) (same_pattern shape) in
    shape_read shape _ bytes (sym fits ∙ pieces_fit bytes (pieces shape) each (marks shape)) (same_bytes shape bytes long) each
