-- Equality of joined lists, part by part.
use mathlib.Core.Bool.{and_assoc}
use Rattle.std.proofs.Common.{◌≡◌, ℕ, List, [], ◌∷◌, ◌++◌, length, refl, sym, ◌∙◌, arith}
use Rattle.std.specs.Prelude.{◌&&◌, nat_eq}
use Rattle.std.specs.Cmp.Lexicographic.{pointwise}
use Rattle.uefi_records.specs.declared.file.file_info.FileInfo.{FileInfo}
use Rattle.uefi_records.specs.file.Views.{stated_size, file_fields_of, file_header_of, file_info_key, file_name_of}
use Rattle.uefi_records.proofs.file.FieldsBack.{length-file_header}

-- Parts of the same length.
pub pointwise-append : (xs ys more others : List ℕ) → length xs ≡ length ys → pointwise nat_eq (xs ++ more)
    (ys ++ others) ≡ pointwise nat_eq xs ys && pointwise nat_eq more others
pointwise-append [] [] more others same = refl
pointwise-append [] (y ∷ ys) more others same = absurd (omega (arith, same))
pointwise-append (x ∷ xs) [] more others same = absurd (omega (arith, same))
pointwise-append (x ∷ xs) (y ∷ ys) more others same =
    rw (pointwise-append xs ys more others (omega (arith, same)), and_assoc)

-- Two file information records are equal exactly if their headers and the units of their names are.
pub equal_if : (one other : FileInfo) → pointwise nat_eq (file_info_key one) (file_info_key other)
    ≡ pointwise nat_eq (file_header_of one) (file_header_of other)
    && pointwise nat_eq (file_name_of one) (file_name_of other)
unfolding file_info_key
equal_if one other =
    pointwise-append (file_header_of one) (file_header_of other) (file_name_of one) (file_name_of other)
    (length-file_header (stated_size one) (file_fields_of one)
    ∙ sym (length-file_header (stated_size other) (file_fields_of other)))
