-- What contracts see of the values of a node's data.
use Rattle.std.specs.Prelude.{◌≡◌, ℕ, List, ◌++◌, map, Option, MatchOption}
use Rattle.std.specs.Borrow.{Bor}
use Rattle.uefi_path_text.specs.parse.Values.{low_first}
use Rattle.uefi_path_text.specs.form.NodeForm.{Parameter}
use Rattle.uefi_path_text.specs.write.Fields.{value_found, values_from, values_found}
use Rattle.uefi_path_text.specs.private.FormViews.{parameter_of, part_of}
use Rattle.uefi_path_text.specs.declared.write.fields.Found.{Found}
use Rattle.uefi_path_text.specs.declared.write.fields.Found.TheVariants.{Bytes, Number}
use Rattle.uefi_path_text.specs.declared.write.fields.Fields.{Fields}

abbrev pub found_bytes : Found → List ℕ
found_bytes (Bytes b) = b.now
found_bytes (Number number) = low_first 2 number

-- The values, that at an index, and those from an index on.
abbrev pub values_of : Fields → List (List ℕ)
values_of fields = values_found (map parameter_of fields.parameters.now) (map part_of fields.parts.now) fields.payload.now

abbrev pub found_at : Fields → ℕ → List ℕ
found_at fields index =
    value_found (map parameter_of fields.parameters.now) (map part_of fields.parts.now) index fields.payload.now

abbrev pub values_after : Fields → List Parameter → ℕ → List (List ℕ)
values_after fields parameters index =
    values_from (map parameter_of fields.parameters.now) (map part_of fields.parts.now) parameters index fields.payload.now

-- At Some, what follows the front of the text; at None, the text has another front.
abbrev pub IsAfter : List ℕ → List ℕ → Option (Bor (List ℕ)) → Type 0
IsAfter front text after = MatchOption after ((rest : List ℕ) → text ≡ front ++ rest → ⊥) (λ rest. text ≡ front ++ rest.now)
