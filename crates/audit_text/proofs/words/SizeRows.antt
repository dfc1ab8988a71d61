-- The rows of a header, one after another.
use Rattle.std.proofs.Common.{◌≡◌, ◌∙◌, ℕ, ◌+◌, ◌<◌, List, [], ◌∷◌, ◌++◌, length, map, take, ap, sym, Some, None}
use Rattle.std.specs.Prelude.{slice_get}
use Rattle.std.proofs.lemmas.Option.{get_or_from_slice_get, slice_get-get_or}
use Rattle.uefi_audits.proofs.FirstOnes.{one_mapped}
use Rattle.audit_text.specs.declared.parts.part.PartValue.{PartValue}
use Rattle.audit_text.specs.parts.Contents.{size_parts}
use Rattle.audit_text.specs.parts.Part.{Value, object}
use Rattle.audit_text.specs.private.PartViews.{value_of}

abbrev size_value : ℕ × ℕ → Value
size_value row = object (size_parts row)

pub rows_grown : (rows : List (ℕ × ℕ)) (old new : List PartValue) (value : PartValue) (row : ℕ × ℕ) (index : ℕ)
    → index < length rows → Some row ≡ slice_get rows index → map value_of old ≡ map size_value (take index rows)
    → value_of value ≡ size_value row → new ≡ old ++ value ∷ [] → map value_of new ≡ map size_value (take (index + 1) rows)
rows_grown rows old new value row index within at is same pushed =
    let there = get_or_from_slice_get rows index row row (sym at) in
    one_mapped value_of size_value rows old new value index row within is (same ∙ ap size_value (sym there)) pushed

pub is_there : (rows : List (ℕ × ℕ)) (index : ℕ) → index < length rows → None ≡ slice_get rows index → ⊥
is_there rows index within none = let there = slice_get-get_or rows index (0, 0) within in absurd cc

pub ruleset rows = (rows_grown, is_there)
