-- The values of a node's data, as they are found.
use Rattle.std.proofs.Common.{◌≡◌, ℕ, zero, suc, ◌+◌, ◌-◌, ◌*◌, ◌<◌, ◌≤◌, ◌^◌, min, List, [], ◌∷◌, ◌++◌, length, take, drop, replicate, map, refl, sym, ap, ◌∙◌, arith, subst, append_assoc, Option, Some, None, pow_mono}
use Rattle.std.specs.Borrow.{Bor}
use Rattle.uefi_path_text.specs.form.NodeForm.{Parameter, Part}
use Rattle.uefi_path_text.specs.parse.Arguments.{value_at, part_bytes, parts_data, with_zeros}
use Rattle.uefi_path_text.specs.write.Fields.{argument_at, value_found, values_from}
use Rattle.uefi_path_text.specs.private.Found.{IsAfter}
use Rattle.uefi_path_text.proofs.reading.ArgumentLists.{zeros_left}
use Rattle.uefi_path_text.proofs.reading.LongNumbers.{powers}

-- The argument at a later index.
pub argument_later : (parameter : Parameter) (parameters : List Parameter) (index : ℕ) → (index ≡ 0 → ⊥)
    → argument_at (parameter ∷ parameters) index ≡ argument_at parameters (index - 1)
argument_later parameter parameters zero later = absurd (later refl)
argument_later parameter parameters (suc index) later = ap (argument_at parameters) (omega arith)

-- The value at an index is that which is found.
pub found_within : (ps : List Parameter) (parts : List Part) (more : List Parameter) (k index : ℕ) (d : List ℕ)
    → index < length more → value_at index (values_from ps parts more k d) ≡ value_found ps parts (k + index) d
found_within ps parts [] k index d within = absurd (omega arith)
found_within ps parts (p ∷ more) k zero d within = ap (λ n. value_found ps parts n d) (omega arith)
found_within ps parts (p ∷ more) k (suc index) d within =
    found_within ps parts more (suc k) index d (omega (arith, within)) ∙ ap (λ n. value_found ps parts n d) (omega arith)

pub found_past : (ps : List Parameter) (parts : List Part) (more : List Parameter) (k index : ℕ) (d : List ℕ)
    → length more ≤ index → value_at index (values_from ps parts more k d) ≡ []
found_past ps parts [] k zero d past = refl
found_past ps parts [] k (suc index) d past = refl
found_past ps parts (p ∷ more) k zero d past = absurd (omega arith)
found_past ps parts (p ∷ more) k (suc index) d past = found_past ps parts more (suc k) index d (omega (arith, past))

-- A value and then the zeros after it.
cancel : (front a b : List ℕ) → front ++ a ≡ front ++ b → a ≡ b
cancel [] a b same = same
cancel (c ∷ front) a b same = cancel front a b (let tails : front ++ a ≡ front ++ b = cc in tails)

pub two_after : (a b text rest : List ℕ) (after : Option (Bor (List ℕ))) → text ≡ a ++ rest → IsAfter b rest after
    → IsAfter (a ++ b) text after
two_after a b text rest None is none = λ more whole. none more (cancel a rest (b ++ more) (sym is ∙ whole ∙ append_assoc a b more))
two_after a b text rest (Some more) is some = is ∙ ap (λ l. a ++ l) some ∙ sym (append_assoc a b more.now)

pub padded_after : (value text rest : List ℕ) (m : ℕ) (after : Option (Bor (List ℕ))) → m ≡ min (length value) 32
    → text ≡ value ++ rest → IsAfter (take {A = ℕ} (32 - m) (drop m (replicate 32 0))) rest after → IsAfter (with_zeros value) text after
padded_after value text rest m after least is some =
    two_after value (replicate (32 - length value) 0) text rest after is
    (subst (λ zeros. IsAfter zeros rest after) (zeros_left (length value) 32 m least) some)

-- Bytes are a part and the others.
pub part_and_more : {A : Type 0} (view : A → Part) (values : List (List ℕ)) (part : A) (others all : List A)
    (rest more : List ℕ) (Holds : Type 0) → all ≡ part ∷ others → rest ≡ part_bytes values (view part) ++ more
    → (Holds → parts_data values (map view others) ≡ more) × (parts_data values (map view others) ≡ more → Holds)
    → (Holds → parts_data values (map view all) ≡ rest) × (parts_data values (map view all) ≡ rest → Holds)
part_and_more view values part others all rest more Holds is after rec = (
  λ holds. ap (λ l. parts_data values (map view l)) is ∙ ap (λ l. part_bytes values (view part) ++ l) (rec.0 holds) ∙ sym after,
  λ whole. rec.1 (cancel (part_bytes values (view part)) (parts_data values (map view others)) more
      (sym (ap (λ l. parts_data values (map view l)) is) ∙ whole ∙ after)),
)

-- 256 times a number of seven bytes at most.
pub seven_bytes : (n k : ℕ) → n < 256 ^ k → k ≤ 7 → n < 2 ^ 56
seven_bytes n k small few =
    let most : 2 ^ (8 * k) ≤ 2 ^ 56 = pow_mono {i = 8 * k} {j = 56} (omega arith) in
    let limit : n < 2 ^ (8 * k) = subst (λ m. n < m) (powers k) small in
    omega (arith, most, limit)
