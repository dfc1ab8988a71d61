-- Texts of arguments and their values.
use Rattle.std.proofs.Common.{◌≡◌, ◌==◌, ℕ, zero, suc, ◌+◌, ◌-◌, min, ◌<◌, ◌≤◌, List, [], ◌∷◌, ◌++◌, take, drop, replicate, refl, ◌∙◌, length-append, Option, Some, None, Bool, true, false, cond, length, map, sym, ap, subst, arith}
use Rattle.std.specs.Borrow.{Bor}
use Rattle.std.specs.Prelude.{is_some, ◌&&◌}
use Rattle.uefi_path_text.specs.parse.Parts.{cut_at, onto_first}
use Rattle.std.proofs.lemmas.Bool.Decides.{nat_tests}
use Rattle.std.proofs.lemmas.List.{drop-replicate, length-replicate, take_all}
use Rattle.uefi_base.specs.Buffer.{put_at}
use Rattle.uefi_base.proofs.Parts.{put_next}
use Rattle.uefi_path_text.specs.form.NodeForm.{Parameter, Part, repeated}
use Rattle.uefi_path_text.specs.parse.Arguments.{repeated_values, values_in, onto, value_in, listed_values, value_at, number_of, number_sum, part_bytes, parts_data, with_zeros}
use Rattle.uefi_path_text.specs.declared.form.argument.Argument.{Argument}
use Rattle.uefi_path_text.specs.private.FromText.{first_text, other_texts, rest_parts}

-- The first parameter reads the first text.
pub listed_step : (parameter : Parameter) (parameters : List Parameter) (texts : List (List ℕ))
    → listed_values (parameter ∷ parameters) texts
    ≡ onto (value_in parameter (first_text texts)) (listed_values parameters (other_texts texts))
listed_step parameter parameters [] = refl
listed_step parameter parameters (text ∷ texts) = refl

-- There is a list if there are all of its elements.
pub onto_some : {A : Type 0} (value : Option A) (values : Option (List A))
    → is_some (onto value values) ≡ is_some value && is_some values
onto_some None values = refl
onto_some (Some value) None = refl
onto_some (Some value) (Some values) = refl

-- A text has a part.
onto_some_part : (c : ℕ) (parts : List (List ℕ)) → listed_values [] (onto_first c parts) ≡ None
onto_some_part c [] = refl
onto_some_part c (part ∷ parts) = refl

either_part : (b : Bool) (c : ℕ) (others parts : List (List ℕ))
    → listed_values [] (cond b ([] ∷ others) (onto_first c parts)) ≡ None
either_part true c others parts = refl
either_part false c others parts = onto_some_part c parts

pub some_text_left : (mark : ℕ) (text : List ℕ) → listed_values [] (cut_at mark text) ≡ None
some_text_left mark [] = refl
some_text_left mark (c ∷ text) = either_part (c == mark) c (cut_at mark text) (cut_at mark text)

-- So no text may be left where there is no parameter.
pub too_many_texts : {A : Type 0} (view : A → Parameter) (parameters : List A) (texts : Option (Bor (List ℕ)))
    (rest : Bor (List ℕ)) → length parameters ≡ 0 → texts ≡ Some rest
    → false ≡ is_some (listed_values (map view parameters) (rest_parts 0x2c texts))
too_many_texts view [] texts rest none is = rw is (sym (ap is_some (some_text_left 0x2c rest.now)))
too_many_texts view (parameter ∷ parameters) texts rest none is = absurd (omega (arith, none))

-- The value at an index is that of the values from there on.
pub value_from : (index i : ℕ) (values : List (List ℕ)) → value_at (index + i) values ≡ value_at i (drop index values)
value_from zero i values = ap (λ n. value_at n values) (omega arith)
value_from (suc index) zero [] = refl
value_from (suc index) (suc i) [] = refl
value_from (suc index) i (value ∷ values) =
    let next : suc index + i ≡ suc (index + i) = omega arith in rw next (value_from index i values)

-- The sum of one more number.
pub one_more_number : (i : ℕ) (values : List (List ℕ))
    → number_sum (take (suc i) values) ≡ number_sum (take i values) + number_of (value_at i values)
one_more_number zero [] = refl
one_more_number (suc i) [] = refl
one_more_number zero (value ∷ values) = omega arith
one_more_number (suc i) (value ∷ values) = omega (arith, one_more_number i values)

-- A part and then the others.
pub part_then : {A : Type 0} (view : A → Part) (values : List (List ℕ)) (part : A) (parts all : List A) (offset size : ℕ)
    (old now next : List ℕ) → all ≡ part ∷ parts → offset + length (parts_data values (map view all)) ≤ length old
    → now ≡ put_at offset (part_bytes values (view part)) old → size ≡ length (part_bytes values (view part))
    → next ≡ put_at (offset + size) (parts_data values (map view parts)) now
    → next ≡ put_at offset (parts_data values (map view all)) old
part_then view values part parts all offset size old now next is room first sized others =
    let bytes : List ℕ = part_bytes values (view part) in
    let more : List ℕ = parts_data values (map view parts) in
    let whole : parts_data values (map view all) ≡ bytes ++ more = ap (λ l. parts_data values (map view l)) is in
    let within : offset + length bytes ≤ length old =
    omega (arith, room, ap length whole, length-append bytes more) in
    others ∙ ap (λ n. put_at (offset + n) more now) sized ∙ ap (λ b. put_at (offset + length bytes) more b) first
    ∙ put_next offset bytes more old within ∙ ap (λ b. put_at offset b old) (sym whole)

-- Zeros after some of them.
pub zeros_left : (size n m : ℕ) → m ≡ min size n → take {A = ℕ} (n - m) (drop m (replicate n 0)) ≡ replicate (n - size) 0
zeros_left size n m least =
    let same : n - m ≡ n - size = omega (arith, least) in
    ap (take (n - m)) (drop-replicate m n 0) ∙ take_all (n - m) (replicate (n - m) 0) (omega (arith, length-replicate {A = ℕ}))
    ∙ ap (λ k. replicate k 0) same

-- A value and then the zeros after it.
pub padded_put : (offset size m : ℕ) (value old now next : List ℕ) → size ≡ length value → m ≡ min size 32
    → offset + length (with_zeros value) ≤ length old → now ≡ put_at offset value old
    → next ≡ put_at (offset + size) (take {A = ℕ} (32 - m) (drop m (replicate 32 0))) now
    → next ≡ put_at offset (with_zeros value) old
padded_put offset size m value old now next sized least room first is =
    let within : offset + length value ≤ length old =
    omega (arith, room, length-append value (replicate (32 - length value) 0)) in
    is ∙ ap (λ b. put_at (offset + size) b now) (zeros_left size 32 m least)
    ∙ ap (λ n. put_at (offset + n) (replicate (32 - n) 0) now) sized
    ∙ ap (λ b. put_at (offset + length value) (replicate (32 - length value) 0) b) first
    ∙ put_next offset value (replicate (32 - length value) 0) old within

-- A text has a part.
onto_length : (c : ℕ) (parts : List (List ℕ)) → 0 < length (onto_first c parts)
onto_length c [] = omega arith
onto_length c (part ∷ parts) = omega arith

either_length : (b : Bool) (c : ℕ) (others parts : List (List ℕ)) → 0 < length (cond b ([] ∷ others) (onto_first c parts))
either_length true c others parts = omega arith
either_length false c others parts = onto_length c parts

pub some_part : (mark : ℕ) (text : List ℕ) → 0 < length (cut_at mark text)
some_part mark [] = omega arith
some_part mark (c ∷ text) = either_length (c == mark) c (cut_at mark text) (cut_at mark text)

not_none : (n : ℕ) → 0 < n → (n == 0) ≡ false
not_none n some = grind (arith, nat_tests)

-- Texts that are all of a kind are read, if there is one.
pub some_repeated : (kind : Argument) (prefix : List ℕ) (texts : Option (Bor (List ℕ))) (first : Bor (List ℕ))
    → texts ≡ Some first → is_some (repeated_values kind (rest_parts 0x2c texts)) ≡ true
    → true ≡ is_some (values_in (repeated prefix kind) (rest_parts 0x2c texts))
some_repeated kind prefix texts first is all =
    let some : 0 < length (cut_at 0x2c first.now) = some_part 0x2c first.now in
    let P : Option (Bor (List ℕ)) → Type 0 =
    λ o. is_some (repeated_values kind (rest_parts 0x2c o)) ≡ true → true ≡ is_some (values_in (repeated prefix kind) (rest_parts 0x2c o)) in
    subst P (sym is) (λ each. rw (not_none (length (cut_at 0x2c first.now)) some) (sym each)) all
