-- The units of a file's name are those of its characters.
use Rattle.std.proofs.Common.{◌≡◌, ℕ, zero, suc, ◌+◌, ◌-◌, ◌*◌, ◌^◌, ◌<◌, ◌≤◌, ◌&&◌, List, [], ◌∷◌, ◌++◌, length, map, take, Bool, true, false, cond, not, refl, arith, sym, ap, ◌∙◌, Option, Some, None, is_some, nat_le, nat_lt, lt-ltb, le-ltb, ltb-true, leb-true, le-leb, slice_index, take_all, unwrap_or, flat_map, eqb-true}
use Rattle.std.specs.List.{list_any}
use Rattle.std.specs.Char.Escape.{encode_utf16}
use Rattle.std.specs.Char.Utf16.{utf16_chars, is_high_surrogate, is_low_surrogate, surrogate_pair_char, lone_unit_char, has_unpaired_surrogate}
use Rattle.std.proofs.Math.Utf8.{scalar, scalars}
use Rattle.std.proofs.str.Utf16.{pair_units, one_unit}
use Rattle.std.proofs.lemmas.Bool.{and_parts, and_from, cond-false}
use Rattle.std.proofs.lemmas.Bool.Decides.{nat_tests}
use Rattle.std.proofs.lemmas.List.{take_more}
use Rattle.uefi_base.specs.LittleEndian.{AreBytes}
use Rattle.uefi_base.specs.Unaligned.{units_of, AreUnits}
use Rattle.uefi_path_text.specs.text.Arguments.{without_nul}
use Rattle.uefi_path_text.specs.text.FileName.{is_nul_ended}

-- The units of bytes are units.
pub units_small : (d : List ℕ) → AreBytes d → AreUnits (units_of d)
units_small [] each k = omega arith
units_small (low ∷ []) each k = omega arith
units_small (low ∷ high ∷ rest) each zero = omega (arith, each 0, each 1)
units_small (low ∷ high ∷ rest) each (suc k) = units_small rest (λ j. each (suc (suc j))) k

pub front_units : (front rest : List ℕ) → AreUnits (front ++ rest) → AreUnits front
front_units [] rest fit k = omega arith
front_units (u ∷ front) rest fit zero = fit 0
front_units (u ∷ front) rest fit (suc k) = front_units front rest (λ j. fit (suc j)) k

-- Units that end with a NUL are those before it, and it.
pub nul_last : (units : List ℕ) → is_nul_ended units ≡ true → units ≡ without_nul units ++ 0 ∷ []
nul_last units ended =
    let parts = and_parts _ _ ended in
    let long : 1 < length units = ltb-true 1 (length units) parts.0 in
    let nul : slice_index units (length units - 1) ≡ 0 = eqb-true _ 0 parts.1 in
    let count : length units - 1 + 1 ≡ length units = omega arith in
    sym (take_all (length units) units (omega arith)) ∙ ap (λ n. take n units) (sym count) ∙ take_more units (length units - 1) 0 (omega arith)
    ∙ ap (λ u. without_nul units ++ u ∷ []) nul

-- Characters, each of which is one or a surrogate without a partner.
abbrev characters : List (Option ℕ) → List ℕ
characters os = map (λ o. unwrap_or o 0xfffd) os

abbrev are_paired : List (Option ℕ) → Type 0
are_paired os = list_any (λ o. not (is_some o)) os ≡ false

pub record Spells (os : List (Option ℕ)) (units : List ℕ) : Type 0 where
  pub units_are : flat_map encode_utf16 (characters os) ≡ units
  pub are_scalars : scalars (characters os) ≡ true

lone_scalar : (u : ℕ) → u < 2 ^ 16 → (nat_le 0xd800 u && nat_lt u 0xe000) ≡ false → scalar u ≡ true
lone_scalar u small other = grind (arith, nat_tests)

lone_step : (b : Bool) (u : ℕ) (us : List ℕ) (os : List (Option ℕ)) → u < 2 ^ 16 → (nat_le 0xd800 u && nat_lt u 0xe000) ≡ b
    → are_paired (cond b None (Some u) ∷ os) → (are_paired os → Spells os us) → Spells (cond b None (Some u) ∷ os) (u ∷ us)
lone_step true u us os small is paired others = cc
lone_step false u us os small is paired others =
    let more = others paired in
    record {
      units_are = ap (λ l. l ++ flat_map encode_utf16 (characters os)) (one_unit u small) ∙ ap (λ l. u ∷ l) more.units_are;
      are_scalars = and_from _ _ (lone_scalar u small is) more.are_scalars;
    }

pair_step : (u v : ℕ) (us : List ℕ) (os : List (Option ℕ)) → (is_high_surrogate u && is_low_surrogate v) ≡ true
    → Spells os us → Spells (Some (surrogate_pair_char u v) ∷ os) (u ∷ v ∷ us)
pair_step u v us os pair more =
    let parts = and_parts (is_high_surrogate u) (is_low_surrogate v) pair in
    let high = and_parts (nat_le 0xd800 u) (nat_lt u 0xdc00) parts.0 in
    let low = and_parts (nat_le 0xdc00 v) (nat_lt v 0xe000) parts.1 in
    let u_from : 0xd800 ≤ u = leb-true 0xd800 u high.0 in
    let u_to : u < 0xdc00 = ltb-true u 0xdc00 high.1 in
    let v_from : 0xdc00 ≤ v = leb-true 0xdc00 v low.0 in
    let v_to : v < 0xe000 = ltb-true v 0xe000 low.1 in
    let sum : surrogate_pair_char u v ≡ 0x1_0000 + ((u - 0xd800) * 0x400 + (v - 0xdc00)) = omega arith in
    let wide : 0xffff < surrogate_pair_char u v = omega arith in
    let limit : surrogate_pair_char u v < 1114112 = omega arith in
    let scalar_is : scalar (surrogate_pair_char u v) ≡ true =
    cond-false _ _ _ (le-ltb (surrogate_pair_char u v) 55296 (omega arith))
    ∙ and_from _ _ (le-leb 57344 (surrogate_pair_char u v) (omega arith)) (lt-ltb (surrogate_pair_char u v) 1114112 limit) in
    record {
      units_are = ap (λ c. encode_utf16 c ++ flat_map encode_utf16 (characters os)) sum
          ∙ ap (λ l. l ++ flat_map encode_utf16 (characters os)) (pair_units u v u_from v_from v_to)
          ∙ ap (λ l. u ∷ v ∷ l) more.units_are;
      are_scalars = and_from _ _ scalar_is more.are_scalars;
    }

spell_step : (b : Bool) (u v : ℕ) (us : List ℕ) (after_pair after_lone : List (Option ℕ)) → u < 2 ^ 16
    → (is_high_surrogate u && is_low_surrogate v) ≡ b
    → are_paired (cond b (Some (surrogate_pair_char u v) ∷ after_pair) (lone_unit_char u ∷ after_lone))
    → (are_paired after_pair → Spells after_pair us) → (are_paired after_lone → Spells after_lone (v ∷ us))
    → Spells (cond b (Some (surrogate_pair_char u v) ∷ after_pair) (lone_unit_char u ∷ after_lone)) (u ∷ v ∷ us)
spell_step true u v us after_pair after_lone small is paired pair lone = pair_step u v us after_pair is (pair paired)
spell_step false u v us after_pair after_lone small is paired pair lone =
    lone_step _ u (v ∷ us) after_lone small refl paired lone

spell : (us : List ℕ) → AreUnits us → are_paired (utf16_chars us) → Spells (utf16_chars us) us
unfolding utf16_chars
spell [] fit paired = record { units_are = refl; are_scalars = refl }
spell (u ∷ []) fit paired =
    lone_step _ u [] [] (fit 0) refl paired (λ _. record { units_are = refl; are_scalars = refl })
spell (u ∷ v ∷ us) fit paired =
    spell_step _ u v us (utf16_chars us) (utf16_chars (v ∷ us)) (fit 0) refl paired
    (spell us (λ k. fit (suc (suc k)))) (spell (v ∷ us) (λ k. fit (suc k)))

-- The characters of units in which each surrogate has its partner.
pub units_spelled : (units : List ℕ) → AreUnits units → has_unpaired_surrogate units ≡ false → Spells (utf16_chars units) units
units_spelled units fit paired = spell units fit paired
