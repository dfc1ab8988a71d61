-- The worked rows hold.
use Rattle.std.proofs.Common.{rules, ◌≡◌, ℕ, zero, suc, ◌-◌, ◌<◌, List, [], ◌∷◌, ◌++◌, length, replicate, get_or, refl}
use Rattle.std.proofs.Common.{arith, lit<, lit≤}
use Rattle.std.proofs.lemmas.Grind.{common_steps}
use Rattle.std.proofs.lemmas.List.{length-replicate, get_or-replicate}
use Rattle.uefi_base.specs.Ucs2.{IsCharacter, AreCharactersBefore, HaveUnitsBefore}
use Rattle.uefi_base.specs.rows.Values.{TextRows, FaultRows, LimitRows, OrderRows, CharacterRows, ByteRows, NameRows}
use Rattle.uefi_base.specs.rows.Values.{RowsHold}

-- A unit between zero and the surrogates is a character.
low : (unit : ℕ) → 0 < unit → unit < 0xd800 → IsCharacter unit
low unit positive below = record {
  no_surrogate = λ surrogate. absurd (omega (arith, surrogate.0));
  not_nul = λ zero. omega arith;
}

-- The units before index 0, 1 and 2 are characters.
none_before : (units : List ℕ) → AreCharactersBefore units 0
none_before units k before = absurd (omega arith)

one_before : (u : ℕ) (units : List ℕ) → IsCharacter u → AreCharactersBefore (u ∷ units) 1
one_before u units is zero before = is
one_before u units is (suc k) before = absurd (omega arith)

two_before : (u v : ℕ) (units : List ℕ) → IsCharacter u → IsCharacter v → AreCharactersBefore (u ∷ v ∷ units) 2
two_before u v units is_u is_v zero before = is_u
two_before u v units is_u is_v (suc zero) before = is_v
two_before u v units is_u is_v (suc (suc k)) before = absurd (omega arith)

text_rows : TextRows
text_rows = search (rules, none_before, two_before, low)

fault_rows : FaultRows
fault_rows = record {
  no_nul = search (rules, one_before, low);
  empty = search (rules, none_before);
  interior_nul = search (rules, one_before, low);
  nul_before_surrogate = search (rules, none_before);
  surrogate = search (rules, none_before);
  surrogate_without_nul = search (rules, one_before, low);
  too_many_surrogates = λ n above. omega (arith, length-replicate {A = ℕ} n 0xd800);
}

-- This many letters; and each unit before a NUL after them.
abbrev letters : ℕ → List ℕ
letters n = replicate n 0x61

letter_at : (n k : ℕ) → k < length (letters n ++ 0 ∷ []) - 1 → get_or (letters n ++ 0 ∷ []) k 0 ≡ 0x61
letter_at n k before = grind (arith, common_steps, length-replicate {A = ℕ} n 0x61, get_or-replicate {A = ℕ} n k 0x61 0)

limit_rows : LimitRows
limit_rows = record {
  longest_text = λ n most. record {
    short = grind (arith, common_steps, length-replicate {A = ℕ} n 0x61);
    not_empty = grind (arith, common_steps);
    nul = grind (arith, common_steps);
    characters = λ k before. rw (letter_at n k before) (low 0x61 (lit< tt) (lit< tt));
  };
  one_unit_more = λ n many. grind (arith, common_steps, length-replicate {A = ℕ} n 0x61);
  most_characters = λ n most. record {
    short = omega (arith, length-replicate {A = ℕ} n 0x61);
    have_units = λ k before. rw (get_or-replicate {A = ℕ} n k 0x61 0 (omega (arith, length-replicate {A = ℕ} n 0x61)))
        (lit< tt, lit≤ tt);
  };
  one_character_more = λ n many. omega (arith, length-replicate {A = ℕ} n 0x61);
}

order_rows : OrderRows
order_rows = record {
  surrogate_after_nul = λ fault. (fault.0.before 0 (lit< tt)).not_nul refl;
  nul_after_surrogate = λ fault. (fault.0.before 0 (lit< tt)).no_surrogate (lit≤ tt, lit≤ tt);
  second_surrogate = λ fault. (fault.0.before 0 (lit< tt)).no_surrogate (lit≤ tt, lit≤ tt);
  ending_after_surrogate = λ fault. (fault.1 1 (lit< tt)).no_surrogate (lit≤ tt, lit≤ tt);
  surrogate_of_too_many = λ n above fault. absurd (omega (arith, length-replicate {A = ℕ} n 0xd800, fault.0.short));
}

character_rows : CharacterRows
character_rows = record {
  above = (lit< tt, (0, lit< tt, search rules, lit< tt));
  nul = (lit< tt, (1, lit< tt, first_has_unit, refl));
  nul_after_above = λ fault. at_index fault.1.0 fault.1.1 fault.1.2 fault.1.3;
  empty = search rules;
}
  where
    first_has_unit : HaveUnitsBefore (0x61 ∷ 0 ∷ []) 1
    first_has_unit zero before = (lit< tt, lit≤ tt)
    first_has_unit (suc k) before = absurd (omega arith)

    at_index : (index : ℕ) → index < 2 → HaveUnitsBefore (0x1f600 ∷ 0 ∷ []) index
        → ◌≡◌ {A = ℕ} (get_or (0x1f600 ∷ 0 ∷ []) index 0) 0 → ⊥
    at_index zero within before nul = absurd (omega (arith, nul))
    at_index (suc zero) within before nul = absurd (omega (arith, (before 0 (lit< tt)).1))
    at_index (suc (suc k)) within before nul = absurd (omega arith)

byte_rows : ByteRows
byte_rows = assumption

name_rows : NameRows
name_rows = assumption

pub rows_hold : RowsHold
rows_hold = (text_rows, fault_rows, limit_rows, order_rows, character_rows, byte_rows, name_rows)
