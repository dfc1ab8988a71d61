-- The search for the end of a description.
use Rattle.std.proofs.Common.{◌≡◌, ℕ, zero, suc, ◌+◌, ◌-◌, ◌%◌, ◌<◌, ◌≤◌, ◌^◌, List, [], ◌∷◌, ◌++◌, length, take, drop}
use Rattle.std.proofs.Common.{refl, sym, ◌∙◌, ap, subst, arith, take-append-drop, get_or, lit<}
use Rattle.std.proofs.Common.{cond, Option, Some, None, ltb}
use Rattle.std.proofs.lemmas.Bool.Decides.{nat_tests}
use Rattle.std.proofs.lemmas.List.{length-take-le, get_or-append-add}
use Rattle.std.proofs.lemmas.Nat.{le_bytes_2}
use Rattle.std.proofs.lemmas.Grind.{common_steps}
use Rattle.std.specs.Int.{w16, from_le_bytes}
use Rattle.uefi_base.specs.Fields.{split_number}
use Rattle.uefi_base.specs.LittleEndian.{AreBytes, u16_bytes}
use Rattle.uefi_base.specs.Unaligned.{AreUnits, units_of, unit_bytes}
use Rattle.uefi_base.proofs.UnitsBack.{units_read_back}
use Rattle.uefi_path.specs.LoadOption.{AreNonzeroUnits, HasDescription, with_nul}
use Rattle.uefi_path.specs.Path.{all_but_last}
use Rattle.uefi_path.specs.private.OneLoadOption.{same_unit}
use Rattle.uefi_path.proofs.Passing.{AllByRecursion-push, flat_map-push, front_is}

-- The search has passed some units, none of which is zero, and is at the rest.
pub record HasPassed (bytes rest : List ℕ) : Type 0 where
  pub units : List ℕ
  pub nonzero : AreNonzeroUnits units
  pub split : bytes ≡ unit_bytes units ++ rest

pub passed_none : (bytes : List ℕ) → HasPassed bytes bytes
passed_none bytes = record { units = []; nonzero = tt; split = refl }

-- A part of bytes is bytes.
AreBytes-take : (n : ℕ) (bytes : List ℕ) → AreBytes bytes → (k : ℕ) → get_or (take n bytes) k 0 < 256
AreBytes-take n bytes each k = grind (arith, common_steps, each)

rest_each : (bytes rest : List ℕ) → AreBytes bytes → HasPassed bytes rest → AreBytes rest
rest_each bytes rest each before k =
    let passed : List ℕ = unit_bytes before.units in
    rw (before.split, get_or-append-add passed rest k 0) at (each (length passed + k))

-- A unit that was read has its bytes, and none is read from fewer than two.
read_some : (long least n u : ℕ) (rest after : List ℕ)
    → ◌≡◌ {A = Option (ℕ × List ℕ)} (Some (u, after)) (cond (ltb long least) None (Some (n, rest)))
    → (least ≤ long) × (u ≡ n) × (after ≡ rest)
read_some long least n u rest after e = grind (arith, nat_tests)

pub unit_read : (rest after : List ℕ) (u : ℕ) → AreBytes rest → Some (u, after) ≡ split_number w16 rest
    → (rest ≡ u16_bytes u ++ after) × (u < 2 ^ 16)
unit_read rest after u each e =
    let read = read_some (length rest) 2 (from_le_bytes w16 (take 2 rest)) u (drop 2 rest) after e in
    let long : 2 ≤ length rest = read.0 in
    let number : u ≡ from_le_bytes w16 (take 2 rest) = read.1 in
    let part : u16_bytes u ≡ take 2 rest =
    le_bytes_2 (take 2 rest) u (length-take-le 2 rest long) (AreBytes-take 2 rest each) number in (
      sym ((λ i. part i ++ read.2 i) ∙ take-append-drop 2 rest),
      omega (arith, number, AreBytes-take 2 rest each 0, AreBytes-take 2 rest each 1),
    )

-- The search goes on after a unit that isn't zero.
pub passed_more : (bytes rest after : List ℕ) (u : ℕ) → AreBytes bytes → HasPassed bytes rest
    → Some (u, after) ≡ split_number w16 rest → 0 < u → HasPassed bytes after
passed_more bytes rest after u each before read positive =
    let unit = unit_read rest after u (rest_each bytes rest each before) read in
    record {
      units = before.units ++ u ∷ [];
      nonzero = AllByRecursion-push _ before.units u before.nonzero (positive, unit.1);
      split = before.split ∙ ap (λ s. unit_bytes before.units ++ s) unit.0
          ∙ sym (flat_map-push u16_bytes before.units u after);
    }

pub unit_missing : (rest : List ℕ) → None ≡ split_number w16 rest → length rest < 2
unit_missing rest e = grind (arith, nat_tests)

-- The units of a description, with the NUL, are units.
AreUnits-with_nul : (us : List ℕ) → AreNonzeroUnits us → AreUnits (with_nul us)
AreUnits-with_nul [] all zero = lit< tt
AreUnits-with_nul [] all (suc k) = lit< tt
AreUnits-with_nul (u ∷ us) all zero = all.0.1
AreUnits-with_nul (u ∷ us) all (suc k) = AreUnits-with_nul us all.1 k

all_but_last-with_nul : (us : List ℕ) → all_but_last (with_nul us) ≡ us
all_but_last-with_nul [] = refl
all_but_last-with_nul (u ∷ []) = refl
all_but_last-with_nul (u ∷ v ∷ us) = ap (λ t. u ∷ t) (all_but_last-with_nul (v ∷ us))

-- The bytes are those of a description, which are this part, and what follows it.
pub record EndsPart (bytes part after : List ℕ) : Type 0 where
  pub even : length part % 2 ≡ 0
  pub nul : units_of part ≡ with_nul (all_but_last (units_of part))
  pub nonzero : AreNonzeroUnits (all_but_last (units_of part))
  pub split : bytes ≡ unit_bytes (units_of part) ++ after

-- The search stops at a zero.
pub passed_end : (bytes rest after part : List ℕ) (u : ℕ) → AreBytes bytes → HasPassed bytes rest
    → Some (u, after) ≡ split_number w16 rest → u ≡ 0 → part ≡ take (length bytes - length after) bytes
    → EndsPart bytes part after
passed_end bytes rest after part u each before read is_zero part_is =
    let e = (unit_read rest after u (rest_each bytes rest each before) read).0 in
    let d = before.units in
    let split : bytes ≡ unit_bytes (with_nul d) ++ after = before.split
    ∙ (λ i. unit_bytes d ++ (e ∙ ap (λ n. u16_bytes n ++ after) is_zero) i) ∙ sym (flat_map-push u16_bytes d 0 after) in
    let same : part ≡ unit_bytes (with_nul d) = part_is ∙ front_is bytes (unit_bytes (with_nul d)) after split in
    let units : units_of part ≡ with_nul d =
    ap units_of same ∙ units_read_back.written (with_nul d) (AreUnits-with_nul d before.nonzero) in
    let characters = ap all_but_last units ∙ all_but_last-with_nul d in
    record {
      even = ap (λ l. length l % 2) same ∙ omega (arith, units_read_back.sized (with_nul d));
      nul = units ∙ ap with_nul (sym characters);
      nonzero = subst AreNonzeroUnits (sym characters) before.nonzero;
      split = split ∙ ap (λ us. unit_bytes us ++ after) (sym units);
    }

-- A description in the bytes ends after what the search has passed.
left_after : (us d rest y : List ℕ) → AreNonzeroUnits us → AreNonzeroUnits d
    → unit_bytes us ++ rest ≡ unit_bytes (with_nul d) ++ y → 2 ≤ length rest
left_after [] [] rest y all fits e = omega (arith, ap length e)
left_after [] (v ∷ d) rest y all fits e = omega (arith, ap length e)
left_after (u ∷ us) [] rest y all fits e =
    let first : u ≡ 0 = (same_unit u 0 (unit_bytes us ++ rest) y all.0.1 (omega arith) e).0 in
    absurd (omega (arith, first, all.0.0))
left_after (u ∷ us) (v ∷ d) rest y all fits e =
    left_after us d rest y all.1 fits.1
    (same_unit u v (unit_bytes us ++ rest) (unit_bytes (with_nul d) ++ y) all.0.1 fits.0.1 e).1

-- If fewer bytes than a unit are left, the bytes begin with no description.
pub passed_nowhere : (bytes rest : List ℕ) → HasPassed bytes rest → length rest < 2 → ¬ HasDescription bytes
passed_nowhere bytes rest before few (d, y, (fits, e)) =
    absurd (omega (arith, few, left_after before.units d rest y before.nonzero fits (sym before.split ∙ e)))
