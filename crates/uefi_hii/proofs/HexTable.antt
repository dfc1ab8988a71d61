-- A table with an entry for each character: the value of a hex digit, or 255.
use Rattle.std.proofs.Common.{◌≡◌, ℕ, ◌<◌, ◌≤◌, Bool, true, eqb, List, get_or, arith}
use Rattle.std.proofs.lemmas.Bool.{agree_below, agree_below_at, eqb-true}
use Rattle.std.specs.Prelude.{Some, None, unwrap_or}
use Rattle.uefi_hii.specs.Hex.{hex_digit}
use Rattle.uefi_hii.proofs.HexBounds.{hex_digit_small}

-- Each entry is that of its character: a test, which computes.
unfoldable pub are_entries : List ℕ → ℕ → Bool
are_entries table default =
    agree_below (λ c. eqb (get_or table c default) (unwrap_or (hex_digit c) 255)) (λ _. true) 256

-- What a table that passes the test contains.
entry_at : (table : List ℕ) (default c : ℕ) → are_entries table default ≡ true → c < 256
    → get_or table c default ≡ unwrap_or (hex_digit c) 255
unfolding are_entries
entry_at table default c are small =
    eqb-true _ _ (agree_below_at (λ c. eqb (get_or table c default) (unwrap_or (hex_digit c) 255))
    (λ _. true) 256 c are small)

-- So an entry below 16 in a table that passes the test is the digit's value.
pub digit_at : (table : List ℕ) (default c : ℕ) → are_entries table default ≡ true → c < 256
    → get_or table c default < 16 → Some (get_or table c default) ≡ hex_digit c
digit_at table default c are small is_digit = grind (arith, entry_at table default c are small)

-- And one from 16 on belongs to no digit.
pub none_at : (table : List ℕ) (default c : ℕ) → are_entries table default ≡ true → c < 256
    → 16 ≤ get_or table c default → None ≡ hex_digit c
none_at table default c are small is_none = grind (arith, entry_at table default c are small, hex_digit_small c)
