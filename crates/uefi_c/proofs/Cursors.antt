-- Cursors that moved.
use Rattle.std.proofs.Common.{◌≡◌, ℕ, ◌-◌, ◌<◌, ◌≤◌, ◌⊎◌, inl, inr, List, [], length, drop, refl, sym, ap, ◌∙◌}
use Rattle.std.proofs.Common.{arith}
use Rattle.std.proofs.lemmas.Bool.{cases_lt}
use Rattle.std.proofs.lemmas.List.{length-append, length-drop, drop-drop, drop_at, nil_from_length}
use Rattle.uefi_c.specs.Cursor.{Stands}

-- What is left from some offset on is left from the bytes' length less its own on.
pub rest_at_end : (bytes rest : List ℕ) (n : ℕ) → rest ≡ drop n bytes → drop (length bytes - length rest) bytes ≡ rest
rest_at_end bytes rest n is = by_order (cases_lt n (length bytes))
  where
    by_order : (n < length bytes) ⊎ (length bytes ≤ n) → drop (length bytes - length rest) bytes ≡ rest
    by_order (inl lt) =
        ap (λ (m : ℕ). drop m bytes) (omega (arith, lt, ap length is, length-drop n bytes)) ∙ sym is
    by_order (inr le) =
        let none : rest ≡ [] =
        is ∙ nil_from_length (drop n bytes) (omega (arith, le, length-drop n bytes)) in
        ap (λ (m : ℕ). drop m bytes) (omega (arith, ap length none))
        ∙ nil_from_length (drop (length bytes) bytes) (omega (arith, length-drop (length bytes) bytes)) ∙ sym none

module _ (encoding bytes : List ℕ) (start end : ℕ) (stands : Stands encoding bytes start end) where
  -- What follows an encoding that is there follows its end.
  pub after : drop end bytes ≡ stands.begins.0
  after =
      ap (λ (n : ℕ). drop n bytes) stands.ends ∙ sym (drop-drop (length encoding) start bytes)
      ∙ ap (drop (length encoding)) stands.begins.1 ∙ drop_at encoding stands.begins.0 (length encoding) refl

  -- An encoding that has bytes moves the cursor, and ends within the bytes.
  pub moves : 0 < length encoding → start < end
  moves some = omega (arith, stands.ends, some)

  pub within : 0 < length encoding → end ≤ length bytes
  within some = omega (
    arith,
    stands.ends,
    some,
    length-drop start bytes,
    ap length stands.begins.1,
    length-append
        encoding stands.begins.0,
  )
