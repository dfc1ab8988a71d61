-- Bytes in hex, 32 a line.
use Rattle.std.proofs.Common.{◌≡◌, ◌∙◌, ℕ, suc, ◌-◌, ◌/◌, ◌<◌, ◌≤◌, List, ◌++◌, length, take, drop, ap, sym, arith, append_assoc, length-drop}
use Rattle.audit_text.specs.text.EventParts.{hex_line, hex_lines, hex_lines_after}

-- Of more than 32 bytes, the line of the first ones, and those of the others.
one_more : (bytes : List ℕ) → 32 < length bytes → hex_lines bytes ≡ hex_line (take 32 bytes) ++ hex_lines (drop 32 bytes)
unfolding hex_lines_after
one_more bytes many =
    let size = length-drop 32 bytes in
    let count : (length bytes - 1) / 32 ≡ suc ((length (drop 32 bytes) - 1) / 32) = omega (arith, many, size) in
    ap (λ n. hex_lines_after n bytes) count

-- Of at most 32, one line.
one_alone : (bytes : List ℕ) → length bytes ≤ 32 → hex_lines bytes ≡ hex_line bytes
unfolding hex_lines_after
one_alone bytes few =
    let count : (length bytes - 1) / 32 ≡ 0 = omega (arith, few) in
    ap (λ n. hex_lines_after n bytes) count

-- After a line; and after the last one.
pub one_line : (bytes line after all now next : List ℕ) → 32 < length bytes → line ≡ take 32 bytes → after ≡ drop 32 bytes
    → next ≡ now ++ hex_line line → now ++ hex_lines bytes ≡ all → next ++ hex_lines after ≡ all
one_line bytes line after all now next many front back more before =
    ap (λ t. t ++ hex_lines after) (more ∙ ap (λ it. now ++ hex_line it) front)
    ∙ ap (λ it. (now ++ hex_line (take 32 bytes)) ++ hex_lines it) back
    ∙ append_assoc now (hex_line (take 32 bytes)) (hex_lines (drop 32 bytes))
    ∙ ap (λ t. now ++ t) (sym (one_more bytes many)) ∙ before

pub last_line : (bytes all now next : List ℕ) → length bytes ≤ 32 → next ≡ now ++ hex_line bytes → now ++ hex_lines bytes ≡ all
    → next ≡ all
last_line bytes all now next few more before = more ∙ ap (λ t. now ++ t) (sym (one_alone bytes few)) ∙ before
