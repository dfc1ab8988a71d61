-- The lines of a text, one after another.
use Rattle.std.proofs.Common.{◌≡◌, ◌∙◌, ℕ, ◌+◌, ◌<◌, List, [], ◌∷◌, ◌++◌, length, ap, append_assoc}
use Rattle.std.proofs.Common.{arith, length-append, refl, subst, sym, inl, inr}
use Rattle.std.specs.Prelude.{flat_map, codes}
use Rattle.std.proofs.lemmas.List.{append_cancel_right, flat_map_more}
use Rattle.uefi_audits.specs.verify.Reading.{AreRead, BeginsWith, BeginsWrong, IsRead, IsWithoutReturn, Adds, Stated, StopsAt, nothing_stated}

-- What follows a line is shorter.
pub shorter : (rest line after : List ℕ) → rest ≡ line ++ 10 ∷ after → length after < length rest
shorter rest line after cut =
    let size = ap length cut ∙ length-append line (10 ∷ after) in omega (arith, size)

-- One more line after those that were read.
one_more : (before : Stated) (lines : List (List ℕ)) (last : Stated) (line : List ℕ) (next : Stated)
    → AreRead before lines last → IsRead last line next → AreRead before (lines ++ line ∷ []) next
one_more before [] last line next are is = (next, subst (λ (s : Stated). IsRead s line next) are is, refl)
one_more before (first ∷ lines) last line next are is = (are.0, are.1, one_more are.0 lines last line next are.2 is)

-- After one more line was read.
pub line_read : (text : List ℕ) (last next : Stated) (rest line after : List ℕ) → BeginsWith text last rest
    → rest ≡ line ++ 10 ∷ after → IsRead last line next → BeginsWith text next after
line_read text last next rest line after before cut is =
    let f : List ℕ → List ℕ = λ l. l ++ codes "\n" in
    let lines = before.lines in
    let whole_rest : rest ≡ (line ++ codes "\n") ++ after = cut ∙ sym (append_assoc line (codes "\n") after) in
    record {
      lines = lines ++ line ∷ [];
      are_read = one_more nothing_stated lines last line next before.are_read is;
      parts = before.parts ∙ ap (λ r. flat_map f lines ++ r) whole_rest
          ∙ sym (append_assoc (flat_map f lines) (line ++ codes "\n") after)
          ∙ ap (λ t. t ++ after) (flat_map_more f [] lines line);
    }

-- Bytes have one line without their return.
one_line : (bytes one other : List ℕ) → IsWithoutReturn bytes one → IsWithoutReturn bytes other → one ≡ other
one_line bytes one other is also =
    elim is [
      | inl here ↦ elim also [
        | inl there ↦ append_cancel_right one other (codes "\r") (sym here ∙ there)
        | inr there ↦ absurd (there.1 one here)
      ]
      | inr here ↦ elim also [
        | inl there ↦ absurd (here.1 other there)
        | inr there ↦ sym here.0 ∙ there.0
      ]
    ]

-- Bytes whose line adds nothing can't be read.
pub not_read : (stated : Stated) (bytes line : List ℕ) → IsWithoutReturn bytes line
    → ((after : Stated) → Adds stated line after → ⊥) → (next : Stated) → IsRead stated bytes next → ⊥
not_read stated bytes line is none next read =
    none next (subst (λ (l : List ℕ). Adds stated l next) (one_line bytes read.line line read.without_return is) read.adds)

-- At a wrong line.
pub stopped : (text rest : List ℕ) (stated : Stated) (offset : ℕ) → BeginsWith text stated rest
    → offset + length rest ≡ length text → BeginsWrong stated rest → StopsAt text offset
stopped text rest stated offset before here wrong = record {
  stated = stated;
  rest = rest;
  before = before;
  here = here;
  wrong = wrong;
}
