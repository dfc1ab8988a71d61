-- Characters in UTF-8 that are written into a buffer one after another.
use Rattle.std.proofs.Common.{◌≡◌, ℕ, zero, suc, ◌+◌, ◌≤◌, List, [], ◌∷◌, ◌++◌, length, take, drop, refl, ap, ◌∙◌}
use Rattle.std.proofs.Common.{arith, length-append}
use Rattle.std.specs.Prelude.{encode_utf8_all}
use Rattle.std.specs.Char.{encode_utf8}
use Rattle.std.proofs.lemmas.List.{length-drop}
use Rattle.uefi_base.specs.Buffer.{put_at, put_prefix}
use Rattle.uefi_base.proofs.Parts.{put_more}

-- The text is at the beginning of a buffer, up to the offset; the other bytes are as they were.
pub record HasText (text old now : List ℕ) (offset : ℕ) : Type 0 where
  pub sized : length text ≡ offset
  pub within : length text ≤ length old
  pub put : now ≡ put_prefix text old

pub no_text : (old : List ℕ) → HasText [] old old 0
no_text old = record { sized = refl; within = omega arith; put = refl }

-- The buffer has as many bytes as before.
pub same_length : (text old now : List ℕ) (offset : ℕ) → HasText text old now offset → length now ≡ length old
same_length text old now offset has =
    omega (arith, has.within, ap length has.put, length-append text (drop (length text) old), length-drop (length text) old)

-- One character more.
pub more_text : (text old now next : List ℕ) (offset c : ℕ) → HasText text old now offset
    → length (text ++ encode_utf8 c) ≤ length old → next ≡ put_at offset (encode_utf8 c) now
    → HasText (text ++ encode_utf8 c) old next (offset + length (encode_utf8 c))
more_text text old now next offset c has room is = record {
  sized = length-append text (encode_utf8 c) ∙ ap (λ (n : ℕ). n + length (encode_utf8 c)) has.sized;
  within = room;
  put = put_more offset text (encode_utf8 c) (encode_utf8 c) old now next has.put has.sized
      (omega (arith, has.sized, has.within)) refl is;
}

-- The text of fewer characters isn't longer.
pub fewer_characters : (cs : List ℕ) (i n : ℕ) → i ≤ n
    → length (encode_utf8_all (take i cs)) ≤ length (encode_utf8_all (take n cs))
fewer_characters cs zero n le = omega arith
fewer_characters [] (suc i) n le = omega arith
fewer_characters (c ∷ cs) (suc i) zero le = absurd (omega (arith, le))
fewer_characters (c ∷ cs) (suc i) (suc n) le = omega (
  arith,
  fewer_characters cs i n (omega (arith, le)),
  length-append (encode_utf8 c) (encode_utf8_all (take i cs)),
  length-append (encode_utf8 c) (encode_utf8_all (take n cs)),
)
