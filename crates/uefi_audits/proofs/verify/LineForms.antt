-- What lines of PCRs are like.
use Rattle.std.proofs.Common.{◌≡◌, ◌∙◌, ℕ, List, [], ◌∷◌, ◌++◌, ap, append_assoc, append-nil, refl, sym, inl, inr}
use Rattle.std.specs.Prelude.{◌⊎◌, Option, Some, None, codes, drop}
use Rattle.std.specs.Option.{option_map}
use Rattle.std.proofs.lemmas.Bool.{ne_eqb}
use Rattle.std.proofs.lemmas.List.{append_cancel_right}
use Rattle.uefi_audits.specs.verify.Reading.{IsNamedBy, unspaced}

-- A line has one name.
pub same_name : (line one other : List ℕ) → IsNamedBy line one → IsNamedBy line other → one ≡ other
same_name line one other is also =
    append_cancel_right one other (codes ":") (ap (drop 2) (sym is ∙ also))

after_two : (digits : List ℕ) (high low : ℕ) (found : Option (List ℕ))
    → option_map (λ more. digits ++ more) (option_map (λ more. high ∷ low ∷ more) found)
    ≡ option_map (λ more. ((digits ++ high ∷ []) ++ low ∷ []) ++ more) found
after_two digits high low None = refl
after_two digits high low (Some more) =
    ap Some (sym (append_assoc (digits ++ high ∷ []) (low ∷ []) more ∙ append_assoc digits (high ∷ []) (low ∷ more)))

-- The digits of one more byte.
pub byte_read : (text rest after digits one two : List ℕ) (high low : ℕ)
    → option_map (λ more. digits ++ more) (unspaced rest) ≡ unspaced text → rest ≡ 32 ∷ high ∷ low ∷ after
    → one ≡ digits ++ high ∷ [] → two ≡ one ++ low ∷ []
    → option_map (λ more. two ++ more) (unspaced after) ≡ unspaced text
unfolding unspaced
byte_read text rest after digits one two high low before cut first second =
    rw (second, first) (sym (after_two digits high low (unspaced after)) ∙ ap (λ r. option_map (λ more. digits ++ more) (unspaced r)) (sym cut) ∙ before)

-- A rest that begins with no byte has no digits, unless it is empty or a space.
ended : (rest : List ℕ) → (rest ≡ []) ⊎ (rest ≡ 32 ∷ []) → unspaced rest ≡ Some []
unfolding unspaced
ended rest (inl is) = rw is refl
ended rest (inr is) = rw is refl

no_byte : (rest : List ℕ) → ((high low : ℕ) (after : List ℕ) → rest ≡ 32 ∷ high ∷ low ∷ after → ⊥)
    → ((rest ≡ []) ⊎ (rest ≡ 32 ∷ []) → ⊥) → unspaced rest ≡ None
unfolding unspaced
no_byte [] other more = absurd (more (inl refl))
no_byte (byte ∷ []) other more = rw (ne_eqb byte 32 (λ is. more (inr (ap (λ b. b ∷ []) is)))) refl
no_byte (byte ∷ high ∷ []) other more = refl
no_byte (byte ∷ high ∷ low ∷ after) other more =
    rw (ne_eqb byte 32 (λ is. other high low after (ap (λ b. b ∷ high ∷ low ∷ after) is))) refl

-- The digits of a text, once no more byte follows.
pub all_read : (text rest digits : List ℕ) → option_map (λ more. digits ++ more) (unspaced rest) ≡ unspaced text
    → (rest ≡ []) ⊎ (rest ≡ 32 ∷ []) → Some digits ≡ unspaced text
all_read text rest digits before end =
    ap Some (sym (append-nil digits)) ∙ ap (option_map (λ more. digits ++ more)) (sym (ended rest end)) ∙ before

pub none_read : (text rest digits : List ℕ) → option_map (λ more. digits ++ more) (unspaced rest) ≡ unspaced text
    → ((high low : ℕ) (after : List ℕ) → rest ≡ 32 ∷ high ∷ low ∷ after → ⊥)
    → ((rest ≡ []) ⊎ (rest ≡ 32 ∷ []) → ⊥) → None ≡ unspaced text
none_read text rest digits before other more =
    ap (option_map (λ more. digits ++ more)) (sym (no_byte rest other more)) ∙ before
