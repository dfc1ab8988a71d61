-- The line of the algorithms whose banks can't be replayed.
use Rattle.std.proofs.Common.{◌≡◌, ℕ, List, [], ◌∷◌, ◌++◌, length, append_assoc, append-nil, arith, sym}
use Rattle.std.specs.Prelude.{codes, flat_map}
use Rattle.audit_text.specs.text.Remarks.{unsupported_line}
use Rattle.audit_text.specs.words.Numbers.{hex_text}
use Rattle.shown.specs.Name.{shown_name}

-- Without any nothing is appended.
pub none_unsupported : (name algorithms old : List ℕ) → length algorithms ≡ 0 → old ≡ old ++ unsupported_line name algorithms
unfolding unsupported_line
none_unsupported name [] old none = sym (append-nil old)
none_unsupported name (first ∷ others) old none = absurd (omega (arith, none))

-- The line of some, part by part.
pub some_unsupported : (name algorithms : List ℕ) (first : ℕ) (others old one two three new : List ℕ)
    → algorithms ≡ first ∷ others → one ≡ old ++ (shown_name name ++ codes ": not supported: the bank of algorithm ")
    → two ≡ one ++ hex_text first → three ≡ two ++ flat_map (λ other. codes ", " ++ hex_text other) others
    → new ≡ three ++ codes "\n" → new ≡ old ++ unsupported_line name algorithms
unfolding unsupported_line
some_unsupported name algorithms first others old one two three new is a b c d =
    rw (d, c, b, a, is) (search append_assoc)
