use Rattle.std.proofs.Common.{◌≡◌, ◌-◌, ℕ, List, [], ◌∷◌, ◌++◌, length, ◌∙◌, ap, arith}
use Rattle.std.specs.Str.{chars}
use Rattle.std.proofs.lemmas.List.{length_push, take_at}
use Rattle.std.proofs.lemmas.Str.{encodes-chars}
use Rattle.std.proofs.Math.Utf8.{encodes}
use Rattle.uefi_base.specs.Ucs2.{characters_of}
use Rattle.uefi_examples.proofs.base.written_and_read.Goals as goal

-- The characters of a text that was made of characters are these.
characters_of-push : (cs : List ℕ) → characters_of (cs ++ 0 ∷ []) ≡ cs
characters_of-push cs = let sized = length_push cs 0 in take_at cs (0 ∷ []) (length (cs ++ 0 ∷ []) - 1) (omega arith)

pub returns-clause-same : goal.returns-clause-same
returns-clause-same c =
    c.in_ok-to_string.ensures ∙ ap (λ (us : List ℕ). encodes (characters_of us))
    (c.as_cstr16.ensures ∙ c.in-Ok.ensures.text)
    ∙ ap encodes (characters_of-push (chars c.args.text.now)) ∙ encodes-chars c.args.text.now c.utf8.text
