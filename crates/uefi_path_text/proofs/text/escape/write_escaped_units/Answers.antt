use Rattle.std.proofs.Common.{◌≡◌, ℕ, List, [], ◌∷◌, ◌++◌, true, ap, append_assoc, sym, refl, ◌∙◌, flat_map}
use Rattle.std.proofs.Output.{has_written_append, has_written_of_eq}
use Rattle.std.proofs.lemmas.Grind.{flat_map-append}
use Rattle.std.proofs.lemmas.List.{append-nil}
use Rattle.uefi_path_text.specs.write.Partial.{escaped_character, escaped_characters}
use Rattle.uefi_path_text.proofs.text.escape.write_escaped_units.Goals as goal

-- The texts of characters and of one more.
one_more : (cs : List ℕ) (c : ℕ)
    → flat_map escaped_character cs ++ escaped_character c ≡ flat_map escaped_character (cs ++ c ∷ [])
one_more cs c = simp (flat_map-append, append-nil)

pub loop-character-preserved : goal.loop-character-preserved
loop-character-preserved g c plain =
    let before = c.loop-character.invariant plain in
    let written = has_written_append _ _ _ _ _ _ before.1
    (c.in_ok-write.ensures.writes before.1.plain (refl {a = true})) in (
      before.0 ++ c.in-Some.character ∷ [],
      has_written_of_eq _ _ _ _ _ (one_more before.0 c.in-Some.character) written,
      append_assoc before.0 (c.in-Some.character ∷ []) _ ∙ ap (λ l. before.0 ++ l) (sym c.in-Some.ensures.steps) ∙ before.2,
    )

as_escaped : (cs : List ℕ) → flat_map escaped_character cs ≡ escaped_characters cs
unfolding escaped_characters
as_escaped cs = refl

pub returns : goal.returns
returns g c plain ok =
    let before = c.loop-character.invariant plain in
    let all = sym (append-nil before.0) ∙ ap (λ l. before.0 ++ l) (sym c.in-None.ensures.steps.0) ∙ before.2 in
    has_written_of_eq _ _ _ _ _ (ap (flat_map escaped_character) all ∙ as_escaped _) before.1
