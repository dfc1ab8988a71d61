use Rattle.std.proofs.Common.{◌≡◌, ℕ, List, [], ◌∷◌, ◌++◌, true, map, ap, append_assoc, sym, refl, ◌∙◌, encode_utf8_all}
use Rattle.std.specs.Option.{unwrap_or}
use Rattle.std.proofs.Math.Utf8.{encode}
use Rattle.std.proofs.Output.{has_written_append, has_written_of_eq}
use Rattle.std.proofs.lemmas.List.{append-nil}
use Rattle.std.proofs.lemmas.Str.{encodes-append}
use Rattle.uefi_path_text.proofs.text.file_name.write_name.Goals as goal

-- The bytes of characters and of one more.
one_more : (cs : List ℕ) (c d : ℕ) → d ≡ c → encode_utf8_all cs ++ encode d ≡ encode_utf8_all (cs ++ c ∷ [])
one_more cs c d same = rw same (simp (encodes-append, append-nil))

pub loop-character-preserved : goal.loop-character-preserved
loop-character-preserved g c plain =
    let before = c.loop-character.invariant plain in
    let character = unwrap_or c.in-Some.character 0xfffd in
    let written = has_written_append _ _ _ _ _ _ before.1
    (c.in_ok-write_char.ensures.writes before.1.plain (refl {a = true})) in
    let left = ap (map (λ o. unwrap_or o 0xfffd)) c.in-Some.ensures.steps in (
      before.0 ++ character ∷ [],
      has_written_of_eq _ _ _ _ _ (one_more before.0 character _ c.or_replacement.ensures) written,
      append_assoc before.0 (character ∷ []) _ ∙ ap (λ l. before.0 ++ l) (sym left) ∙ before.2,
    )
