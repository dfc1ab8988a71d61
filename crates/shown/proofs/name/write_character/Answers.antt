use Rattle.std.proofs.Common.{◌≡◌, ◌∙◌, List, ℕ, encode_utf8, subst, take}
use Rattle.std.specs.Fmt.{HasWritten}
use Rattle.std.specs.List.{flat_map}
use Rattle.std.proofs.lemmas.List.{take_all}
use Rattle.shown.specs.Name.{hex_escape, shown_character}
use Rattle.shown.proofs.name.write_character.Goals as goal

pub returns-then-not-is_escaped : goal.returns-then-not-is_escaped
unfolding shown_character
returns-then-not-is_escaped g c = rw (← c.if-not-is_escaped.ensures) c.write_char.ensures.writes

pub returns : goal.returns
unfolding shown_character
returns g c =
    let bytes : take c.loop-byte.byte-index c.as_bytes-byte-items.result.now ≡ encode_utf8 c.args.character =
    take_all c.loop-byte.byte-index c.as_bytes-byte-items.result.now c.loop-byte-test.false
    ∙ c.as_bytes-byte-items.ensures.value ∙ c.encode_utf8.ensures.value in
    λ plain ok. rw (← c.if-not-is_escaped.ensures)
    (subst (λ (written : List ℕ). HasWritten g.W.Write.write_str_gives c.args.f.now (flat_map hex_escape written)
    c.loop-byte.f) bytes (c.loop-byte.invariant plain))
