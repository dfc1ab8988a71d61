use Rattle.std.proofs.Common.{◌≡◌, ◌++◌, ℕ, true, Option, None, Some, take, refl, sym, ◌∙◌, ap, encode_utf8_all}
use Rattle.std.specs.Option.{SomeIff}
use Rattle.std.proofs.Math.Utf8.{encode}
use Rattle.std.proofs.Output.{has_written_append, has_written_of_eq}
use Rattle.uefi_base.proofs.Characters.{encodes_more}
use Rattle.uefi_base.proofs.cstr16.write_characters.Goals as goal

-- What an option holds is the value that it holds if it holds any.
the_value : (P : Type 0) (option : Option ℕ) (value held : ℕ) → SomeIff option P value → option ≡ Some held
    → held ≡ value
the_value P None value held iff is = cc
the_value P (Some found) value held iff is = let same : found ≡ value = iff.1 in cc

pub loop-unit-preserved : goal.loop-unit-preserved
loop-unit-preserved g c plain =
    let before = c.loop-unit.invariant plain in
    let character = the_value _ _ _ _ c.from_u32.ensures.value c.unwrap.ensures ∙ c.from.ensures in
    let bytes = ap (λ one. encode_utf8_all (take c.loop-unit.unit-index c.args.units.now) ++ encode one) character
    ∙ sym (encodes_more c.args.units.now c.loop-unit.unit-index c.loop-unit-test.true) in
    has_written_of_eq _ _ _ _ _ bytes (has_written_append _ _ _ _ _ _ before
    (c.in_ok-write_char.ensures.writes before.plain (refl {a = true})))
