use Rattle.std.proofs.Common.{arith, ap, length, ◌∙◌, sym}
use Rattle.std.specs.Str.Iter.{chars_rest}
use Rattle.std.proofs.lemmas.Str.{IsUtf8-past_char}
use Rattle.uefi_base.specs.Buffer.{put_at}
use Rattle.uefi_path_text.proofs.FileNames.{length_starts, rest_put, data_ends}
use Rattle.uefi_path_text.proofs.parse.file_name.put_data.Goals as goal

pub put_units-requires : goal.put_units-requires
put_units-requires c =
    let next = length_starts _ (chars_rest c.next.new.self) c.in-Some.character c.loop-character.invariant.0
    c.in-Some.ensures.steps.0 _ (ap length (sym c.encode_utf16-units.ensures.value)) in
    omega (arith, next, c.loop-character.invariant.2)

pub loop-character-preserved : goal.loop-character-preserved
loop-character-preserved c =
    let left = rest_put _ (chars_rest c.next.new.self) c.in-Some.character c.loop-character.invariant.0
    c.in-Some.ensures.steps.0 c.loop-character.end c.encode_utf16-units.result.now _ c.loop-character.buffer
    c.put_units.new.buffer c.encode_utf16-units.ensures.value c.loop-character.invariant.1 c.loop-character.invariant.2
    c.put_units.ensures in (
      IsUtf8-past_char _ (chars_rest c.next.new.self) c.in-Some.character c.loop-character.invariant.0
          c.in-Some.ensures.steps.0,
      left.0,
      left.1,
    )

pub returns : goal.returns
returns c =
    c.put.ensures
    ∙ ap (λ part. put_at c.loop-character.end part c.loop-character.buffer)
    (sym (data_ends (chars_rest c.loop-character.character-iterator) c.in-None.ensures.steps.0.0))
    ∙ c.loop-character.invariant.1
