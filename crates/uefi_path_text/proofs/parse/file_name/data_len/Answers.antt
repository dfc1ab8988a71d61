use Rattle.std.proofs.Common.{ap, length, arith}
use Rattle.std.specs.Str.Iter.{chars_rest}
use Rattle.std.proofs.lemmas.Str.{IsUtf8-past_char}
use Rattle.uefi_path_text.proofs.FileNames.{units_counted, length_starts, data_has_nul, data_ends}
use Rattle.uefi_path_text.proofs.parse.file_name.data_len.Goals as goal

pub returns-then-size-gt-GREATEST_DATA-clause-none : goal.returns-then-size-gt-GREATEST_DATA-clause-none
returns-then-size-gt-GREATEST_DATA-clause-none c =
    let next = length_starts _ (chars_rest c.next.new.self) c.in-Some.character c.loop-character.invariant.0
    c.in-Some.ensures.steps.0 c.len_utf16.result
    (units_counted c.in-Some.character c.len_utf16.result c.len_utf16.ensures.bmp c.len_utf16.ensures.surrogate_pair) in
    omega (arith, next, c.loop-character.invariant.1, data_has_nul (chars_rest c.next.new.self))

pub loop-character-preserved : goal.loop-character-preserved
loop-character-preserved c =
    let next = length_starts _ (chars_rest c.next.new.self) c.in-Some.character c.loop-character.invariant.0
    c.in-Some.ensures.steps.0 c.len_utf16.result
    (units_counted c.in-Some.character c.len_utf16.result c.len_utf16.ensures.bmp c.len_utf16.ensures.surrogate_pair) in (
      IsUtf8-past_char _ (chars_rest c.next.new.self) c.in-Some.character c.loop-character.invariant.0
          c.in-Some.ensures.steps.0,
      omega (arith, next, c.loop-character.invariant.1),
      omega arith,
    )

pub returns-clause-some : goal.returns-clause-some
returns-clause-some c =
    let ended = ap length (data_ends (chars_rest c.loop-character.character-iterator) c.in-None.ensures.steps.0.0) in
    omega (arith, c.loop-character.invariant.1, ended)
