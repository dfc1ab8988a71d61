use Rattle.std.proofs.Common.{◌∙◌, sym, arith}
use Rattle.std.specs.Str.Iter.{char_indices_rest}
use Rattle.std.proofs.lemmas.Str.{IsUtf8-past_char}
use Rattle.uefi_path_text.proofs.FileNames.{named_next, other_next, rest_length, none_left}
use Rattle.uefi_path_text.proofs.parse.file_name.check_name.Goals as goal

pub returns-then-not-is_name_character-clause-ok : goal.returns-then-not-is_name_character-clause-ok
returns-then-not-is_name_character-clause-ok c =
    let other = other_next _ (char_indices_rest c.next.new.self) c.in-Some.character c.loop-offset.invariant.0
    c.in-Some.ensures.steps.1 (sym c.if-not-is_name_character.ensures) in
    sym other.0 ∙ c.loop-offset.invariant.1

pub returns-then-not-is_name_character-clause-first : goal.returns-then-not-is_name_character-clause-first
returns-then-not-is_name_character-clause-first c =
    let other = other_next _ (char_indices_rest c.next.new.self) c.in-Some.character c.loop-offset.invariant.0
    c.in-Some.ensures.steps.1 (sym c.if-not-is_name_character.ensures) in
    omega (arith, other.1, c.in-Some.ensures.steps.0, c.loop-offset.invariant.2)

pub loop-offset-preserved : goal.loop-offset-preserved
loop-offset-preserved c =
    let named = named_next _ (char_indices_rest c.next.new.self) c.in-Some.character c.loop-offset.invariant.0
    c.in-Some.ensures.steps.1 (sym c.if-not-is_name_character.ensures) in
    let after = rest_length _ (char_indices_rest c.next.new.self) c.in-Some.character c.loop-offset.invariant.0
    c.in-Some.ensures.steps.1 in (
      IsUtf8-past_char _ (char_indices_rest c.next.new.self) c.in-Some.character c.loop-offset.invariant.0
          c.in-Some.ensures.steps.1,
      sym named.0 ∙ c.loop-offset.invariant.1,
      omega (arith, named.1, c.in-Some.ensures.steps.2, c.loop-offset.invariant.2),
      omega (arith, after, c.in-Some.ensures.steps.2, c.loop-offset.invariant.3),
    )

pub returns-clause-ok : goal.returns-clause-ok
returns-clause-ok c =
    sym (none_left (char_indices_rest c.loop-offset.offset-iterator) c.in-None.ensures.steps.0) ∙ c.loop-offset.invariant.1
