use Rattle.std.proofs.Common.{◌≡◌, false, true, ◌∙◌, sym, ap, length}
use Rattle.std.specs.Prelude.{◌==◌}
use Rattle.uefi_node.proofs.NulStrings.{no_string, after_first, after_second, after_third}
use Rattle.uefi_node.proofs.strings.three_strings.Goals as goal

pub returns-in_default-split_string : goal.returns-in_default-split_string
returns-in_default-split_string c = record {
  some = tt;
  none = λ first second third are.
      let rest = after_first _ _ _ first second third c.in-Some.ensures.string c.in-Some.ensures.split are in
      no_string _ second _ c.in_default-split_string.ensures.none rest;
}

pub returns-in_default-split_string-2 : goal.returns-in_default-split_string-2
returns-in_default-split_string-2 c = record {
  some = tt;
  none = λ first second third are.
      let rest = after_first _ _ _ first second third c.in-Some.ensures.string c.in-Some.ensures.split are in
      let last = after_second _ _ _ second third c.in-Some-split_string.ensures.string
      c.in-Some-split_string.ensures.split are.second_string rest in
      no_string _ third _ c.in_default-split_string-2.ensures.none last;
}

pub returns-then-not-is_empty : goal.returns-then-not-is_empty
returns-then-not-is_empty c = record {
  some = tt;
  none = λ first second third are.
      let rest = after_first _ _ _ first second third c.in-Some.ensures.string c.in-Some.ensures.split are in
      let last = after_second _ _ _ second third c.in-Some-split_string.ensures.string
      c.in-Some-split_string.ensures.split are.second_string rest in
      let nothing = after_third _ _ _ third c.in-Some-split_string-2.ensures.string
      c.in-Some-split_string-2.ensures.split are.third_string last in
      let never : true ≡ false = sym (ap (λ b. length b == 0) nothing) ∙ sym c.is_empty.ensures ∙ c.if-not-is_empty.true in
      absurd cc;
}
