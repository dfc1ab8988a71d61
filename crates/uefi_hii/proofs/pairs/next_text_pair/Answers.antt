use Rattle.std.proofs.Common.{◌≡◌, ◌∷◌, List, ℕ, sym, ◌∙◌, ap, subst}
use Rattle.std.specs.Prelude.{Option, Some, option_map}
use Rattle.std.specs.Borrow.{Bor}
use Rattle.uefi_hii.specs.Pairs.{pairs}
use Rattle.uefi_hii.specs.Views.{pair_view}
use Rattle.uefi_hii.proofs.Pieces.{same_step}
use Rattle.uefi_hii.proofs.TextPairs.{key_end, key_is, value_start, value_end, value_is, rest_start, rest_is}
use Rattle.uefi_hii.proofs.pairs.next_text_pair.Goals.{in-Some, in-None}
use Rattle.uefi_hii.proofs.pairs.next_text_pair.Goals as goal

abbrev seen : Option (Bor (List ℕ)) → Option (List ℕ)
seen value = option_map (λ part. part.now) value

pub range-requires-clause-start_boundary : goal.range-requires-clause-start_boundary
range-requires-clause-start_boundary c = λ _.
    value_start c.as_bytes.result.now c.args.text.now c.in_ok-key.key.now (seen c.in_ok-key.value)
    c.as_bytes.ensures.value c.in_ok-key.ensures.pair c.in-Some.value.now (ap seen c.in-Some.is) c.utf8.text

pub range-requires-clause-end_boundary : goal.range-requires-clause-end_boundary
range-requires-clause-end_boundary c =
    value_end c.as_bytes.result.now c.args.text.now c.in_ok-key.key.now (seen c.in_ok-key.value)
    c.as_bytes.ensures.value c.in_ok-key.ensures.pair c.in-Some.value.now (ap seen c.in-Some.is)

pub range-requires-2-clause-end_boundary : goal.range-requires-2-clause-end_boundary
range-requires-2-clause-end_boundary c =
    key_end c.as_bytes.result.now c.args.text.now c.in_ok-key.key.now (seen c.in_ok-key.value)
    c.as_bytes.ensures.value c.in_ok-key.ensures.pair

pub range_from-requires : goal.range_from-requires
range_from-requires c = λ _.
    rest_start c.as_bytes.result.now c.args.text.now c.in_ok-key.rest.now c.as_bytes.ensures.value
    c.in_ok-key.ensures.rest c.utf8.text

pub returns : goal.returns
returns c =
    let bytes = c.as_bytes.result.now in
    let text = c.args.text.now in
    let same = c.as_bytes.ensures.value in
    let key = c.in_ok-key.key in
    let value = c.in_ok-key.value in
    let rest = c.in_ok-key.rest.now in
    let pair = c.in_ok-key.ensures.pair in
    let same_value : seen c.match-value.value ≡ seen value = elim c.match-value.branch [
      | in-Some w ↦ ap seen w.value-is
          ∙ ap Some (w.range.ensures.value
          ∙ value_is bytes text key.now (seen value) same pair w.in-Some.value.now (ap seen w.in-Some.is))
          ∙ sym (ap seen w.in-Some.is)
      | in-None w ↦ ap seen w.value-is ∙ sym (ap seen w.in-None.is)
    ] in
    same_step (pairs text) c.range-2.result.now key.now c.range_from.result.now rest (seen c.match-value.value)
    (seen value) (c.range-2.ensures.value ∙ key_is bytes text key.now (seen value) same pair) same_value
    (c.range_from.ensures.value ∙ rest_is bytes text rest same c.in_ok-key.ensures.rest)
    (subst (λ s. pairs s ≡ pair_view (key, value) ∷ pairs rest) same c.in_ok-key.ensures.pairs)
