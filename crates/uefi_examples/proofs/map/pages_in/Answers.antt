use Rattle.std.proofs.Common.{refl}
use Rattle.uefi_examples.proofs.Results.{not_ok, ok_is}
use Rattle.uefi_examples.proofs.map.pages_in.Goals as goal

pub returns-clause-sum : goal.returns-clause-sum
returns-clause-sum c =
    let is = ok_is c.new.result c.in_ok-map.map c.in_ok-map.ensures.value in
    let buffer = rw is at c.new.ensures.buffer in
    let meta = rw is at c.new.ensures.meta in
    simp (buffer, meta) at c.page_sum.ensures.sum

pub returns-clause-map : goal.returns-clause-map
returns-clause-map c = λ some.
    let is = ok_is c.new.result c.in_ok-map.map c.in_ok-map.ensures.value in
    let accepted = rw is at c.new.ensures.accepted in
    accepted.0 refl

pub returns-clause-too_many : goal.returns-clause-too_many
returns-clause-too_many c = λ none is_map.
    let is = ok_is c.new.result c.in_ok-map.map c.in_ok-map.ensures.value in
    let buffer = rw is at c.new.ensures.buffer in
    let meta = rw is at c.new.ensures.meta in
    simp (buffer, meta) at c.page_sum.ensures.too_many none

pub returns-in_err-map-clause-too_many : goal.returns-in_err-map-clause-too_many
returns-in_err-map-clause-too_many c = λ none is_map.
    absurd (not_ok c.new.result c.in_err-map.ensures.value (c.new.ensures.accepted.1 is_map))
