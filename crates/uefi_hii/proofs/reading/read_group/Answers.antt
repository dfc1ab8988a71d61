use Rattle.std.proofs.Common.{◌≡◌, false, true, not, sym, ◌∙◌, ap}
use Rattle.uefi_hii.specs.Views.{configuration_of, peeked_pairs}
use Rattle.uefi_hii.proofs.Elements.{after_element, after_header, element_fails, ends, goes_on}
use Rattle.uefi_hii.proofs.Headers.{residual}
use Rattle.uefi_hii.proofs.reading.read_group.Goals as goal

pub loop-configuration-init : goal.loop-configuration-init
loop-configuration-init g c =
    after_header (peeked_pairs c.args.pairs.now)
    (peeked_pairs c.read_header.new.pairs) c.in_ok-configuration.configuration c.in_ok-configuration.ensures
    c.if-is_empty.ensures

pub returns-in_err-element : goal.returns-in_err-element
returns-in_err-element g c =
    rw (residual c.from_residual-in_err-element.result _ c.from_residual-in_err-element.ensures.1)
    (element_fails g.row.A.Denot (peeked_pairs c.args.pairs.now) (peeked_pairs c.loop-configuration.pairs)
    (peeked_pairs c.read_element.new.pairs)
    (configuration_of c.loop-configuration.configuration) c.in_err-element.field-0.0 c.requires
    c.loop-configuration.invariant c.in_err-element.ensures)

pub returns-then-not-is_at : goal.returns-then-not-is_at
returns-then-not-is_at g c =
    let configuration = c.loop-configuration.configuration in
    let push = rw (c.is_err.ensures.negation ∙ ap not c.if-is_err.false) at c.push.ensures.items in
    ends (peeked_pairs c.args.pairs.now) (peeked_pairs c.read_element.new.pairs)
    (record configuration { elements = c.push.new.self })
    (after_element (peeked_pairs c.args.pairs.now) (peeked_pairs c.loop-configuration.pairs)
    (peeked_pairs c.read_element.new.pairs) configuration c.push.new.self c.in_ok-element.element
    c.loop-configuration.invariant c.in_ok-element.ensures push)
    (λ key. let h = c.is_at.ensures.1 key in let k = c.if-not-is_at.true in let x : true ≡ false = sym h ∙ k in cc)

pub loop-configuration-preserved : goal.loop-configuration-preserved
loop-configuration-preserved g c =
    let configuration = c.loop-configuration.configuration in
    let push = rw (c.is_err.ensures.negation ∙ ap not c.if-is_err.false) at c.push.ensures.items in
    goes_on (peeked_pairs c.args.pairs.now) (peeked_pairs c.read_element.new.pairs)
    (configuration_of (record configuration { elements = c.push.new.self }))
    (after_element (peeked_pairs c.args.pairs.now) (peeked_pairs c.loop-configuration.pairs)
    (peeked_pairs c.read_element.new.pairs) configuration c.push.new.self c.in_ok-element.element
    c.loop-configuration.invariant c.in_ok-element.ensures push)
    (c.is_at.ensures.0 c.if-not-is_at.false)
