use Rattle.std.proofs.Common.{arith, ap, ◌∙◌, List, ℕ, sum_by}
use Rattle.std.proofs.lemmas.List.Sums.{sum_by-cons}
use Rattle.uefi_map.specs.declared.pci.resource.QwordAddressSpaceDescriptor.{QwordAddressSpaceDescriptor}
use Rattle.uefi_map.specs.pci.Views.{resources_left, resources_of}
use Rattle.uefi_map.specs.pci.ResourceList.{HaveOneFault}
use Rattle.uefi_examples.proofs.Results.{error_of, ok_is}
use Rattle.uefi_examples.proofs.resources.addresses_in.Goals as goal

-- A list that the bytes begin with is the one that is summed, whose sum doesn't fit.
pub returns-in_err-addresses-clause-fits : goal.returns-in_err-addresses-clause-fits
returns-in_err-addresses-clause-fits c = λ list has fits.
    let sum : List QwordAddressSpaceDescriptor → ℕ = sum_by (λ range. range.address_length) in
    let one = rw (ok_is c.try_from.result c.in_ok-list.list c.in_ok-list.ensures.value) at c.try_from.ensures.list in
    let same = ap sum (one.no_other list has) in
    let all = ap (λ iter. sum (resources_left iter)) c.into_iter-range-iterator.ensures.into_iter_gives
    ∙ ap sum c.iter-range-items.ensures.resources in
    let next = ap sum c.in-Some.ensures.steps ∙ sum_by-cons _ c.in-Some.range (resources_left c.next.new.self) in
    absurd (c.in_err-addresses.ensures (omega (arith, fits, same, all, next)))

pub loop-range-preserved : goal.loop-range-preserved
loop-range-preserved c =
    let sum = simp (c.in-Some.ensures.steps, sum_by-cons) at c.loop-range.invariant in
    omega (arith, c.in_ok-addresses.ensures)

pub returns-clause-sum : goal.returns-clause-sum
returns-clause-sum c =
    let sum = simp (
      c.in-None.ensures.steps.0,
      c.into_iter-range-iterator.ensures.into_iter_gives,
      c.iter-range-items.ensures.resources,
    ) at c.loop-range.invariant in
    let one = rw (ok_is c.try_from.result c.in_ok-list.list c.in_ok-list.ensures.value) at c.try_from.ensures.list in
    (resources_of c.in_ok-list.list, one.stands, omega (arith, sum))

pub returns-in_err-list-clause-fits : goal.returns-in_err-list-clause-fits
returns-in_err-list-clause-fits c = λ list has fits.
    let fault = error_of (HaveOneFault c.args.bytes.now) c.try_from.result c.in_err-list.ensures.value c.try_from.ensures.fault in
    absurd (fault.1.no_list (list, has))

pub loop-range-init : goal.loop-range-init
loop-range-init c = omega arith
