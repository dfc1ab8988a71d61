use Rattle.std.proofs.Common.{rules, [], ◌∷◌, ◌++◌, sym, ◌∙◌, ap, subst, Err}
use Rattle.std.proofs.lemmas.Result.{err_from_is_err_and}
use Rattle.uefi_map.specs.pci.ResourceList.{BeginWith, end_tag, HaveOneList, ReadsList}
use Rattle.uefi_map.specs.pci.Views.{resources_in, resources_of}
use Rattle.uefi_map.proofs.pci.OneList.{have_one_fault, have_one_list}
use Rattle.uefi_map.proofs.pci.Records.{more_records, are_read}
use Rattle.uefi_map.proofs.pci.resource_list.ResourceListTryFromRefSliceU8.try_from.Goals as goal

pub returns-in_err-after : goal.returns-in_err-after
returns-in_err-after c =
    let passed = c.loop-after.invariant in
    let passed_on = err_from_is_err_and c.from_residual.result c.from_residual.ensures.1 in
    let fault = have_one_fault c.args.bytes.now _
    (passed.0, c.loop-after.rest.now, passed.1, c.in_err-after.ensures.fault) in
    let reads : ReadsList resources_of c.args.bytes.now (Err c.in_err-after.field-0.0) =
    record { list = tt; fault = fault } in
    rw (passed_on.1, passed_on.2) reads

pub loop-after-preserved : goal.loop-after-preserved
loop-after-preserved c =
    let passed = c.loop-after.invariant in
    let next = rw c.in-Some.is at c.in_ok-after.ensures.record in (
      passed.0 ++ _ ∷ [],
      more_records c.args.bytes.now c.loop-after.rest.now c.in-Some.after.now passed.0
          (_ ∷ []) passed.1 next,
    )

pub returns : goal.returns
returns c =
    let passed = c.loop-after.invariant in
    let end : BeginWith c.loop-after.rest.now end_tag = search rules in
    let cut = rw c.in_ok-records.ensures.ok_part at c.split_at_checked.ensures.cases in
    let read = ap resources_in cut.1 ∙ are_read c.args.bytes.now c.loop-after.rest.now passed.0 passed.1 in
    let list = subst (HaveOneList c.args.bytes.now) (sym read)
    (have_one_list c.args.bytes.now passed.0 (c.loop-after.rest.now, passed.1, end)) in
    record { list = list; fault = tt }
