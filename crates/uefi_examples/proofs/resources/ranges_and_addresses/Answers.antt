use Rattle.std.proofs.Common.{ap, ◌∙◌, sum_by}
use Rattle.uefi_examples.proofs.resources.ranges_and_addresses.Goals as goal

-- The list that is counted is the one that is summed.
pub returns-clause-counts : goal.returns-clause-counts
returns-clause-counts c =
    let counted = c.in_ok-ranges.ensures.list in
    let summed = c.in-Some.ensures.sum in
    let same = c.one_list.ensures.list_alone c.args.bytes.now summed.0 counted.0 summed.1 counted.1 in
    (counted.0, counted.1, counted.2, summed.2 ∙ ap (sum_by (λ range. range.address_length)) same)
