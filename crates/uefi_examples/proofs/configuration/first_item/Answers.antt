use Rattle.uefi_hii.specs.Pairs.{pairs}
use Rattle.uefi_examples.proofs.Configurations.{one_item}
use Rattle.uefi_examples.proofs.configuration.first_item.Goals as goal

pub returns : goal.returns
returns c = one_item
    (pairs c.args.text.now) c.new.result c.next.new.self c.next.result c.one_group.ensures c.new.ensures.pairs
    c.next.ensures.steps
