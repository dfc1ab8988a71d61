use Rattle.std.proofs.Common.{◌∙◌, ap}
use Rattle.uefi_hii.specs.Views.{uncut_pairs}
use Rattle.uefi_examples.proofs.Configurations.{items_all, items_more, no_items}
use Rattle.uefi_examples.proofs.configuration.all_items.Goals as goal

pub loop-item-init : goal.loop-item-init
loop-item-init c some =
    no_items c.args.text.now (uncut_pairs c.into_iter-item-iterator.result) c.new-all.result.items
    (ap uncut_pairs c.into_iter-item-iterator.ensures.into_iter_gives ∙ c.new-item-items.ensures.pairs)
    c.new-all.ensures.items

pub loop-item-preserved : goal.loop-item-preserved
loop-item-preserved c =
    items_more c.args.text.now (uncut_pairs c.loop-item.item-iterator)
    (uncut_pairs c.next.new.self) c.loop-item.all.items c.push.new.self.items c.in-Some.item
    c.loop-item.invariant c.in-Some.ensures.steps.1 c.in_ok-push.ensures.items

pub returns : goal.returns
returns c some =
    items_all c.args.text.now (uncut_pairs c.loop-item.item-iterator) c.loop-item.all.items
    (c.loop-item.invariant some) c.in-None.ensures.steps.0
