use Rattle.uefi_hii.specs.Views.{uncut_pairs}
use Rattle.uefi_examples.proofs.Configurations.{HasItems, HaveNoMemory}
use Rattle.uefi_examples.proofs.configuration.all_items.Given as goal

-- As long as memory doesn't run out, the items are results.
abbrev pub invariant-loop-item : goal.invariant-loop-item
invariant-loop-item l = HaveNoMemory l.all.items → HasItems l.text (uncut_pairs l.item-iterator) l.all.items
