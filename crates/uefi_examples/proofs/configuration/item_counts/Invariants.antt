use Rattle.std.proofs.Common.{◌+◌, ◌≤◌, length}
use Rattle.uefi_hii.specs.Views.{uncut_pairs}
use Rattle.uefi_examples.proofs.Configurations.{HasCounted}
use Rattle.uefi_examples.proofs.configuration.item_counts.Given as goal

-- The groups that were read are counted, of which there are at most as many as pairs.
abbrev pub invariant-loop-item : goal.invariant-loop-item
invariant-loop-item l =
    HasCounted l.text (uncut_pairs l.item-iterator) l.configurations l.errors
    × (l.configurations + l.errors + length (uncut_pairs l.item-iterator) ≤ length
    (uncut_pairs l.initial.item-iterator))
