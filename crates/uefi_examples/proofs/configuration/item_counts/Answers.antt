use Rattle.std.proofs.Common.{true, false, sym, ◌∙◌, arith}
use Rattle.uefi_hii.specs.Views.{uncut_pairs}
use Rattle.uefi_examples.proofs.Configurations.{counted_more, read_all}
use Rattle.uefi_examples.proofs.configuration.item_counts.Goals as goal

pub loop-item-preserved-then-branch : goal.loop-item-preserved-then-branch
loop-item-preserved-then-branch c =
    counted_more c.args.text.now (uncut_pairs c.loop-item.item-iterator)
    (uncut_pairs c.next.new.self) c.loop-item.configurations c.loop-item.errors _ _ _ c.in-Some.item true
    c.loop-item.invariant.0 c.in_ok-is_configuration.ensures.memory c.in-Some.ensures.steps.1
    (sym c.if-branch.true ∙ c.in_ok-is_configuration.ensures.kind) (omega arith)
    (omega arith) c.loop-item.invariant.1

pub loop-item-preserved : goal.loop-item-preserved
loop-item-preserved c =
    counted_more c.args.text.now (uncut_pairs c.loop-item.item-iterator)
    (uncut_pairs c.next.new.self) c.loop-item.configurations c.loop-item.errors _ _ _ c.in-Some.item false
    c.loop-item.invariant.0 c.in_ok-is_configuration.ensures.memory c.in-Some.ensures.steps.1
    (sym c.if-branch.false ∙ c.in_ok-is_configuration.ensures.kind) (omega arith)
    (omega arith) c.loop-item.invariant.1

pub returns : goal.returns
returns c =
    let so_far = c.loop-item.invariant.0 in (
      so_far.read,
      read_all c.args.text.now
          (uncut_pairs c.loop-item.item-iterator) so_far.read so_far.so_far c.in-None.ensures.steps.0,
      so_far.counts,
    )
