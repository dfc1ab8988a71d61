use Rattle.std.proofs.Common.{append_assoc, string_bytes}
use Rattle.uefi_hii.specs.Views.{uncut_pairs}
use Rattle.uefi_listing.proofs.ConfigLines.{listed_all, listed_more, none_listed}
use Rattle.uefi_listing.proofs.config.push_configurations.Goals as goal

pub loop-item-init : goal.loop-item-init
loop-item-init g c = none_listed (uncut_pairs c.args.items) (string_bytes c.args.text.now)

pub loop-item-preserved-in_ok-push_item : goal.loop-item-preserved-in_ok-push_item
loop-item-preserved-in_ok-push_item g c =
    listed_more c.loop-item.invariant c.in_ok-push_item.ensures.memory c.in-Some.ensures.steps.1
    c.in_ok-push_item.ensures.lines

pub loop-item-preserved : goal.loop-item-preserved
loop-item-preserved g c =
    listed_more c.loop-item.invariant c.in_ok-push_item.ensures.memory c.in-Some.ensures.steps.1
    c.in_ok-push_item.ensures.lines

pub returns : goal.returns
returns g c = listed_all c.loop-item.invariant c.in_default.ensures.steps.0
    (simp append_assoc c.in_ok-writeln.ensures.bytes)

pub loop-item-smaller : goal.loop-item-smaller
loop-item-smaller g c = (c.in-Some.ensures.goes.on tt).2
