use Rattle.std.proofs.Common.{string_bytes}
use Rattle.shown.proofs.Appending.{appended_last, appended_next}
use Rattle.uefi_path.specs.Views.{instance_nodes, instances_left}
use Rattle.boot_listing.specs.Text.{text_line}
use Rattle.boot_listing.proofs.text.push_text_lines.Goals as goal

pub loop-instance-preserved : goal.loop-instance-preserved
loop-instance-preserved g c =
    let before = c.loop-instance.invariant in record {
      instances = before.instances;
      lines = appended_next text_line (instances_left c.loop-instance.instance-iterator)
          (instances_left c.next.new.self) (instance_nodes c.in-Some.instance) _ _ _
          c.in-Some.ensures.steps c.in_ok-push_instance_text.ensures before.lines;
    }

pub returns : goal.returns
returns g c =
    let before = c.loop-instance.invariant in (
      instances_left c.into_iter-instance-iterator.result,
      before.instances,
      appended_last text_line (instances_left c.loop-instance.instance-iterator)
          (string_bytes c.loop-instance.text) _ c.in-None.ensures.steps.0 before.lines,
    )
