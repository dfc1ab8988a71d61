use Rattle.std.proofs.Common.{refl, string_bytes, subst, sym}
use Rattle.uefi_path.specs.Views.{instance_nodes, instances_left, path_nodes}
use Rattle.uefi_path.specs.Path.{AreInstances}
use Rattle.boot_listing.proofs.Elements.{comma, element_last, element_next, no_gap}
use Rattle.boot_listing.specs.Text.{text_string}
use Rattle.boot_listing.proofs.text.push_text_strings.Goals as goal

pub loop-instance-init : goal.loop-instance-init
loop-instance-init g c = record {
  gap = no_gap;
  instances = subst (λ it. AreInstances (instances_left it) (path_nodes c.args.path.now))
      (sym c.into_iter-instance-iterator.ensures.into_iter_gives) c.instance_iter-instance-items.ensures.instances;
  strings = refl;
}

pub loop-instance-preserved : goal.loop-instance-preserved
loop-instance-preserved g c =
    let before = c.loop-instance.invariant in record {
      gap = comma;
      instances = before.instances;
      strings = element_next text_string c.loop-instance.gap.now (instances_left c.loop-instance.instance-iterator)
          (instances_left c.next.new.self) (instance_nodes c.in-Some.instance) _ _ _
          c.in-Some.ensures.steps c.in_ok-push_text_string.ensures before.strings;
    }

pub returns : goal.returns
returns g c =
    let before = c.loop-instance.invariant in (
      instances_left c.into_iter-instance-iterator.result,
      before.instances,
      element_last text_string c.loop-instance.gap.now (instances_left c.loop-instance.instance-iterator)
          (string_bytes c.loop-instance.text) _ c.in-None.ensures.steps.0 before.strings,
    )
