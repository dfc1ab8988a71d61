use Rattle.std.proofs.Common.{◌≡◌, ℕ, List, ◌++◌, append_assoc, codes, flat_map, length, string_bytes}
use Rattle.std.specs.Fmt.{decimal}
use Rattle.std.proofs.lemmas.Result.{on_ok_weaker}
use Rattle.shown.proofs.Appending.{appended_last, appended_next}
use Rattle.uefi_path.specs.Node.{Node, joined}
use Rattle.uefi_path.specs.Views.{instance_nodes, instances_left, path_nodes}
use Rattle.uefi_listing.specs.Path.{instance_lines, path_lines}
use Rattle.uefi_listing.proofs.path.push_path.Goals as goal

pub loop-instance-preserved : goal.loop-instance-preserved
loop-instance-preserved g c =
    let before = c.loop-instance.invariant in record {
      instances = before.instances;
      lines = appended_next instance_lines (instances_left c.loop-instance.instance-iterator)
          (instances_left c.next.new.self) (instance_nodes c.in-Some.instance) _ _ _
          c.in-Some.ensures.steps c.in_ok-push_instance.ensures before.lines;
    }

-- The lines of the instances, and then that of the length.
whole : (nodes : List Node) (parts : List (List Node)) (bytes old now new : List ℕ) → bytes ≡ joined nodes
    → now ≡ old ++ flat_map instance_lines parts
    → new ≡ now ++ (codes "path " ++ (decimal (length bytes) ++ codes "\n")) → new ≡ old ++ path_lines nodes parts
whole nodes parts bytes old now new is lines last = simp append_assoc (simp (lines, is, append_assoc) at last)

pub returns : goal.returns
returns g c =
    let before = c.loop-instance.invariant in
    let parts = instances_left c.into_iter-instance-iterator.result in
    let lines = appended_last instance_lines (instances_left c.loop-instance.instance-iterator)
    (string_bytes c.loop-instance.text) _ c.in-None.ensures.steps.0 before.lines in
    on_ok_weaker c.writeln.result
    (λ last. (
      parts,
      before.instances,
      whole (path_nodes c.args.path.now) parts c.as_bytes.result.now _ _ _ c.as_bytes.ensures.bytes lines last,
    ))
    c.writeln.ensures.bytes
