use Rattle.std.proofs.Common.{List, ℕ, ◌<◌, map, ap, ◌∙◌, length, arith}
use Rattle.std.specs.Borrow.{Bor}
use Rattle.std.proofs.lemmas.List.{map-append}
use Rattle.uefi_c.proofs.Cursors.{moves, within}
use Rattle.uefi_c.proofs.PathSteps.{instance_bytes, one_instance_less, no_instance_left}
use Rattle.uefi_c.proofs.callers.instances.instances_by_steps.Goals as goal

abbrev bytes_of : Bor (List ℕ) → List ℕ
bytes_of part = part.now

pub loop-instance-smaller : goal.loop-instance-smaller
loop-instance-smaller g c =
    let new = c.uefi_path_next_instance.new in
    let next = c.uefi_path_next_instance.ensures.instance c.loop-instance-test.true in
    let some : 0 < length new.instance.now = omega
    (arith, instance_bytes next.nodes next.is_instance, ap length next.encoded) in
    omega (
      arith,
      moves new.instance.now c.args.path.now c.loop-instance.offset new.offset next.stands some,
      within new.instance.now c.args.path.now c.loop-instance.offset new.offset next.stands some,
    )

pub loop-instance-preserved : goal.loop-instance-preserved
loop-instance-preserved g c = λ nodes instances encoded are.
    let new = c.uefi_path_next_instance.new in
    let next = c.uefi_path_next_instance.ensures.instance c.loop-instance-test.true in
    one_instance_less c.args.path.now c.loop-instance.offset new.offset new.instance.now next instances
    (map bytes_of c.loop-instance.parts.items) (map bytes_of c.push.new.self.items)
    (ap (map bytes_of) c.in_ok-push.ensures.items ∙ map-append bytes_of c.loop-instance.parts.items _)
    (c.loop-instance.invariant nodes instances encoded are)

pub returns : goal.returns
returns g c = λ nodes instances encoded are.
    no_instance_left c.args.path.now c.loop-instance.offset instances (map bytes_of c.loop-instance.parts.items)
    (c.uefi_path_next_instance.ensures.none c.loop-instance-test.false) (c.loop-instance.invariant nodes instances encoded are)
