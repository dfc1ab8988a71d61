use Rattle.std.proofs.Common.{◌≡◌, take, length}
use Rattle.std.specs.List.{flat_map}
use Rattle.uefi_base.specs.Buffer.{put_at}
use Rattle.uefi_c.proofs.nodes.typed.joined.Given as goal

abbrev pub invariant-loop-part : goal.invariant-loop-part
invariant-loop-part g l =
    (l.end ≡ length (flat_map (λ part. part.now) (take l.part-index l.parts)))
    × (l.bytes ≡ put_at 0 (flat_map (λ part. part.now) (take l.part-index l.parts)) l.initial.bytes)
