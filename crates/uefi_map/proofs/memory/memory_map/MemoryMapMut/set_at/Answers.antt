use Rattle.std.proofs.Common.{rules, arith, ◌∙◌}
use Rattle.std.proofs.lemmas.Grind.{common_steps}
use Rattle.uefi_map.specs.memory.Descriptor.{descriptor}
use Rattle.uefi_map.proofs.memory.StrideFree.{writes_one}
use Rattle.uefi_map.proofs.memory.memory_map.MemoryMapMut.set_at.Goals as goal

pub returns-clause-written : goal.returns-clause-written
returns-clause-written g c = grind (arith, common_steps)

pub returns-clause-meta : goal.returns-clause-meta
returns-clause-meta g c = search rules

pub returns-clause-read_back : goal.returns-clause-read_back
returns-clause-read_back g c =
    let map = g.Self.MemoryMap in
    let before = c.args.self.now in
    let one = writes_one (map.bytes before) (map.meta before) c.args.i c.args.entry c.meta.ensures.map c.requires
    c.write.ensures.fits in
    (λ j. descriptor (returns-clause-written g c j) (returns-clause-meta g c j).desc_size c.args.i) ∙ one.set
