use Rattle.std.proofs.lemmas.List.{take_all}
use Rattle.boot_listing.proofs.Noting.{finds_nothing, finds_more}
use Rattle.boot_listing.proofs.variables.BootVariables.find.Goals as goal

pub note-requires : goal.note-requires
note-requires g c = c.loop-file.invariant.count

pub loop-file-init : goal.loop-file-init
loop-file-init g c =
    finds_nothing c.in_ok-from_elem.field-0 (c.in_ok-from_elem.ensures.items_if_clones_equal (λ clone same. same))

pub loop-file-preserved : goal.loop-file-preserved
loop-file-preserved g c =
    finds_more c.args.files.now c.loop-file.file-index c.file-item.result c.loop-file.found c.note.new.self
    c.loop-file-test.true c.file-item.is c.loop-file.invariant c.note.ensures.count c.note.ensures.each

pub returns : goal.returns
returns g c = rw (take_all c.loop-file.file-index c.args.files.now c.loop-file-test.false) at c.loop-file.invariant
