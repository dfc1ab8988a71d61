use Rattle.std.proofs.Common.{sym, ◌∙◌}
use Rattle.tcg_event.specs.SignatureViews.{list_of, lists_of, lists_left}
use Rattle.uefi_c.proofs.SignatureLists.{first_part, is_prefix, no_first, read_none}
use Rattle.uefi_c.proofs.event_data.signature.first_list.Goals as goal

pub returns-in_err-read-clause-none : goal.returns-in_err-read-clause-none
returns-in_err-read-clause-none c = rw c.from_residual-in_err-read.ensures
    (read_none c.args.bytes.now c.in_ok-part.part.now c.in_ok-part.ensures.part c.in_ok-part.ensures.within
    c.in_err-read.ensures)

pub returns-in_err-list-clause-none : goal.returns-in_err-list-clause-none
returns-in_err-list-clause-none c = rw c.from_residual-in_err-list.ensures
    (no_first c.args.bytes.now c.in_ok-part.part.now c.in_ok-part.ensures.part c.in_ok-part.ensures.within
    (lists_of c.in_ok-read.field-0) c.in_ok-read.ensures (sym c.iter.ensures.lists ∙ c.in_err-list.ensures.steps.0))

pub returns-clause-part : goal.returns-clause-part
returns-clause-part c =
    first_part c.args.bytes.now c.in_ok-part.part.now c.in_ok-part.ensures.part c.in_ok-part.ensures.within
    (lists_of c.in_ok-read.field-0) (lists_left c.next.new.self) (list_of c.in_ok-list.list) c.in_ok-read.ensures
    (sym c.iter.ensures.lists ∙ c.in_ok-list.ensures.steps)

pub returns-clause-prefix : goal.returns-clause-prefix
returns-clause-prefix c =
    is_prefix c.args.bytes.now c.in_ok-part.part.now c.in_ok-part.ensures.part c.in_ok-part.ensures.within
