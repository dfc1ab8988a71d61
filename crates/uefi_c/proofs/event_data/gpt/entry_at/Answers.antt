use Rattle.std.proofs.lemmas.Iterator.Consumers.{YieldsList-from_first, nth_from_yields_List}
use Rattle.tcg_event.specs.GptViews.{entries_left, entry_of, gpt_of}
use Rattle.uefi_c.proofs.GptEntries.{found, named, no_table, none}
use Rattle.uefi_c.proofs.event_data.gpt.entry_at.Goals as goal

pub returns-in_err-gpt-clause-none : goal.returns-in_err-gpt-clause-none
returns-in_err-gpt-clause-none c =
    rw c.from_residual.ensures (no_table c.args.size c.args.bytes.now c.args.index c.in_err-gpt.ensures)

pub returns-clause-entry : goal.returns-clause-entry
returns-clause-entry c =
    found c.args.size c.args.bytes.now (gpt_of c.in_ok-gpt.gpt) c.args.index c.in_ok-gpt.ensures c.nth.result
    (nth_from_yields_List c.nth.result c.nth.new.self c.args.index c.nth.ensures.ran
    (YieldsList-from_first entry_of entries_left (gpt_of c.in_ok-gpt.gpt).entries c.iter.ensures.entries))

pub returns-clause-name : goal.returns-clause-name
returns-clause-name c =
    named c.args.size c.args.bytes.now (gpt_of c.in_ok-gpt.gpt) c.args.index c.in_ok-gpt.ensures c.nth.result
    (nth_from_yields_List c.nth.result c.nth.new.self c.args.index c.nth.ensures.ran
    (YieldsList-from_first entry_of entries_left (gpt_of c.in_ok-gpt.gpt).entries c.iter.ensures.entries))

pub returns-clause-none : goal.returns-clause-none
returns-clause-none c =
    none c.args.size c.args.bytes.now (gpt_of c.in_ok-gpt.gpt) c.args.index c.in_ok-gpt.ensures c.nth.result
    (nth_from_yields_List c.nth.result c.nth.new.self c.args.index c.nth.ensures.ran
    (YieldsList-from_first entry_of entries_left (gpt_of c.in_ok-gpt.gpt).entries c.iter.ensures.entries))
