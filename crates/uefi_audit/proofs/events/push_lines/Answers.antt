use Rattle.std.proofs.Common.{map}
use Rattle.std.proofs.lemmas.Result.{on_ok_weaker}
use Rattle.uefi_tcg.specs.LogViews.{entry_of}
use Rattle.uefi_audit.proofs.EventsPrinted.{are_lines}
use Rattle.uefi_audit.proofs.events.push_lines.Goals as goal

pub returns : goal.returns
returns c =
    on_ok_weaker c.push_events.result
    (are_lines c.args.file.now c.uintn_size-uintn_size.result (map entry_of c.entries-entries.result.now) c.args.text.now
    c.push_events.new.text c.uintn_size-uintn_size.ensures c.entries-entries.ensures)
    c.push_events.ensures
