use Rattle.std.proofs.Common.{rules}
use Rattle.uefi_audit.proofs.request.max_rows_of.Goals as goal

pub returns : goal.returns
returns c = (c.get_one.result, search rules, c.unwrap_or.ensures)
