use Rattle.std.proofs.Common.{arith}
use Rattle.std.proofs.lemmas.List.{take_rest, length-drop}
use Rattle.uefi_path_text.proofs.parse.number.read_number.Goals as goal

pub returns-in-Err-clause-offset : goal.returns-in-Err-clause-offset
returns-in-Err-clause-offset c =
    let within = rw (take_rest c.args.text.now 2) at c.in-Err.ensures.offset in
    omega (arith, within, length-drop 2 c.args.text.now, c.in-48.len_at_least)
