use Rattle.std.proofs.lemmas.Result.{err_from_is_err_and}
use Rattle.uefi_path_text.proofs.arguments.Pairs.{no_hardware_address}
use Rattle.uefi_path_text.proofs.form.argument.Argument.read.Goals as goal

pub returns-in_err-read_pairs-in-HardwareAddress-clause-err : goal.returns-in_err-read_pairs-in-HardwareAddress-clause-err
returns-in_err-read_pairs-in-HardwareAddress-clause-err c =
    let passed = err_from_is_err_and c.from_residual-in_err-read_pairs-in-HardwareAddress.result
    c.from_residual-in_err-read_pairs-in-HardwareAddress.ensures.1 in
    rw (passed.1, c.in-HardwareAddress.is)
    (no_hardware_address c.args.text.now c.in_err-read_pairs-in-HardwareAddress.ensures.err)
