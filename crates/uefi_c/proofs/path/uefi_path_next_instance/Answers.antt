use Rattle.std.proofs.Common.{◌∙◌, drop_of_length-le, sym}
use Rattle.uefi_path.specs.private.OnePath.{some_bytes}
use Rattle.uefi_c.proofs.path.uefi_path_next_instance.Goals as goal

pub returns-then-offset-path-clause-none : goal.returns-then-offset-path-clause-none
returns-then-offset-path-clause-none c = λ _ has.
    some_bytes has.0 has.2.0 has.1 (sym has.2.1 ∙ drop_of_length-le c.args.path.now {i = c.args.offset.now} c.if-offset-path.true)
