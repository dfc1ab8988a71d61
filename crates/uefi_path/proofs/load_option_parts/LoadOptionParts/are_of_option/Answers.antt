use Rattle.std.proofs.Common.{rules, arith}
use Rattle.uefi_path.proofs.OptionParts.{path_decides}
use Rattle.uefi_path.proofs.load_option_parts.LoadOptionParts.are_of_option.Goals as goal

pub returns : goal.returns
returns c =
    path_decides c.args.self.now (omega (arith, c.bits-bits.ensures, c.bits-bits.type_inv))
    (c.ends_with_only_nul.ensures.0 (search rules)) (omega (arith, c.if-self-from.false, c.from.ensures))
    c.try_from.result c.try_from.ensures c.is_ok.result c.is_ok.ensures.value
