use Rattle.uefi_c.proofs.OptionSeen.{refused}
use Rattle.std.proofs.Common.{rules, arith, true}
use Rattle.uefi_c.proofs.load_option_write.uefi_write_load_option.Goals as goal

-- src/load_option_write.rt:25:1
pub returns-clause-not_nul_terminated : goal.returns-clause-not_nul_terminated
returns-clause-not_nul_terminated c =
    refused c.args.option.now _ (search) c.in-Some.ensures.units (search) (search) c.write_parts-status.result.0 (search)
    (c.in-Some.ensures.even.0 (λ i. true)) (search rules, grind (arith))
    c.write_parts-status.ensures.not_nul_terminated
