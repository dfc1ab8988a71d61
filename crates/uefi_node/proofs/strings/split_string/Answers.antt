use Rattle.std.proofs.Common.{◌∷◌, ◌++◌, drop, ◌∙◌, sym, ap}
use Rattle.uefi_node.specs.NulStrings.{is_without_nul}
use Rattle.uefi_node.proofs.NulStrings.{no_nul_found, no_nul_before, nul_between}
use Rattle.uefi_node.proofs.strings.split_string.Goals as goal

pub returns-in_default-clause-none : goal.returns-in_default-clause-none
returns-in_default-clause-none c = no_nul_found c.args.bytes.now (sym c.find_nul.ensures ∙ c.in_default.is)

pub returns-clause-string : goal.returns-clause-string
returns-clause-string c =
    ap is_without_nul c.split_at.ensures.front
    ∙ no_nul_before c.args.bytes.now c.in-Some.nul (sym c.find_nul.ensures ∙ c.in-Some.is)

pub returns-clause-split : goal.returns-clause-split
returns-clause-split c =
    nul_between c.args.bytes.now c.in-Some.nul (sym c.find_nul.ensures ∙ c.in-Some.is)
    ∙ (λ i. sym c.split_at.ensures.front i ++ 0 ∷ (ap (drop 1) (sym c.split_at.ensures.back) ∙ sym c.split_at-2.ensures.back) i)
