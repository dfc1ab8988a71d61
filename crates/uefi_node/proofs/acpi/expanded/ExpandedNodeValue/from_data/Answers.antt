use Rattle.std.proofs.Common.{sym, subst}
use Rattle.uefi_node.specs.NulStrings.{AreStrings}
use Rattle.uefi_node.proofs.acpi.expanded.ExpandedNodeValue.from_data.Goals as goal

pub returns-in_default : goal.returns-in_default
returns-in_default c = record {
  some = tt;
  none = λ (first, second, third, are). c.in_default.ensures.none first second third
      (subst (λ b. AreStrings b first second third) (sym c.split_at.ensures.back) are);
}
