-- What an event is that breaks a rule for its place.
use Rattle.std.specs.Prelude.{ℕ, List, codes}
use Rattle.uefi_audits.specs.declared.out_of_place.rule.Rule.{Rule}
use Rattle.uefi_audits.specs.declared.out_of_place.rule.Rule.TheVariants.{SecondSeparator, SeparatorValue, OtherType, AfterSeparator, Unlogged}

abbrev pub rule_name : Rule → List ℕ
rule_name SecondSeparator = codes "second separator"
rule_name SeparatorValue = codes "separator of another value"
rule_name OtherType = codes "type of other PCRs"
rule_name AfterSeparator = codes "after the separator"
rule_name Unlogged = codes "other than its data was measured"
