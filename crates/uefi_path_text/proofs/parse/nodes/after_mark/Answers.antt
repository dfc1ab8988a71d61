use Rattle.std.proofs.lemmas.Str.Pattern.{strip_prefix_char}
use Rattle.uefi_path_text.proofs.reading.NodeSteps.{none_after}
use Rattle.uefi_path_text.proofs.parse.nodes.after_mark.Goals as goal

pub returns-clause-none : goal.returns-clause-none
returns-clause-none c =
    none_after c.args.mark c.args.text.now c.strip_prefix.result
    (strip_prefix_char c.args.mark c.args.text.now c.strip_prefix.result c.strip_prefix.ensures.cases c.requires)
