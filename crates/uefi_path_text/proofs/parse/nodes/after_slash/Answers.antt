use Rattle.uefi_path_text.proofs.reading.NodeSteps.{after_comma_start, after_node_start}
use Rattle.uefi_path_text.proofs.parse.nodes.after_slash.Goals as goal

pub returns-in-AfterComma-clause-some : goal.returns-in-AfterComma-clause-some
returns-in-AfterComma-clause-some c =
    after_comma_start c.args.place c.args.text c.unwrap_or.result c.after_mark.result c.in-AfterComma.is
    c.after_mark.ensures.some c.after_mark.ensures.none c.unwrap_or.ensures

pub returns-in-AfterNode-clause-some : goal.returns-in-AfterNode-clause-some
returns-in-AfterNode-clause-some c =
    after_node_start c.args.place c.args.text.now c.after_mark-in-AfterNode.result c.in-AfterNode.is
    c.after_mark-in-AfterNode.ensures.some
