use Rattle.std.proofs.Common.{◌∙◌, ap, rules}
use Rattle.std.specs.Str.{trim_start}
use Rattle.std.specs.Str.Iter.{lines_rest}
use Rattle.std.proofs.lemmas.Iterator.{YieldsList-from_map_by}
use Rattle.std.proofs.lemmas.Iterator.Consumers.{map_from_collect}
use Rattle.std.proofs.lemmas.Iterator.Splits.{YieldsList-from_lines}
use Rattle.audit_text.proofs.text.diff.change.lines.lines_of.Goals as goal

pub returns : goal.returns
returns c =
    map_from_collect _ c.collect.ensures.ran
    (YieldsList-from_map_by _ (λ line. line.now) trim_start
    (YieldsList-from_lines c.args.block.now (ap lines_rest c.map.ensures.source ∙ c.lines.ensures.rest)) c.map.ensures.closure
    (λ x r q k. search rules))
