use Rattle.std.proofs.Common.{◌≡◌, ◌∙◌, ap, map-id, sym}
use Rattle.std.specs.List.{flat_map}
use Rattle.std.specs.Str.{chars}
use Rattle.std.proofs.lemmas.Iterator.{YieldsList-from_chars}
use Rattle.std.proofs.lemmas.Iterator.Consumers.{YieldsList-end}
use Rattle.audit_text.specs.json.Line.{escaped, line_character}
use Rattle.audit_text.proofs.json.line.each_escaped.Goals as goal

pub returns : goal.returns
unfolding escaped
returns c =
    let all = YieldsList-end (YieldsList-from_chars c.args.text.now c.utf8.text cc)
    c.loop-character.yielded _ c.loop-character.yielded_by _ _ c.in-None.is c.next.ensures.steps in
    let same : c.loop-character.yielded ≡ chars c.args.text.now = sym (map-id c.loop-character.yielded) ∙ all.0 in
    c.loop-character.invariant ∙ ap (flat_map line_character) same
