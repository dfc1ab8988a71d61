use Rattle.std.proofs.Common.{◌≡◌, ◌∙◌, List, ℕ, map-id, subst, sym}
use Rattle.std.specs.Fmt.{HasWritten}
use Rattle.std.specs.List.{flat_map}
use Rattle.std.specs.Str.{chars}
use Rattle.std.proofs.lemmas.Iterator.{YieldsList-from_chars}
use Rattle.std.proofs.lemmas.Iterator.Consumers.{YieldsList-end}
use Rattle.shown.specs.Name.{shown_character, shown_name}
use Rattle.shown.proofs.name.write_name.Goals as goal

pub returns : goal.returns
unfolding shown_name
returns g c =
    let all = YieldsList-end (YieldsList-from_chars c.args.name.now c.utf8.name cc)
    c.loop-character.yielded _ c.loop-character.yielded_by _ _ c.in-None.is c.next.ensures.steps in
    let same : c.loop-character.yielded ≡ chars c.args.name.now = sym (map-id c.loop-character.yielded) ∙ all.0 in
    λ plain ok.
    subst (λ (written : List ℕ). HasWritten g.W.Write.write_str_gives c.args.f.now (flat_map shown_character written)
    c.loop-character.f) same (c.loop-character.invariant plain)
