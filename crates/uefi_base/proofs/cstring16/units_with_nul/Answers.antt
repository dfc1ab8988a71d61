use Rattle.std.proofs.Common.{◌≡◌, ◌∙◌, arith, length}
use Rattle.std.specs.Str.{chars}
use Rattle.std.proofs.lemmas.Iterator.{YieldsList-from_chars}
use Rattle.std.proofs.lemmas.Iterator.Consumers.{YieldsList-turn, YieldsList-end}
use Rattle.uefi_base.proofs.Characters.{has_unit}
use Rattle.uefi_base.proofs.cstring16.units_with_nul.Goals as goal

pub overflow_cast-c : goal.overflow_cast-c
overflow_cast-c g c =
    let next = YieldsList-turn
    (YieldsList-from_chars c.args.text.now c.utf8.text cc) c.loop-c.yielded _ c.loop-c.yielded_by _ _ c.in-Some.c
    c.in-Some.is c.next.ensures.steps in
    omega (arith, has_unit (chars c.args.text.now) (length c.loop-c.yielded) c.in-Some.c c.requires next)

pub returns : goal.returns
returns g c =
    let end = YieldsList-end
    (YieldsList-from_chars c.args.text.now c.utf8.text cc) c.loop-c.yielded _ c.loop-c.yielded_by _ _ c.in-None.is
    c.next.ensures.steps in
    let all : c.loop-c.units.items ≡ chars c.args.text.now = c.loop-c.invariant ∙ end.0 in
    rw all at c.in_ok-push-2.ensures.items
