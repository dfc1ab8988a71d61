use Rattle.std.proofs.Common.{◌≡◌, false, refl, true}
use Rattle.uefi_audits.proofs.verify.LineForms.{all_read, byte_read, none_read}
use Rattle.uefi_audits.proofs.verify.line.unspaced.Goals as goal

pub loop-high-preserved : goal.loop-high-preserved
loop-high-preserved g c =
    byte_read c.args.text.now c.loop-high.rest.now c.in-Some.after.now c.loop-high.digits.items c.push.new.self.items
    c.push-in-Some.new.self.items c.in-Some.high c.in-Some.low c.loop-high.invariant c.in-Some.ensures
    c.in_ok-push.ensures.items c.in_ok-push-2.ensures.items

pub returns-then-is_end : goal.returns-then-is_end
returns-then-is_end g c =
    all_read c.args.text.now c.loop-high.rest.now c.loop-high.digits.items c.loop-high.invariant (c.if-is_end.ensures.0 refl)

pub returns : goal.returns
returns g c =
    none_read c.args.text.now c.loop-high.rest.now c.loop-high.digits.items c.loop-high.invariant c.in_default.ensures
    (λ so. let h : false ≡ true = c.if-is_end.ensures.1 so in cc)
