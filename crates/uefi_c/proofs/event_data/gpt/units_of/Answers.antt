use Rattle.std.proofs.Common.{◌∙◌, ap, arith}
use Rattle.std.proofs.lemmas.List.{length-set}
use Rattle.std.specs.Prelude.{unwrap_or}
use Rattle.uefi_base.specs.Views.{slice_units}
use Rattle.uefi_c.proofs.GptEntries.{all_units, one_unit}
use Rattle.uefi_c.proofs.event_data.gpt.units_of.Goals as goal

pub loop-i-preserved : goal.loop-i-preserved
loop-i-preserved c = record {
  copied = one_unit c.loop-i.units (slice_units c.args.name.now) c.loop-i.i c.unwrap_or.result
      (omega (arith, c.loop-i-test.true, c.loop-i.invariant.count)) (omega (arith, c.loop-i-test.true, c.requires))
      (c.unwrap_or.ensures ∙ ap (λ unit. unwrap_or unit 0) c.get.ensures) c.loop-i.invariant.copied;
  count = length-set c.loop-i.units c.loop-i.i c.unwrap_or.result ∙ c.loop-i.invariant.count;
}

pub returns : goal.returns
returns c = all_units c.loop-i.units (slice_units c.args.name.now) c.loop-i.i
    (omega (arith, c.loop-i-test.false, c.loop-i.invariant.count)) (omega (arith, c.loop-i-test.false, c.requires))
    c.loop-i.invariant.copied
