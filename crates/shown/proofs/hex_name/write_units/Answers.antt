use Rattle.std.proofs.Common.{◌+◌, ℕ, arith, rules, refl, true}
use Rattle.std.proofs.Output.{has_written_append, has_written_of_eq}
use Rattle.uefi_base.specs.Views.{slice_units}
use Rattle.shown.specs.HexText.{hex_of}
use Rattle.shown.proofs.HexNames.{units_hex-more}
use Rattle.shown.proofs.hex_name.write_units.Goals as goal

pub loop-start-init : goal.loop-start-init
unfolding hex_of
loop-start-init g c = search rules

pub loop-start-preserved : goal.loop-start-preserved
loop-start-preserved g c =
    let start = c.loop-start.start in
    let units = slice_units c.args.units.now in
    let end : ℕ = start + c.min.result in
    record {
      within = omega arith;
      written = λ plain.
          let before = c.loop-start.invariant.written plain in
          has_written_of_eq _ _ _ _ _ (units_hex-more units c.fill_big_endian.new.bytes start end
          (omega arith) c.fill_big_endian.ensures)
          (has_written_append _ _ _ _ _ _ before (c.in_ok-write_hex.ensures before.plain (refl {a = true})));
    }
