use Rattle.std.proofs.Common.{arith, ap, length, ◌<◌, ◌≤◌, sym, ◌∙◌}
use Rattle.std.proofs.lemmas.List.{take_all}
use Rattle.uefi_path_text.specs.parse.Values.{pattern}
use Rattle.uefi_path_text.proofs.arguments.Shapes.{no_pattern_at_length, no_pattern_at_character, fits_more}
use Rattle.uefi_path_text.proofs.form.shape.Shape.check.Goals as goal
use Rattle.uefi_path_text.proofs.form.shape.Shape.check.Goals.{then-offset-marks-via-then-offset-marks, then-offset-marks-via-else-offset-marks+then-not-fits}

pub loop-offset-preserved : goal.loop-offset-preserved
loop-offset-preserved c =
    let within : c.loop-offset.offset < length (pattern c.args.self) = omega (arith, c.if-offset-marks.false, ap length c.pattern-marks.ensures, c.loop-offset.invariant.0) in
    (omega arith, fits_more (pattern c.args.self) c.args.text.now c.loop-offset.offset within c.loop-offset-test.true c.loop-offset.invariant.1 (rw c.pattern-marks.ensures at (sym c.fits.ensures ∙ c.if-not-fits.false)))

pub returns-then-text-marks-clause-ok : goal.returns-then-text-marks-clause-ok
returns-then-text-marks-clause-ok c =
    let past : length c.args.text.now ≤ c.loop-offset.offset = omega arith in
    let end : length (pattern c.args.self) ≤ c.loop-offset.offset = omega (arith, ap length c.pattern-marks.ensures) in
    rw (take_all c.loop-offset.offset c.args.text.now past, take_all c.loop-offset.offset (pattern c.args.self) end) at c.loop-offset.invariant.1

pub returns-then-offset-marks-clause-err : goal.returns-then-offset-marks-clause-err
returns-then-offset-marks-clause-err c =
    elim c.then-offset-marks.branch [
      | then-offset-marks-via-then-offset-marks w ↦ no_pattern_at_length (pattern c.args.self) c.args.text.now (λ same. omega (arith, w.if-offset-marks.true, ap length c.pattern-marks.ensures))
      | then-offset-marks-via-else-offset-marks+then-not-fits w ↦
          let within : c.loop-offset.offset < length (pattern c.args.self) = omega (arith, w.if-offset-marks.false, ap length c.pattern-marks.ensures, c.loop-offset.invariant.0) in
          no_pattern_at_character (pattern c.args.self) c.args.text.now c.loop-offset.offset within (rw c.pattern-marks.ensures at (sym w.fits.ensures ∙ w.if-not-fits.true))
    ]

pub returns-else-text-marks-clause-err : goal.returns-else-text-marks-clause-err
returns-else-text-marks-clause-err c = no_pattern_at_length (pattern c.args.self) c.args.text.now (λ same. c.if-text-marks.false (omega (arith, ap length c.pattern-marks.ensures)))
