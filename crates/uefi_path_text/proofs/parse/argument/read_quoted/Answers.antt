use Rattle.std.proofs.Common.{arith, length, drop, sym, ◌∙◌, ◌<◌}
use Rattle.std.proofs.lemmas.List.{take_rest, length-drop}
use Rattle.uefi_path_text.proofs.arguments.Quotes.{no_quotes_at_other}
use Rattle.uefi_path_text.proofs.parse.argument.read_quoted.Goals as goal

pub returns-then-not-is_serial_character-clause-err : goal.returns-then-not-is_serial_character-clause-err
returns-then-not-is_serial_character-clause-err c =
    let rest = take_rest c.args.text.now 1 in
    let within : c.loop-offset.offset < length (drop 1 c.args.text.now) = rw rest at c.loop-offset-test.true in
    no_quotes_at_other c.args.text.now c.loop-offset.offset (omega (arith, length-drop 1 c.args.text.now))
    (rw rest at (sym c.is_serial_character.ensures ∙ c.if-not-is_serial_character.true)) (rw rest at c.if-c-eq34.false)
