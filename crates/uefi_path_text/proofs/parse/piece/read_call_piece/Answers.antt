use Rattle.std.proofs.Common.{◌∙◌}
use Rattle.uefi_path_text.proofs.reading.PieceTexts.{split_text, front_without, text_without, closed_node, closed_split, unclosed_node}
use Rattle.uefi_path_text.proofs.parse.piece.read_call_piece.Goals as goal

pub returns-in_default-clause-wrong : goal.returns-in_default-clause-wrong
returns-in_default-clause-wrong c =
    unclosed_node c.args.name.now c.args.after.now c.requires.name
    (text_without 0x29 c.args.after.now c.in_default.ensures.none)

pub returns-in-Ok-clause-piece : goal.returns-in-Ok-clause-piece
returns-in-Ok-clause-piece c =
    closed_node c.args.name.now c.args.after.now c.in-Some.arguments.now c.in-Some.rest.now c.requires.name
    (front_without 0x29 c.args.after.now c.in-Some.arguments.now c.in-Some.ensures.some.front)
    (split_text 0x29 c.args.after.now c.in-Some.arguments.now c.in-Some.rest.now c.in-Some.ensures.some.front
    c.in-Some.ensures.some.back c.in-Some.ensures.some.some)
    ∙ c.in-Ok.ensures.ok

pub returns-in-Ok-clause-split : goal.returns-in-Ok-clause-split
returns-in-Ok-clause-split c =
    closed_split c.args.name.now c.args.after.now c.in-Some.arguments.now c.in-Some.rest.now c.requires.name
    (front_without 0x29 c.args.after.now c.in-Some.arguments.now c.in-Some.ensures.some.front)
    (split_text 0x29 c.args.after.now c.in-Some.arguments.now c.in-Some.rest.now c.in-Some.ensures.some.front
    c.in-Some.ensures.some.back c.in-Some.ensures.some.some)

pub returns-in-Err-clause-wrong : goal.returns-in-Err-clause-wrong
returns-in-Err-clause-wrong c =
    closed_node c.args.name.now c.args.after.now c.in-Some.arguments.now c.in-Some.rest.now c.requires.name
    (front_without 0x29 c.args.after.now c.in-Some.arguments.now c.in-Some.ensures.some.front)
    (split_text 0x29 c.args.after.now c.in-Some.arguments.now c.in-Some.rest.now c.in-Some.ensures.some.front
    c.in-Some.ensures.some.back c.in-Some.ensures.some.some)
    ∙ c.in-Err.ensures.err
