use Rattle.std.proofs.Common.{arith}
use Rattle.uefi_path_text.proofs.reading.PieceTexts.{name_empty, name_wrong, name_right, name_long}
use Rattle.uefi_path_text.proofs.parse.piece.read_name_piece.Goals as goal

pub returns-then-is_empty-clause-wrong : goal.returns-then-is_empty-clause-wrong
returns-then-is_empty-clause-wrong c =
    name_empty c.args.text.now c.split_name.result.0.now c.requires.name c.split_name.ensures.name c.if-is_empty.ensures

pub returns-in-Err-clause-wrong : goal.returns-in-Err-clause-wrong
returns-in-Err-clause-wrong c =
    name_wrong c.args.text.now c.split_name.result.0.now c.requires.name c.split_name.ensures.name c.in-Err.ensures.ok

pub returns-in-Some-clause-piece : goal.returns-in-Some-clause-piece
returns-in-Some-clause-piece c =
    name_right c.args.text.now c.split_name.result.0.now _ c.requires.name c.split_name.ensures.name c.if-is_empty.ensures
    c.in_default.ensures.ok (omega (arith, c.in-Some.ensures.some, c.in-Some.ensures.few)) c.new.ensures

pub returns-in-None-clause-wrong : goal.returns-in-None-clause-wrong
returns-in-None-clause-wrong c =
    name_long c.args.text.now c.split_name.result.0.now c.requires.name c.split_name.ensures.name c.if-is_empty.ensures
    c.in_default.ensures.ok c.in-None.ensures.none
