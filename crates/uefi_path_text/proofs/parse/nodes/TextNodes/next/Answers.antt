use Rattle.std.proofs.Common.{◌∙◌, ◌++◌, ◌∷◌, ap, sym}
use Rattle.uefi_path_text.specs.private.Pieces.{piece_at}
use Rattle.uefi_path_text.specs.private.TextNodes.{text_node}
use Rattle.uefi_path_text.proofs.reading.NodeSteps.{takes_comma, takes_piece, after_node, wrong_piece, wrong_slash, some_text}
use Rattle.uefi_path_text.proofs.parse.nodes.TextNodes.next.Goals as goal

pub returns-in-Some-clause-node : goal.returns-in-Some-clause-node
returns-in-Some-clause-node c =
    takes_comma c.args.self.now.place c.args.self.now.rest.now c.go_to.new.self.rest.now
    (c.in-Some.ensures.some ∙ ap (λ l. 0x2c ∷ l) (sym c.go_to.ensures.rest))

pub returns-in_default-after_slash-clause-wrong : goal.returns-in_default-after_slash-clause-wrong
returns-in_default-after_slash-clause-wrong c =
    wrong_slash c.args.self.now.place c.args.self.now.rest.now (some_text c.args.self.now.rest.now c.if-is_empty.ensures)
    c.in_default.ensures.none c.in_default-after_slash.ensures.none

pub returns-in-Ok-clause-node : goal.returns-in-Ok-clause-node
returns-in-Ok-clause-node c =
    takes_piece c.args.self.now.place c.args.self.now.rest.now c.in-Some-after_slash.piece.now
    c.go_to-in-Ok.new.self.rest.now (text_node c.in-Ok.node) c.in-Some-after_slash.ensures.some c.in-Ok.ensures.piece
    (c.in-Ok.ensures.split ∙ ap (λ l. piece_at c.in-Some-after_slash.piece.now ++ l) (sym c.go_to-in-Ok.ensures.rest))

pub returns-in-Ok-clause-place : goal.returns-in-Ok-clause-place
returns-in-Ok-clause-place c =
    after_node (text_node c.in-Ok.node) (piece_at c.in-Some-after_slash.piece.now) c.in-Ok.ensures.piece

pub returns-in-Err-clause-wrong : goal.returns-in-Err-clause-wrong
returns-in-Err-clause-wrong c =
    wrong_piece c.args.self.now.place c.args.self.now.rest.now c.in-Some-after_slash.piece.now
    (some_text c.args.self.now.rest.now c.if-is_empty.ensures) c.in_default.ensures.none
    c.in-Some-after_slash.ensures.some c.in-Err.ensures.wrong
