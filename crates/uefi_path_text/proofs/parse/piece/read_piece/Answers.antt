use Rattle.std.proofs.Common.{◌≡◌, ◌∙◌, ◌++◌, List, ℕ, sym, subst, Some, None, IfOk, OnErr, false, true}
use Rattle.uefi_path_text.specs.parse.Nodes.{piece_node}
use Rattle.uefi_path_text.specs.private.Pieces.{piece_at}
use Rattle.uefi_path_text.specs.private.TextNodes.{text_node}
use Rattle.uefi_path_text.proofs.reading.PieceTexts.{split_text, front_without, text_without, name_found, no_parenthesis_reads}
use Rattle.uefi_path_text.proofs.parse.piece.read_piece.Goals as goal

pub read_call_piece-requires-clause-name : goal.read_call_piece-requires-clause-name
read_call_piece-requires-clause-name c =
    name_found c.args.text.now c.in-Some.name.now c.in-Some.after.now
    (split_text 0x28 c.args.text.now c.in-Some.name.now c.in-Some.after.now c.in-Some.ensures.some.front
    c.in-Some.ensures.some.back c.in-Some.ensures.some.some)
    (front_without 0x28 c.args.text.now c.in-Some.name.now c.in-Some.ensures.some.front)
    (sym c.if-not-reads_as_node.ensures)

pub unreachable-requires : goal.unreachable-requires
unreachable-requires c =
    let other : false ≡ true = sym (no_parenthesis_reads c.args.text.now (text_without 0x28 c.args.text.now c.in-None.ensures.none))
    ∙ sym c.if-not-reads_as_node.ensures in
    cc

pub returns-clause-piece : goal.returns-clause-piece
returns-clause-piece c =
    subst (λ (t : List ℕ). IfOk c.read_call_piece.result (λ taken. piece_node (piece_at t) ≡ Some (text_node taken.0)))
    (sym (split_text 0x28 c.args.text.now c.in-Some.name.now c.in-Some.after.now c.in-Some.ensures.some.front
    c.in-Some.ensures.some.back c.in-Some.ensures.some.some))
    c.read_call_piece.ensures.piece

pub returns-clause-split : goal.returns-clause-split
returns-clause-split c =
    subst (λ (t : List ℕ). IfOk c.read_call_piece.result (λ taken. t ≡ piece_at t ++ taken.1.now))
    (sym (split_text 0x28 c.args.text.now c.in-Some.name.now c.in-Some.after.now c.in-Some.ensures.some.front
    c.in-Some.ensures.some.back c.in-Some.ensures.some.some))
    c.read_call_piece.ensures.split

pub returns-clause-wrong : goal.returns-clause-wrong
returns-clause-wrong c =
    subst (λ (t : List ℕ). OnErr c.read_call_piece.result (piece_node (piece_at t) ≡ None))
    (sym (split_text 0x28 c.args.text.now c.in-Some.name.now c.in-Some.after.now c.in-Some.ensures.some.front
    c.in-Some.ensures.some.back c.in-Some.ensures.some.some))
    c.read_call_piece.ensures.wrong
