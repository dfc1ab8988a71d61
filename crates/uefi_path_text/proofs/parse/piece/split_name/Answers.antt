use Rattle.std.proofs.Common.{◌≡◌, ◌∙◌, ap, sym, ◌++◌, drop, length}
use Rattle.uefi_path_text.specs.private.Pieces.{up_to, is_mark}
use Rattle.uefi_path_text.proofs.reading.PieceTexts.{up_to_rest}
use Rattle.uefi_path_text.proofs.parse.piece.split_name.Goals as goal

pub unreachable-requires : goal.unreachable-requires
unreachable-requires c =
    let name : c.before-name.result.now ≡ up_to is_mark c.args.text.now =
    c.before-name.ensures ∙ c.first_mark.ensures.first in
    c.in-None.ensures.cases (drop (length (up_to is_mark c.args.text.now)) c.args.text.now)
    (up_to_rest is_mark c.args.text.now ∙ ap (λ l. l ++ drop (length (up_to is_mark c.args.text.now)) c.args.text.now) (sym name))

pub returns-clause-name : goal.returns-clause-name
returns-clause-name c = c.before-name.ensures ∙ c.first_mark.ensures.first
