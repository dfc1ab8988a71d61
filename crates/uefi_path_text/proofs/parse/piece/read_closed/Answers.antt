use Rattle.uefi_path_text.proofs.reading.PieceTexts.{no_form, by_forms}
use Rattle.uefi_path_text.proofs.parse.piece.read_closed.Goals as goal

pub returns-in-Unknown-clause-err : goal.returns-in-Unknown-clause-err
returns-in-Unknown-clause-err c =
    no_form c.as_bytes.result.now c.args.name.now c.args.arguments.now c.as_bytes.ensures.value c.in-Unknown.ensures

pub returns-in-Wrong-clause-err : goal.returns-in-Wrong-clause-err
returns-in-Wrong-clause-err c =
    by_forms c.as_bytes.result.now c.args.name.now c.as_bytes-2.result.now c.args.arguments.now _ c.as_bytes.ensures.value
    c.as_bytes-2.ensures.value c.in-Wrong.ensures.0

pub returns-in-Node-clause-ok : goal.returns-in-Node-clause-ok
returns-in-Node-clause-ok c =
    by_forms c.as_bytes.result.now c.args.name.now c.as_bytes-2.result.now c.args.arguments.now _ c.as_bytes.ensures.value
    c.as_bytes-2.ensures.value c.in-Node.ensures
