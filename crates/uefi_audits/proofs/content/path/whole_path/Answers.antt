use Rattle.uefi_path.specs.Views.{path_nodes}
use Rattle.uefi_audits.proofs.content.PathBytes.{longer, no_nodes, whole_nodes}
use Rattle.uefi_audits.proofs.content.path.whole_path.Goals as goal

pub returns-in_default : goal.returns-in_default
returns-in_default c = no_nodes c.args.bytes.now c.in_default.ensures.err

pub returns-then-as_bytes-bytes : goal.returns-then-as_bytes-bytes
returns-then-as_bytes-bytes c =
    longer c.args.bytes.now c.as_bytes.result.now (path_nodes c.in-Ok.path) c.in-Ok.ensures.only
    c.as_bytes.ensures.bytes
    c.if-as_bytes-bytes.true

pub returns : goal.returns
returns c =
    whole_nodes c.args.bytes.now c.as_bytes.result.now (path_nodes c.in-Ok.path) c.in-Ok.ensures.ok
    c.as_bytes.ensures.bytes
    c.if-as_bytes-bytes.false
