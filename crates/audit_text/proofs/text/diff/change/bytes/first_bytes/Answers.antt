use Rattle.hex.specs.Hex.{encode_lower}
use Rattle.audit_text.specs.text.ChangeParts.{first_bytes}
use Rattle.audit_text.proofs.words.FirstItems.{first_shown}
use Rattle.audit_text.proofs.text.diff.change.bytes.first_bytes.Goals as goal

pub returns : goal.returns
unfolding first_bytes
returns c =
    first_shown c.args.bytes.now _ _ 32 c.min.result c.min.ensures c.split_at.ensures.front c.split_at.ensures.back encode_lower
    _ _ c.in_ok-words.ensures c.in_ok-push_more.ensures
