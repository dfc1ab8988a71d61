use Rattle.std.proofs.Common.{string_bytes}
use Rattle.audit_text.proofs.text.Unsupported.{none_unsupported, some_unsupported}
use Rattle.audit_text.proofs.text.unreplayed.push_unsupported.Goals as goal

pub returns-in_default : goal.returns-in_default
returns-in_default c =
    none_unsupported c.args.name.now c.args.algorithms.now (string_bytes c.args.messages.now) c.in_default.ensures.cases

pub returns : goal.returns
unfolding lib.Utf8.encode
returns c =
    some_unsupported c.args.name.now c.args.algorithms.now c.in-Some.first.now c.in-Some.others.now
    (string_bytes c.args.messages.now) _ _ _ _ c.in-Some.ensures.cases.0 c.in_ok-write.ensures.bytes
    c.in_ok-push_number.ensures c.in_ok-push_others.ensures c.in_ok-push.ensures.bytes
