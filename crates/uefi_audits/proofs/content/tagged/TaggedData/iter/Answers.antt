use Rattle.std.proofs.Common.{ap}
use Rattle.uefi_audits.specs.private.content.Tagged.{same_split}
use Rattle.uefi_audits.proofs.content.tagged.TaggedData.iter.Goals as goal

pub returns-clause-events : goal.returns-clause-events
returns-clause-events c =
    let tagged = c.new.ensures.tagged in
    let view = c.args.self.now in
    ap (λ split. split.0)
    (same_split view.bytes.now (c.new.result.events, tagged.0) view.split.0 tagged.1 view.split.1)
