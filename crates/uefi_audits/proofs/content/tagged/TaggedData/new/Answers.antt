use Rattle.uefi_audits.proofs.content.tagged.TaggedData.new.Goals as goal

pub invariant_of-result : goal.invariant_of-result
invariant_of-result c =
    let tagged = c.new-events.ensures.tagged in
    record { split = ((c.new-events.result.events, tagged.0), tagged.1) }
