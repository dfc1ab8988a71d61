use Rattle.std.proofs.Common.{length}
use Rattle.tcg_event.specs.Tagged.{AreTagged}
use Rattle.uefi_audits.proofs.content.tagged.TaggedData.rest.Given as goal

-- The bytes that aren't read are the tagged events to come and the rest of all.
abbrev pub invariant-loop : goal.invariant-loop
invariant-loop l = AreTagged l.events.bytes l.events.events l.self.split.0.1

abbrev pub decreases-loop : goal.decreases-loop
decreases-loop l = length l.events.events
