use Rattle.std.proofs.Common.{◌-◌, length}
use Rattle.tcg_event.specs.Tagged.{IsTagged, tagged_bytes}
use Rattle.uefi_c.specs.EventData.{tagged_seen}
use Rattle.uefi_c.proofs.WalkSteps.{Passed}
use Rattle.uefi_c.proofs.callers.tagged.tagged_by_steps.Given as goal

abbrev pub invariant-loop-tagged : goal.invariant-loop-tagged
invariant-loop-tagged g l = Passed tagged_seen IsTagged tagged_bytes l.event_data l.offset l.views.items

abbrev pub decreases-loop-tagged : goal.decreases-loop-tagged
decreases-loop-tagged g l = length l.event_data - l.offset
