use Rattle.std.proofs.Common.{◌-◌, List, length}
use Rattle.uefi_tcg.specs.Entries.{Entry}
use Rattle.uefi_c.specs.Log.{HasLeft}
use Rattle.uefi_c.proofs.LogWalk.{Found}
use Rattle.uefi_c.proofs.callers.log.events_left.Given as goal

abbrev pub invariant-events : goal.invariant-events
invariant-events g l = (entries : List Entry) → HasLeft l.from entries → Found l.log l.views.items entries

abbrev pub decreases-events : goal.decreases-events
decreases-events g l = length l.log.bytes.now - l.log.offset
