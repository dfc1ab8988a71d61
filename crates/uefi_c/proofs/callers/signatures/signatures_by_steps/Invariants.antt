use Rattle.std.proofs.Common.{◌-◌, length}
use Rattle.tcg_event.specs.Signature.{HasSize, signature_bytes}
use Rattle.uefi_c.specs.Signatures.{signature_seen}
use Rattle.uefi_c.proofs.WalkSteps.{Passed}
use Rattle.uefi_c.proofs.callers.signatures.signatures_by_steps.Given as goal

abbrev pub invariant-loop-signature : goal.invariant-loop-signature
invariant-loop-signature g l = Passed signature_seen (HasSize l.signature_size) signature_bytes l.signatures l.offset l.views.items

abbrev pub decreases-loop-signature : goal.decreases-loop-signature
decreases-loop-signature g l = length l.signatures - l.offset
