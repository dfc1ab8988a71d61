use Rattle.std.proofs.Common.{◌≡◌, ◌++◌, map}
use Rattle.tcg_event.specs.SignatureViews.{signatures_left}
use Rattle.audit_text.specs.parts.Contents.{signature_parts}
use Rattle.audit_text.specs.parts.Part.{object}
use Rattle.audit_text.specs.private.PartViews.{value_of}
use Rattle.audit_text.proofs.parts.signatures.list_parts.Given as goal

-- The values so far and those of the signatures to come are those of all.
abbrev pub invariant-loop-signature : goal.invariant-loop-signature
invariant-loop-signature l = map value_of l.signatures.items ++ map (λ it. object (signature_parts it)) (signatures_left l.signature-iterator)
    ≡ map (λ it. object (signature_parts it)) (signatures_left l.initial.signature-iterator)
