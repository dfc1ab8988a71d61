use Rattle.std.proofs.Common.{◌++◌, take}
use Rattle.std.specs.Fmt.{decimal}
use Rattle.std.specs.Prelude.{codes, flat_map}
use Rattle.uefi_base.specs.Appending.{AppendsText}
use Rattle.audit_text.proofs.text.uncompared.push_others.Given as goal

-- The PCRs so far were appended.
abbrev pub invariant-loop-pcr : goal.invariant-loop-pcr
invariant-loop-pcr g l =
    AppendsText l.initial.messages l.messages (flat_map (λ other. codes ", " ++ decimal other) (take l.pcr-index l.pcrs))
