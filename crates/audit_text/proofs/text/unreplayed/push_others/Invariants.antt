use Rattle.std.proofs.Common.{◌++◌, take}
use Rattle.std.specs.Prelude.{codes, flat_map}
use Rattle.uefi_base.specs.Appending.{AppendsText}
use Rattle.audit_text.specs.words.Numbers.{hex_text}
use Rattle.audit_text.proofs.text.unreplayed.push_others.Given as goal

-- The algorithms so far were appended.
abbrev pub invariant-loop-algorithm : goal.invariant-loop-algorithm
invariant-loop-algorithm l =
    AppendsText l.initial.messages l.messages (flat_map (λ other. codes ", " ++ hex_text other) (take l.algorithm-index l.algorithms))
