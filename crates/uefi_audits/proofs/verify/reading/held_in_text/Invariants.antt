use Rattle.std.proofs.Common.{◌≤◌, length}
use Rattle.uefi_audits.specs.verify.Reading.{BeginsWith}
use Rattle.uefi_audits.specs.private.verify.Views.{stated_of}
use Rattle.uefi_audits.proofs.verify.reading.held_in_text.Given as goal

-- The text so far states what was read.
abbrev pub invariant-loop-rest : goal.invariant-loop-rest
invariant-loop-rest g l = record {
  within : length l.rest ≤ length l.text;
  reads : BeginsWith l.text (stated_of l.held l.section) l.rest;
}

abbrev pub decreases-loop-rest : goal.decreases-loop-rest
decreases-loop-rest g l = length l.rest
