use Rattle.std.proofs.Common.{◌≡◌, map, take}
use Rattle.uefi_tcg.specs.v2.Views.{table_of}
use Rattle.audit_text.specs.parts.Contents.{size_parts}
use Rattle.audit_text.specs.parts.Part.{object}
use Rattle.audit_text.specs.private.PartViews.{value_of}
use Rattle.audit_text.proofs.parts.firmware.size_values.Given as goal

-- The values of the rows so far.
abbrev pub invariant-loop-index : goal.invariant-loop-index
invariant-loop-index l = map value_of l.values.items ≡ map (λ row. object (size_parts row)) (take l.index (table_of l.sizes))
