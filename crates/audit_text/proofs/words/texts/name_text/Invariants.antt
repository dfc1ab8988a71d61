use Rattle.std.proofs.Common.{◌≡◌, ◌++◌, string_bytes}
use Rattle.std.specs.List.{flat_map}
use Rattle.uefi_base.specs.Views.{units_left}
use Rattle.audit_text.specs.words.Texts.{unit_text}
use Rattle.audit_text.proofs.words.texts.name_text.Given as goal

-- The text so far and that of the units to come are the text of all.
abbrev pub invariant-loop-unit : goal.invariant-loop-unit
invariant-loop-unit l = string_bytes l.text ++ flat_map unit_text (units_left l.unit-iterator)
    ≡ flat_map unit_text (units_left l.initial.unit-iterator)
