-- What the parts of the code stand for.
use Rattle.std.specs.Prelude.{◌≡◌, ⊤, List, map, option_map, string_bytes, IfOk, Result, Vec}
use Rattle.std.specs.declared.alloc.AllocError.{AllocError}
use Rattle.std.specs.declared.alloc.Global.{Global}
use Rattle.audit_text.specs.declared.parts.part.Part.{Part}
use Rattle.audit_text.specs.declared.parts.part.PartValue.{PartValue}
use Rattle.audit_text.specs.declared.parts.part.PartValue.TheOpen.{Part-F, PartValue-F}
use Rattle.audit_text.specs.declared.parts.part.PartValue.TheFolds.{fold-Part, fold-PartValue}
use Rattle.audit_text.specs.parts.Part as parts

-- One level, with the parts and the values inside already seen as these.
abbrev pub value_step : PartValue-F parts.Value parts.Part → parts.Value
value_step PartValue-F.Empty = parts.empty
value_step (PartValue-F.Decimal n) = parts.decimal n
value_step (PartValue-F.Hexadecimal n) = parts.hexadecimal n
value_step (PartValue-F.BootNumber n) = parts.boot_number n
value_step (PartValue-F.Guid guid) = parts.guid guid.0
value_step (PartValue-F.Text text) = parts.text (string_bytes text)
value_step (PartValue-F.Plain text) = parts.plain (string_bytes text)
value_step (PartValue-F.Bytes bytes) = parts.bytes bytes.now
value_step (PartValue-F.Object inner) = parts.object inner.items
value_step (PartValue-F.List values) = parts.list values.items

abbrev pub part_step : Part-F parts.Value parts.Part → parts.Part
part_step it =
    record { key = option_map (λ key. key.now) it.key; words = option_map (λ words. words.now) it.words; value = it.value }

-- A value, and a part.
abbrev pub value_of : PartValue → parts.Value
value_of = fold-PartValue parts.Value parts.Part value_step part_step

abbrev pub part_of : Part → parts.Part
part_of = fold-Part parts.Value parts.Part value_step part_step

-- Parts that the code returns are these, unless an allocation fails.
abbrev pub AreParts : Result (Vec Part Global) AllocError → List parts.Part → Type 0
AreParts result them = IfOk result (λ it. map part_of it.items ≡ them)

-- All values but `guid`, and all, for proofs that unfold them.
unfoldable pub most_values : ⊤
unfolding parts.empty parts.decimal parts.hexadecimal parts.boot_number parts.plain parts.text parts.bytes parts.object parts.list
most_values = tt

unfoldable pub values : ⊤
unfolding most_values parts.guid
values = tt
