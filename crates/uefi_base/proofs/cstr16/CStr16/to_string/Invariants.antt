use Rattle.std.proofs.Common.{◌≡◌, take, encode_utf8_all, string_bytes}
use Rattle.uefi_base.proofs.cstr16.CStr16.to_string.Given as goal

abbrev pub invariant-loop-unit : goal.invariant-loop-unit
invariant-loop-unit g l = string_bytes l.text ≡ encode_utf8_all (take l.unit-index l.unit-items)
