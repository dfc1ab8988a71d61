use Rattle.std.proofs.Common.{◌≡◌, length}
use Rattle.std.specs.Str.{chars}
use Rattle.uefi_base.proofs.Comparing.{AgreeTo}
use Rattle.uefi_base.proofs.cstr16.are_characters.Given as goal

abbrev pub invariant-loop-character : goal.invariant-loop-character
invariant-loop-character l = record {
  agree : AgreeTo l.units (chars l.fn.text) l.index;
  counted : l.index ≡ length l.yielded;
}
