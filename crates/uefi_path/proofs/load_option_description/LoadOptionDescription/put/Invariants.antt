use Rattle.std.proofs.Common.{◌≡◌, take}
use Rattle.uefi_base.specs.Buffer.{put_at}
use Rattle.uefi_base.specs.Unaligned.{unit_bytes}
use Rattle.uefi_path.specs.LoadOptionParts.{description_units}
use Rattle.uefi_path.proofs.load_option_description.LoadOptionDescription.put.Given as goal

abbrev pub invariant-loop-i : goal.invariant-loop-i
invariant-loop-i l =
    l.buffer ≡ put_at l.offset (unit_bytes (take l.i (description_units l.self))) l.initial.buffer
