use Rattle.uefi_c.proofs.TextsWritten.{text_filled}
use Rattle.std.proofs.Common.{refl}
use Rattle.uefi_c.proofs.text_writer.fill_text.Goals as goal

-- src/text_writer.rt:73:1
pub returns : goal.returns
returns g c = text_filled _ _ _ _ refl (search) (c.in_ok-write_fmt.ensures.writes)
