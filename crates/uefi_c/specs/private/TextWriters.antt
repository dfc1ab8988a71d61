-- What writers of text do, for private contracts alone.
use Rattle.std.specs.Prelude.{ℕ, ◌≡◌, ◌+◌, ◌≤◌, List, length}
use Rattle.uefi_base.specs.Buffer.{put_at}
use Rattle.uefi_c.specs.declared.text_writer.Count.{Count}
use Rattle.uefi_c.specs.declared.text_writer.Fill.{Fill}

-- A text is counted.
abbrev pub Counts : Count → List ℕ → Count → Type 0
Counts old text new = new.length ≡ old.length + length text

-- A text is put after those before it.
pub record Fills (old : Fill) (text : List ℕ) (new : Fill) : Type 0 where
  pub room : old.length + length text ≤ length old.buffer.now
  pub put : new.buffer.now ≡ put_at old.length text old.buffer.now
  pub length : new.length ≡ old.length + length text
  pub same_buffer : new.buffer.ghost_name ≡ old.buffer.ghost_name
