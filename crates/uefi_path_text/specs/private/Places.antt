-- Where an error of a text is.
use Rattle.std.specs.Prelude.{ℕ, ◌≡◌, ◌≤◌, ◌+◌}
use Rattle.uefi_path_text.specs.declared.parse.error.FromTextError.{FromTextError}
use Rattle.uefi_path_text.specs.declared.parse.error.FromTextError.TheVariants.{UnknownNode, Argument, Missing, TooLong, Buffer, Memory}

-- The error is one of the text, at the offset.
abbrev pub IsAt : ℕ → FromTextError → Type 0
IsAt n (UnknownNode offset) = offset ≡ n
IsAt n (Argument offset) = offset ≡ n
IsAt n (Missing offset) = offset ≡ n
IsAt n (TooLong offset) = offset ≡ n
IsAt n (Buffer needed) = ⊥
IsAt n Memory = ⊥

-- The same, within so many bytes from the offset on.
abbrev pub IsFrom : ℕ → ℕ → FromTextError → Type 0
IsFrom n long (UnknownNode offset) = (n ≤ offset) × (offset ≤ n + long)
IsFrom n long (Argument offset) = (n ≤ offset) × (offset ≤ n + long)
IsFrom n long (Missing offset) = (n ≤ offset) × (offset ≤ n + long)
IsFrom n long (TooLong offset) = (n ≤ offset) × (offset ≤ n + long)
IsFrom n long (Buffer needed) = ⊥
IsFrom n long Memory = ⊥
