-- Sets of flags: numbers whose bits are the members.
use Rattle.std.specs.Prelude.{ℕ, Bool, ◌==◌}
use Rattle.std.specs.Int.RustNames.{bit_and}

-- Whether each bit that is set in the second number is set in the first.
abbrev pub has_bits : ℕ → ℕ → Bool
has_bits whole bits = bit_and whole bits == bits
