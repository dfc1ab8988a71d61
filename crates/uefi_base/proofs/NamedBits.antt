-- Sets of flags whose members all have a name.
use Rattle.std.proofs.Common.{◌≡◌, ℕ, arith}
use Rattle.std.specs.Prelude.{◌↔◌, IsTrue}
use Rattle.std.specs.Int.RustNames.{bit_and}
use Rattle.std.proofs.lemmas.Nat.{and_comm}
use Rattle.uefi_base.specs.Flags.{has_bits}

-- Removing the bits without a name leaves a set unchanged exactly if the named bits contain it.
pub named_bits : (bits named : ℕ) → (bit_and bits named ≡ bits) ↔ IsTrue (has_bits named bits)
named_bits bits named = (
  λ stays. grind (arith, stays, and_comm bits named),
  λ has. grind (arith, has, and_comm bits named),
)
