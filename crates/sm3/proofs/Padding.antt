-- The padding ends a block.
use Rattle.std.proofs.Common.{◌≡◌, ℕ, ◌+◌, ◌*◌, ◌^◌, ◌%◌, ◌∷◌, List, length, replicate, refl, arith, length-append}
use Rattle.std.proofs.lemmas.List.{length-replicate}
use Rattle.std.specs.Int.{to_be_bytes, w64}
use Rattle.sm3.specs.Laws.{PadsToBlocks}
use Rattle.sm3.specs.Sm3.{padded, padding, zero_count}

length-padded : (m : List ℕ) → length (padded m) ≡ length m + (zero_count (length m) + 9)
length-padded m =
    let zeros : List ℕ = replicate (zero_count (length m)) 0 in
    let bits : List ℕ = to_be_bytes w64 (length m * 8 % 2 ^ 64) in
    let eight : length bits ≡ 8 = refl in
    let zeros_length : length zeros ≡ zero_count (length m) = length-replicate (zero_count (length m)) 0 in
    omega (arith, eight, zeros_length, length-append m (padding (length m)), length-append (0x80 ∷ zeros) bits)

pub pads_to_blocks : PadsToBlocks
pads_to_blocks = record {
  leaves_eight = λ n. omega arith;
  fewest = λ n zeros end. omega arith;
  whole = λ m. omega (arith, length-padded m);
}
