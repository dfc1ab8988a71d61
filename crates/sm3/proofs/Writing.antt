-- The bytes of a value, written word after word.
use Rattle.std.proofs.Common.{◌≡◌, ℕ, ◌+◌, ◌*◌, ◌<◌, ◌≤◌, List, ◌∷◌, [], length, take, slice_index, refl, ap, ◌∙◌, arith}
use Rattle.std.proofs.lemmas.Grind.{flat_map-append}
use Rattle.std.proofs.lemmas.List.{append-nil, take_more}
use Rattle.std.proofs.lemmas.Slice.{take-put_mid}
use Rattle.std.specs.Int.{to_be_bytes, w32}
use Rattle.std.specs.List.{flat_map}
use borrow.Rule.Slice.PartMut.{put_mid}

-- A word written after the bytes of those before it.
pub take_more_bytes : (value bytes word : List ℕ) (i k : ℕ) → i < length value → 4 * i + 4 ≤ length bytes
    → take (4 * i) bytes ≡ flat_map (to_be_bytes w32) (take i value) → word ≡ to_be_bytes w32 (slice_index value i)
    → take (4 * (i + 1)) (put_mid (4 * i) k bytes word) ≡ flat_map (to_be_bytes w32) (take (i + 1) value)
take_more_bytes value bytes word i k within room written is =
    let four : length (to_be_bytes w32 (slice_index value i)) ≡ 4 = refl in
    let size : length word ≡ 4 = ap length is ∙ four in
    rw (
      take-put_mid (4 * i) k bytes word (4 * (i + 1)) (omega arith) (omega arith),
      take_more value i 0 within,
      flat_map-append (to_be_bytes w32) (take i value) (slice_index value i ∷ []),
      written,
      is,
      append-nil (to_be_bytes w32 (slice_index value i)),
    )
    refl
