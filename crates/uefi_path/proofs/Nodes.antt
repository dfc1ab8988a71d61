-- The header and the node that bytes start with.
use Rattle.std.proofs.Common.{◌≡◌, ℕ, ◌+◌, ◌-◌, ◌*◌, ◌<◌, ◌≤◌, List, [], ◌∷◌, ◌++◌, length, take, drop, get_or, sym}
use Rattle.std.proofs.Common.{◌∙◌, ap, arith}
use Rattle.std.proofs.lemmas.Grind.{common_steps}
use Rattle.std.proofs.lemmas.List.{length-take-le, take_at}
use Rattle.std.proofs.Math.Seq.{take-append-add}
use Rattle.uefi_path.specs.Node.{encoding, HasNode}
use Rattle.uefi_base.specs.LittleEndian.{u16_at, u16_bytes}
use Rattle.uefi_base.specs.Prefix.{IsPrefix}
use Rattle.uefi_base.proofs.NumbersBack.{two_bytes}
use Rattle.uefi_base.proofs.Ranges.{items_from, drop-items_from}
use Rattle.uefi_path.specs.declared.header.TheConstants.{LENGTH_OFFSET}
use Rattle.uefi_path.specs.Header.{header, header_bytes, header_length}
use Rattle.uefi_path.specs.private.OneNode.{stated_length}
use Rattle.uefi_path.specs.private.Encoding.{EncodesNode}

-- The first four bytes are a header.
pub header_prefix : (bytes : List ℕ) (n : ℕ) → ((i : ℕ) → get_or bytes i 0 < 256) → 4 ≤ length bytes
    → n ≡ get_or bytes 2 0 + get_or bytes 3 0 * 256
    → IsPrefix (header_bytes (header (get_or bytes 0 0) (get_or bytes 1 0) n)) bytes
unfolding items_from
header_prefix bytes n small enough made =
    let two : u16_bytes n ≡ get_or bytes 2 0 ∷ get_or bytes 3 0 ∷ [] =
    two_bytes (get_or bytes 2 0) (get_or bytes 3 0) n (small 2) (small 3) made in (
      drop 4 bytes,
      drop-items_from 0 4 4 bytes (omega arith) enough
          ∙ ap (λ s. get_or bytes 0 0 ∷ get_or bytes 1 0 ∷ s ++ drop 4 bytes) (sym two),
    )

-- The length is the number in bytes 2 and 3.
pub two_bytes_of_length : (bytes : List ℕ) → u16_at bytes LENGTH_OFFSET ≡ get_or bytes 2 0 + get_or bytes 3 0 * 256
two_bytes_of_length bytes = grind (arith, common_steps)

-- A prefix with the length that its header states encodes a node.
pub node_prefix : (bytes : List ℕ) (t u n : ℕ) → ((i : ℕ) → get_or bytes i 0 < 256)
    → IsPrefix (header_bytes (header t u n)) bytes → 4 ≤ n → n ≤ length bytes → n < 65536
    → EncodesNode (take n bytes)
node_prefix bytes t u n small prefix whole_header within fits =
    let bytes_of_header = header_bytes (header t u n) in
    let payload = take (n - 4) prefix.0 in
    let sized : length payload ≡ n - 4 = length-take-le (n - 4) prefix.0 (omega (arith, ap length prefix.1)) in
    let stated : n ≡ 4 + length payload = omega (arith, sized) in
    let cut : n ≡ length bytes_of_header + (n - 4) = omega arith in (
      record { device_type = t; sub_type = u; payload = payload },
      record {
        fits = record {
          device_type = rw prefix.1 at (small 0);
          sub_type = rw prefix.1 at (small 1);
          payload = omega (arith, sized);
        };
        encoded =
            ap (take n) prefix.1 ∙ ap (λ k. take k (bytes_of_header ++ prefix.0)) cut
            ∙ take-append-add bytes_of_header prefix.0 (n - 4)
            ∙ ap (λ k. header_bytes (header t u k) ++ payload) stated;
      },
    )

-- If bytes start with a node, the prefix with the length that they state encodes it.
pub stated_prefix : (bytes : List ℕ) (n : ℕ) → HasNode bytes → n ≡ u16_at bytes LENGTH_OFFSET
    → EncodesNode (take n bytes)
stated_prefix bytes n has made =
    let node = has.0 in
    let rest = has.2.0 in
    let stated : u16_at bytes LENGTH_OFFSET ≡ header_length + length node.payload =
    ap (λ b. u16_at b LENGTH_OFFSET) has.2.1 ∙ stated_length node has.1 in
    let whole : n ≡ length (encoding node) = omega (arith, made, stated) in (
      node,
      record {
        fits = has.1;
        encoded = ap (take n) has.2.1 ∙ take_at (encoding node) rest n (sym whole);
      },
    )
