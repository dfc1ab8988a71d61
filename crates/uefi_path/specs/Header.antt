-- Headers of nodes (UEFI 2.10, 10.2 "EFI_DEVICE_PATH_PROTOCOL").
use Rattle.std.specs.Prelude.{ℕ, ◌<◌, List, ◌∷◌, length, IfOk, OnErr, Result}
use Rattle.std.specs.Int.{w16, to_le_bytes}
use Rattle.uefi_base.specs.Prefix.{IsPrefix}

-- The length of a header: a byte for the type, one for the subtype, and two for the length of the whole node.
abbrev pub header_length : ℕ
header_length = 4

-- A header: type, subtype and the stated length of the whole node.
pub record Header : Type 0 where
  pub device_type : ℕ
  pub sub_type : ℕ
  pub length : ℕ

-- The header with these fields.
abbrev pub header : ℕ → ℕ → ℕ → Header
header device_type sub_type length = record { device_type = device_type; sub_type = sub_type; length = length }

-- The bytes of a header: type, subtype, and the length in two bytes, little-endian.
abbrev pub header_bytes : Header → List ℕ
header_bytes h = h.device_type ∷ h.sub_type ∷ to_le_bytes w16 h.length

-- At Ok, the header in the first four bytes, whatever length it states; at Err, there are fewer bytes.
pub record ReadsHeader {V E : Type 0} (header_of : V → Header) (bytes : List ℕ) (read : Result V E) : Type 0 where
  pub ok : IfOk read (λ view. IsPrefix (header_bytes (header_of view)) bytes)
  pub err : OnErr read (length bytes < header_length)
