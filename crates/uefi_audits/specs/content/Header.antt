-- The header of a log in the data of an event.
use Rattle.std.specs.Prelude.{ℕ, ◌<◌, ◌^◌, List, length, Option, Some, None}
use Rattle.uefi_base.specs.Prefix.{IsPrefix}
use Rattle.uefi_tcg.specs.v2.Header.{Header, IsHeader, header_bytes}

-- The data, of as many bytes as an event may have, begin with this header.
pub record BeginsWithHeader (bytes : List ℕ) (header : Header) : Type 0 where
  pub length : length bytes < 2 ^ 32
  pub is_header : IsHeader header
  pub begins : IsPrefix (header_bytes header) bytes

-- They begin with this header, or with none.
unfoldable pub ReadsHeader : List ℕ → Option Header → Type 0
ReadsHeader bytes (Some header) = BeginsWithHeader bytes header
ReadsHeader bytes None = (header : Header) → BeginsWithHeader bytes header → ⊥
