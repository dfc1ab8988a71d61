-- Signatures of partitions (UEFI 2.10, 10.3.5.1).
use Rattle.std.specs.Prelude.{ℕ, Bool, true, not, ◌==◌, ◌&&◌, ◌||◌, List, [], ◌∷◌, ◌++◌, drop}
use Rattle.std.specs.List.{list_all}
use Rattle.uefi_node.specs.declared.media.partition_signature.PartitionSignature.{PartitionSignature}
use Rattle.uefi_node.specs.declared.media.partition_signature.PartitionSignature.TheVariants.{None, Mbr, Guid, Unknown}

-- All bytes are zero.
abbrev pub are_zero : List ℕ → Bool
are_zero bytes = list_all (λ byte. byte == 0) bytes

-- Four zero bytes.
abbrev pub four_zeros : List ℕ
four_zeros = 0 ∷ 0 ∷ 0 ∷ 0 ∷ []

-- The type of a signature: none, of a master boot record, or a GUID.
abbrev pub type_of_signature : PartitionSignature → ℕ
type_of_signature None = 0
type_of_signature (Mbr bytes) = 1
type_of_signature (Guid guid) = 2
type_of_signature (Unknown kind bytes) = kind

-- Its 16 bytes.
abbrev pub signature_bytes : PartitionSignature → List ℕ
signature_bytes None = four_zeros ++ four_zeros ++ four_zeros ++ four_zeros
signature_bytes (Mbr bytes) = bytes ++ (four_zeros ++ four_zeros ++ four_zeros)
signature_bytes (Guid guid) = guid.0
signature_bytes (Unknown kind bytes) = bytes

-- A signature of this type and these bytes is defined by the standard.
abbrev pub is_defined : ℕ → List ℕ → Bool
is_defined kind bytes = (kind == 0 && are_zero bytes) || (kind == 1 && are_zero (drop 4 bytes)) || kind == 2

-- An unknown signature is one that the standard doesn't define.
abbrev pub is_signature : PartitionSignature → Bool
is_signature None = true
is_signature (Mbr bytes) = true
is_signature (Guid guid) = true
is_signature (Unknown kind bytes) = not (is_defined kind bytes)
