-- What the readers and writers of nodes share.
use Rattle.std.specs.Prelude.{ℕ, ◌≡◌, ◌≢◌, ◌⊎◌, ◌↔◌, ◌<◌, ◌==◌, if◌then◌else◌, List, [], ◌∷◌, length, Option, Some, None}
use Rattle.uefi_base.specs.Buffer.{put_prefix}
use Rattle.uefi_path.specs.Node.{Node, encoding}
use Rattle.uefi_path.specs.build.Writing.{greatest_length}
use Rattle.uefi_node.specs.Hardware.{vendor as hardware_vendor}
use Rattle.uefi_node.specs.Messaging.{vendor as messaging_vendor}
use Rattle.uefi_node.specs.Media.{vendor as media_vendor}
use Rattle.uefi_c.specs.PathWrite.{IsNeeded}
use Rattle.uefi_c.specs.Status.{buffer_too_small, IsOneOf, ok, too_long}

-- The node has the type and the subtype.
abbrev pub HasNumbers : ℕ → ℕ → Node → Type 0
HasNumbers device_type sub_type node = (node.device_type ≡ device_type) × (node.sub_type ≡ sub_type)

-- The node has the type, the subtype, and so many bytes of data.
pub record HasFields (device_type sub_type size : ℕ) (node : Node) : Type 0 where
  pub numbers : HasNumbers device_type sub_type node
  pub sized : length node.payload ≡ size

-- The subtype of what vendors describe, by the type.
abbrev pub vendor_sub_type : ℕ → Option ℕ
vendor_sub_type device_type =
    if device_type == hardware_vendor.device_type then Some hardware_vendor.sub_type
    else (if device_type == messaging_vendor.device_type then Some messaging_vendor.sub_type
    else (if device_type == media_vendor.device_type then Some media_vendor.sub_type else None))

-- What is returned of a node that is written, and what the buffer holds then.
pub record Writes (node : Node) (old new : List ℕ) (status size : ℕ) : Type 0 where
  pub known : IsOneOf status (ok ∷ buffer_too_small ∷ too_long ∷ [])
  pub long : (status ≡ too_long) ↔ (greatest_length < length (encoding node))
  pub written : status ≡ ok → new ≡ put_prefix (encoding node) old
  pub needed : (status ≡ ok) ⊎ (status ≡ buffer_too_small) → IsNeeded (length (encoding node)) (length old) size status
  pub none : status ≡ too_long → size ≡ 0
  pub unchanged : status ≢ ok → new ≡ old
