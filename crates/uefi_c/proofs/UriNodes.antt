-- Nodes of URIs.
use Rattle.std.proofs.Common.{List, ℕ, refl}
use Rattle.std.specs.Borrow.{Bor}
use Rattle.uefi_node.specs.Layout.{IsNodeAs, value_bytes}
use Rattle.uefi_node.specs.Messaging.{uri}
use Rattle.uefi_c.specs.private.Nodes.{HasNumbers}

-- A node with the numbers of a URI is that of its data.
pub uri_read : (t s : ℕ) (bytes : Bor (List ℕ)) → HasNumbers 3 24 (record { device_type = t; sub_type = s; payload = bytes.now })
    → IsNodeAs uri (record { value = bytes }) (record { device_type = t; sub_type = s; payload = bytes.now })
unfolding value_bytes
uri_read t s bytes (same_type, same_sub_type) = (
  record { fields = tt; rest = tt; value = refl; form = tt },
  λ i. record { device_type = same_type i; sub_type = same_sub_type i; payload = bytes.now },
)
