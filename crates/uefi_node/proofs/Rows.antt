-- The worked rows hold, by computing.
use Rattle.std.proofs.Common.{refl}
use Rattle.uefi_node.specs.Layout.{value_bytes}
use Rattle.uefi_node.specs.rows.Nodes.{RowsHold}

pub rows_hold : RowsHold
unfolding value_bytes
rows_hold = refl
