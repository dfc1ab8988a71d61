-- The number at an index of an order of boot options.
use Rattle.std.proofs.Common.{◌≡◌, ℕ, List, Some, None}
use Rattle.std.specs.Prelude.{slice_get}
use Rattle.tcg_event.specs.BootOrder.{ReadsBootOrder}
use Rattle.tcg_event.specs.Reading.{Reads}
use Rattle.uefi_c.specs.EventData.{HasNumber, HasNoNumber, IsNoOrder}

pub no_order : (bytes : List ℕ) → ReadsBootOrder bytes None → IsNoOrder bytes
unfolding Reads
no_order bytes reads = reads

pub has_number : (bytes : List ℕ) (index : ℕ) (order : List ℕ) (number : ℕ) → ReadsBootOrder bytes (Some order)
    → slice_get order index ≡ Some number → HasNumber bytes index number
unfolding Reads
has_number bytes index order number reads is = (order, reads.0, reads.1, is)

pub no_number : (bytes : List ℕ) (index : ℕ) (order : List ℕ) → ReadsBootOrder bytes (Some order)
    → slice_get order index ≡ None → HasNoNumber bytes index
unfolding Reads
no_number bytes index order reads is = (order, reads.0, reads.1, is)
