-- Nodes of a type and its values correspond.
use Rattle.std.proofs.Common.{refl, Ok, Err}
use Rattle.std.specs.Prelude.{Result}
use Rattle.std.specs.Result.{IsOkAnd}
use Rattle.uefi_node.specs.Layout.{Layout, FitsLayout, node_as}
use Rattle.uefi_node.specs.Reading.{ReadsAs}
use Rattle.uefi_node.specs.Laws.{IsFaithful, SameValue}
use Rattle.uefi_node.specs.declared.error.NodeConversionError.{NodeConversionError}
use Rattle.uefi_node.proofs.Layouts.{one_value}

reads_back : {R : Type 0} (l : Layout R) (r : R) (read : Result R NodeConversionError) → FitsLayout l r
    → ReadsAs l (node_as l r) read → IsOkAnd read (SameValue l r)
reads_back l r (Ok other) fits is = one_value l r other fits is.ok.0 is.ok.1
reads_back l r (Err error) fits is = is.none r (fits, refl)

pub faithful : {R : Type 0} (l : Layout R) → IsFaithful l
faithful l = record { one_value = one_value l; reads_back = reads_back l }
