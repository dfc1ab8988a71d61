-- Nodes of the paths of files.
use Rattle.std.proofs.Common.{◌≡◌, ◌↔◌, ◌-◌, ◌%◌, ℕ, List, length, refl, ap, arith, ◌∙◌, sym, subst, true, false}
use Rattle.std.specs.Prelude.{Option, Some, None, IsSome, IfSome}
use Rattle.uefi_base.specs.LittleEndian.{AreBytes}
use Rattle.uefi_base.specs.Unaligned.{units_of}
use Rattle.uefi_base.specs.Views.{slice_units}
use Rattle.uefi_base.specs.declared.unaligned.UnalignedSlice.{UnalignedSlice}
use Rattle.uefi_path.specs.Node.{Node}
use Rattle.uefi_node.specs.Media.{file_path}
use Rattle.uefi_node.proofs.Layouts.{value_sized}
use Rattle.uefi_c.specs.Nodes.{IsOfType, file_path_of}
use Rattle.uefi_c.specs.private.Nodes.{HasNumbers}
use Rattle.uefi_c.specs.Status.{ok, other_data}
use Rattle.uefi_c.proofs.NodesRead.{not_found, numbers_found, value_found}

-- The data of such a node are units.
even : (name : List ℕ) → IsOfType file_path (file_path_of name) → length name % 2 ≡ 0
even name (r, (fits, is)) =
    let sized = value_sized file_path r name fits (ap (λ n. n.payload) is) in
    let whole : length name - 0 ≡ length name = omega arith in
    ap (λ n. n % 2) (sym whole) ∙ sized.1

-- Units are the data of such a node.
pub units_found : (name : List ℕ) (found : Option UnalignedSlice) → AreBytes name
    → IfSome found (λ slice. slice_units slice ≡ units_of name) → IsSome found ↔ (length name % 2 ≡ 0)
    → IsSome found ↔ IsOfType file_path (file_path_of name)
units_found name (Some slice) each units whole =
    let length_is : length name - 0 ≡ length name = omega arith in
    let value = value_found file_path (record { path_name = slice }) (file_path_of name) name refl each (refl, refl)
    (omega arith, ap (λ n. n % 2) length_is ∙ whole.0 refl)
    (record { fields = tt; rest = units; value = refl; form = tt }) in
    (λ _. (record { path_name = slice }, value), λ _. refl)
units_found name None each units whole = (λ some. absurd cc, λ of. whole.1 (even name of))

-- A node with the numbers of such a node is that of its data.
of_data : (node : Node) → HasNumbers 4 4 node → node ≡ file_path_of node.payload
of_data node (same_type, same_sub_type) =
    λ i. record { device_type = same_type i; sub_type = same_sub_type i; payload = node.payload }

pub path_found : (node : Node) → HasNumbers 4 4 node → IsOfType file_path (file_path_of node.payload)
    → (ok ≡ ok) ↔ IsOfType file_path node
path_found node numbers of = (λ _. subst (IsOfType file_path) (sym (of_data node numbers)) of, λ _. refl)

-- Without the numbers, or without units, it is none.
pub other_numbers : (node : Node) → (HasNumbers 4 4 node → false ≡ true) → (other_data ≡ ok) ↔ IsOfType file_path node
other_numbers node none = not_found file_path node (λ of. none (numbers_found file_path node of))

pub other_units : (node : Node) → HasNumbers 4 4 node → (IsOfType file_path (file_path_of node.payload) → false ≡ true)
    → (other_data ≡ ok) ↔ IsOfType file_path node
other_units node numbers none =
    not_found file_path node (λ of. none (subst (IsOfType file_path) (of_data node numbers) of))
