-- The worked rows hold.
use Rattle.std.proofs.Common.{rules, ℕ, List, [], ◌∷◌, refl, arith}
use Rattle.uefi_path.specs.Node.{IsEndEntire}
use Rattle.uefi_path.specs.Path.{HasPath}
use Rattle.uefi_path.specs.rows.Paths.{node, TwoInstances}
use Rattle.uefi_path.specs.rows.Paths.{AnyEnd, EndWithData, NoPath, Nodes, TypeNumbers, SubTypeNumbers, RowsHold}
use Rattle.uefi_path.proofs.Decide.{StatesNode, node_states}
use Rattle.uefi_path.proofs.Passing.{HasNodes-after}
use Rattle.uefi_path.proofs.Steps.{HasNodes-node}

two_instances : TwoInstances
two_instances = search rules

any_end : AnyEnd
any_end = search rules

end_with_data : EndWithData
end_with_data = record {
  path = search rules;
  prefix = (0xcc ∷ [], refl);
  instances = search rules;
  nodes = refl;
}

-- What bytes that start with a path state of its first node.
path_states : (bytes : List ℕ) → HasPath bytes → StatesNode bytes
path_states bytes has = node_states bytes (HasNodes-node IsEndEntire bytes has)

no_path : NoPath
no_path = record {
  empty = λ has. absurd (omega (arith, (path_states [] has).0));
  short = λ has. absurd (omega (arith, (path_states (0xa0 ∷ 0xb0 ∷ 3 ∷ 0 ∷ []) has).1.0));
  long = λ has. absurd (omega (arith, (path_states (0xa0 ∷ 0xb0 ∷ 0xff ∷ 0xff ∷ []) has).1.1));
  endless = λ has.
      let after = HasNodes-after IsEndEntire (0xa0 ∷ 0xb0 ∷ 6 ∷ 0 ∷ 0x0a ∷ 0x0b ∷ []) []
      (node 0xa0 0xb0 (0x0a ∷ 0x0b ∷ [])) has (search rules) (λ e. absurd (omega (arith, e.0))) refl in
      absurd (omega (arith, (path_states [] after).0));
}

nodes : Nodes
nodes = record {
  fits = search rules;
  prefix = ([], refl);
  long = λ has. absurd (omega (arith, (node_states (0xa0 ∷ 0xb0 ∷ 7 ∷ 0 ∷ 0x0a ∷ 0x0b ∷ []) has).1.1));
  short = λ has. absurd (omega (arith, (node_states (0xa0 ∷ 0xb0 ∷ 3 ∷ 0 ∷ 0x0a ∷ 0x0b ∷ []) has).1.0));
}

type_numbers : TypeNumbers
type_numbers = assumption

sub_type_numbers : SubTypeNumbers
sub_type_numbers = assumption

pub rows_hold : RowsHold
rows_hold = (two_instances, any_end, end_with_data, no_path, nodes, type_numbers, sub_type_numbers)
