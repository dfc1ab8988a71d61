use Rattle.std.proofs.Common.{[], ◌∷◌, ◌++◌}
use Rattle.std.specs.Fmt.{IsPlainFormatter}
use Rattle.uefi_path.specs.Views.{node_of, nodes_left}
use Rattle.uefi_path_text.proofs.PathTexts.{WritesUpTo}
use Rattle.uefi_path_text.proofs.text.path_text.write_nodes.Given as goal

abbrev pub invariant-loop-node : goal.invariant-loop-node
invariant-loop-node g l =
    IsPlainFormatter l.initial.f → WritesUpTo g.W.Write.write_str_gives l.initial.f l.style
    (nodes_left l.fn.nodes ++ (node_of l.end ∷ [])) l.is_first (nodes_left l.node-iterator ++ (node_of l.end ∷ [])) l.f
