use Rattle.std.proofs.Common.{[], ◌∷◌, ◌++◌, rules}
use Rattle.std.proofs.lemmas.Result.{MatchResult-from_err}
use Rattle.uefi_path.specs.private.Encoding.{IsEncodingBefore}
use Rattle.uefi_path.specs.build.Views.{vec_built_nodes}
use Rattle.uefi_path.proofs.Building.{IsEncodingBefore-push, appended_or_not, still_encoded, these_nodes}
use Rattle.uefi_path.proofs.build.vec_builder.DevicePathVecBuilder.push_node.Goals as goal

pub invariant_of-self : goal.invariant_of-self
invariant_of-self g c =
    let builder = c.args.self.now in
    let appended = c.append_node.ensures in
    record {
      nodes = appended_or_not (g.N.BuildNode.is_valid c.args.node.now) c.append_node.result builder.bytes.items c.append_node.new.bytes.items
          (vec_built_nodes builder) (g.N.BuildNode.node c.args.node.now) builder.nodes.1 appended.valid
          appended.accepted appended.appended appended.unchanged;
    }

pub returns-in_err-append_node-clause-same_nodes : goal.returns-in_err-append_node-clause-same_nodes
returns-in_err-append_node-clause-same_nodes g c =
    let builder = c.args.self.now in
    let encodes : IsEncodingBefore c.append_node.new.bytes.items (vec_built_nodes builder) =
    still_encoded builder.bytes.items c.append_node.new.bytes.items (vec_built_nodes builder)
    c.in_err-append_node.ensures.unchanged builder.nodes.1 in
    MatchResult-from_err c.from_residual.result (λ _. Unit {0}) _ c.from_residual.ensures.0
    (λ _. search (rules, these_nodes))

pub returns-clause-nodes : goal.returns-clause-nodes
returns-clause-nodes g c =
    let builder = c.args.self.now in
    let node = g.N.BuildNode.node c.args.node.now in
    let appended = c.in_ok-append_node.ensures in
    let encodes : IsEncodingBefore c.append_node.new.bytes.items (vec_built_nodes builder ++ node ∷ []) =
    IsEncodingBefore-push builder.bytes.items c.append_node.new.bytes.items (vec_built_nodes builder) node
    builder.nodes.1 appended.valid.1 appended.accepted appended.appended in
    search (rules, these_nodes)
