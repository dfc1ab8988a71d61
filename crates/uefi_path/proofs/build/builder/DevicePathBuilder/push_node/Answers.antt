use Rattle.std.proofs.Common.{[], ◌∷◌, ◌++◌, take, sym, subst, rules}
use Rattle.std.proofs.lemmas.Result.{MatchResult-from_err}
use Rattle.uefi_path.specs.private.Encoding.{IsEncodingBefore}
use Rattle.uefi_path.specs.build.Views.{built_nodes}
use Rattle.uefi_path.proofs.Building.{pushed, these_nodes}
use Rattle.uefi_path.proofs.build.builder.DevicePathBuilder.push_node.Goals as goal

pub invariant_of-self-2 : goal.invariant_of-self-2
invariant_of-self-2 g c =
    let builder = c.args.self.now in
    let node = g.N.BuildNode.node c.args.node.now in
    record {
      within = search rules;
      nodes = (
        built_nodes builder ++ node ∷ [],
        pushed builder.buffer.now c.push_at.new.buffer builder.end c.in_ok-self.field-0 (built_nodes builder) node
            builder.nodes.1 builder.within c.in_ok-self.ensures.valid.1 c.in_ok-self.ensures.accepted
            c.in_ok-self.ensures.end c.in_ok-self.ensures.written,
      );
    }

pub returns-in_err-self-clause-same_nodes : goal.returns-in_err-self-clause-same_nodes
returns-in_err-self-clause-same_nodes g c =
    let builder = c.args.self.now in
    let encodes : IsEncodingBefore (take builder.end c.push_at.new.buffer) (built_nodes builder) =
    subst (λ bytes. IsEncodingBefore (take builder.end bytes) (built_nodes builder))
    (sym c.in_err-self.ensures.unchanged) builder.nodes.1 in
    MatchResult-from_err c.from_residual.result (λ _. Unit {0}) _ c.from_residual.ensures.0
    (λ _. search (rules, these_nodes))

pub returns-clause-nodes : goal.returns-clause-nodes
returns-clause-nodes g c =
    let builder = c.args.self.now in
    let node = g.N.BuildNode.node c.args.node.now in
    let encodes : IsEncodingBefore (take c.in_ok-self.field-0 c.push_at.new.buffer) (built_nodes builder ++ node ∷ []) =
    pushed builder.buffer.now c.push_at.new.buffer builder.end c.in_ok-self.field-0 (built_nodes builder) node
    builder.nodes.1 builder.within c.in_ok-self.ensures.valid.1 c.in_ok-self.ensures.accepted
    c.in_ok-self.ensures.end c.in_ok-self.ensures.written in
    search (rules, these_nodes)
