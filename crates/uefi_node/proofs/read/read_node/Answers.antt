use Rattle.std.proofs.Common.{◌≡◌, sym, subst, rules, true, false}
use Rattle.uefi_path.specs.Views.{node_of}
use Rattle.uefi_node.specs.Reading.{HasType, HasLength}
use Rattle.uefi_node.proofs.Readings.{reads_value, reads_other_type, reads_other_length, reads_other_form}
use Rattle.uefi_node.proofs.Readings.{type_given, type_known, length_given, length_known}
use Rattle.uefi_node.proofs.read.read_node.Goals as goal

pub returns-then-not-is_of : goal.returns-then-not-is_of
returns-then-not-is_of g c =
    let l = g.T.NodeValue.layout in
    let node = node_of c.args.node.now in
    reads_other_type l node (λ same.
    let given : false ≡ true = c.if-not-is_of.ensures.1 (type_known l c.args.kind node c.requires same) in cc)

pub returns-then-not-has_length : goal.returns-then-not-has_length
returns-then-not-has_length g c =
    let l = g.T.NodeValue.layout in
    let node = node_of c.args.node.now in
    let bytes = c.data-data.result.now in
    let same : HasType l node = type_given l c.args.kind node c.requires (c.if-not-is_of.ensures.0 (assumption)) in
    reads_other_length l node same (λ long.
    let given : false ≡ true = c.if-not-has_length.ensures.1
    (length_known l c.args.kind bytes c.requires (subst (HasLength l) (sym c.data-data.ensures) long)) in cc)

pub returns-in-Some : goal.returns-in-Some
returns-in-Some g c =
    let l = g.T.NodeValue.layout in
    let node = node_of c.args.node.now in
    let bytes = c.data-data.result.now in
    let same : HasType l node = type_given l c.args.kind node c.requires (c.if-not-is_of.ensures.0 (assumption)) in
    reads_value l _ node bytes c.data-data.ensures (search rules) same
    (length_given l c.args.kind bytes c.requires (c.if-not-has_length.ensures.0 (assumption))) c.in-Some.ensures.some

pub returns-in-None : goal.returns-in-None
returns-in-None g c =
    let l = g.T.NodeValue.layout in
    let node = node_of c.args.node.now in
    let bytes = c.data-data.result.now in
    let same : HasType l node = type_given l c.args.kind node c.requires (c.if-not-is_of.ensures.0 (assumption)) in
    reads_other_form l node bytes c.data-data.ensures same
    (length_given l c.args.kind bytes c.requires (c.if-not-has_length.ensures.0 (assumption))) c.in-None.ensures.none
