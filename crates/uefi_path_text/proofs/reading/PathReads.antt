-- The text of a path is that of the path, if that of each node is.
use Rattle.std.proofs.Common.{◌≡◌, ℕ, List, [], ◌∷◌, ◌++◌, ◌||◌, inl, Bool, true, false, cond, refl, sym, subst, codes, Some, append_assoc}
use Rattle.std.specs.List.{AllByRecursion}
use Rattle.std.proofs.lemmas.Bool.{not-true, or_parts, false_from_ne_true, and_parts, eqb-true}
use Rattle.uefi_base.specs.LittleEndian.{AreBytes}
use Rattle.uefi_path.specs.Node.{Node, Fits, IsEndEntire}
use Rattle.uefi_path.specs.Path.{LastAlone}
use Rattle.uefi_path_text.specs.text.Style.{style}
use Rattle.uefi_path_text.specs.text.NodeText.{is_plain_end, node_text, or_generic, typed_text}
use Rattle.uefi_path_text.specs.text.PathText.{separator, shown, is_shown_end, nodes_text}
use Rattle.uefi_path_text.specs.parse.Nodes.{piece_node}
use Rattle.uefi_path_text.specs.parse.Paths.{IsSlash, NodeTextOf, IsTextOfNode, IsTextOfNodes, place_after}
use Rattle.uefi_path_text.specs.Laws.{TextReadsBack}
use Rattle.uefi_path_text.specs.declared.parse.place.Place.{Place}
use Rattle.uefi_path_text.specs.declared.parse.place.Place.TheVariants.{Start, AfterComma, AfterNode}
use Rattle.uefi_path_text.specs.declared.text.style.Style.{Style}

-- The style for reading.
abbrev pub plain_style : Style
plain_style = style false false

-- A node's text for reading, if the node is no plain END node, is read as the node.
abbrev pub NodeReadsBack : Type 0
NodeReadsBack = (node : Node) → Fits node → AreBytes node.payload → is_plain_end 0x01 node ≡ false → is_plain_end 0xff node ≡ false
    → piece_node (node_text plain_style node) ≡ Some node

-- What is known of a node that has a text.
record HasNodeText (node : Node) : Type 0 where
  fits : Fits node
  bytes : AreBytes node.payload
  no_end : is_plain_end 0xff node ≡ false

-- Whether the node at a place is the first of its instance.
abbrev is_first : Place → Bool
is_first Start = true
is_first AfterComma = true
is_first AfterNode = false

after_step : (b : Bool) → is_first (cond b AfterComma AfterNode) ≡ b
after_step true = refl
after_step false = refl

after_first : (node : Node) → is_first (place_after node) ≡ is_plain_end 0x01 node
after_first node = after_step (is_plain_end 0x01 node)

slash_at : (place : Place) → IsSlash place (cond (is_first place || false) [] (codes "/"))
slash_at Start = refl
slash_at AfterComma = inl refl
slash_at AfterNode = refl

comma_at : (place : Place) → cond (is_first place || true) [] (codes "/") ++ codes "," ≡ codes ","
comma_at Start = refl
comma_at AfterComma = refl
comma_at AfterNode = refl

comma_or_piece : (b : Bool) (place : Place) (node : Node) (text : List ℕ) → is_plain_end 0x01 node ≡ b
    → (b ≡ false → piece_node (cond b (codes ",") text) ≡ Some node)
    → NodeTextOf b place node (cond (is_first place || b) [] (codes "/") ++ cond b (codes ",") text)
comma_or_piece true place node text own reads = comma_at place
comma_or_piece false place node text own reads =
    (cond (is_first place || false) [] (codes "/"), text, refl, slash_at place, reads refl)

node_reads : NodeReadsBack → (place : Place) (node : Node) → HasNodeText node
    → IsTextOfNode place node (separator (is_first place) node ++ node_text plain_style node)
node_reads each place node has =
    comma_or_piece (is_plain_end 0x01 node) place node (or_generic node (typed_text plain_style node)) refl
    (λ other. each node has.fits has.bytes other has.no_end)

nodes_read : NodeReadsBack → (place : Place) (nodes : List Node) → AllByRecursion HasNodeText nodes
    → IsTextOfNodes place nodes (nodes_text plain_style (is_first place) nodes)
unfolding nodes_text
nodes_read each place [] has = refl
nodes_read each place (node ∷ nodes) has = (
  separator (is_first place) node ++ node_text plain_style node,
  nodes_text plain_style (is_plain_end 0x01 node) nodes,
  sym (append_assoc (separator (is_first place) node) (node_text plain_style node) (nodes_text plain_style (is_plain_end 0x01 node) nodes)),
  node_reads each place node has.0,
  subst (λ b. IsTextOfNodes (place_after node) nodes (nodes_text plain_style b nodes)) (after_first node)
      (nodes_read each (place_after node) nodes has.1),
)

-- The nodes of a path that have a text.
last_has : (b : Bool) (node : Node) → Fits node → AreBytes node.payload → is_shown_end node ≡ b
    → AllByRecursion HasNodeText (cond b (node ∷ []) [])
last_has false node fits bytes own = tt
last_has true node fits bytes own =
    let ends = or_parts _ _ (not-true _ own) in (record { fits = fits; bytes = bytes; no_end = ends.1 }, tt)

other_end : (node : Node) → (IsEndEntire node → ⊥) → is_plain_end 0xff node ≡ false
other_end node other = false_from_ne_true _ (λ is.
    let parts = and_parts _ _ (and_parts _ _ is).0 in
    other (eqb-true node.device_type 0x7f parts.0, eqb-true node.sub_type 0xff parts.1))

shown_have : (nodes : List Node) → AllByRecursion Fits nodes → LastAlone IsEndEntire nodes
    → AllByRecursion (λ node. AreBytes node.payload) nodes → AllByRecursion HasNodeText (shown nodes)
unfolding shown
shown_have [] fit end bytes = tt
shown_have (node ∷ []) fit end bytes = last_has (is_shown_end node) node fit.0 bytes.0 refl
shown_have (node ∷ next ∷ nodes) fit end bytes = (
  record { fits = fit.0; bytes = bytes.0; no_end = other_end node end.0 },
  shown_have (next ∷ nodes) fit.1 end.1 bytes.1,
)

pub text_reads_back : NodeReadsBack → TextReadsBack
text_reads_back each nodes path bytes = record {
  is_path = path;
  is_written = nodes_read each Start (shown nodes) (shown_have nodes path.each path.end bytes);
}
