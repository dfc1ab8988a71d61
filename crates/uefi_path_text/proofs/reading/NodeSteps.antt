-- Taking the node at the start of a text.
use Rattle.std.proofs.Common.{◌≡◌, ◌≢◌, inl, inr, ◌<◌, ◌≤◌, ◌+◌, ◌==◌, ℕ, List, [], ◌∷◌, ◌++◌, length, Bool, true, false, cond, refl, sym, ◌∙◌, ap, arith, codes, Option, Some, None, length-append, append_assoc, subst, drop, ⊎_elim}
use Rattle.std.proofs.lemmas.Bool.{and_parts, both_ways, not-true}
use Rattle.std.specs.Prelude.{nat_le, IfSome, IfNone}
use Rattle.std.specs.Option.{MatchOption, unwrap_or}
use Rattle.std.specs.Borrow.{Bor}
use Rattle.std.proofs.lemmas.Bool.Decides.{nat_tests}
use Rattle.std.proofs.lemmas.List.{append_cancel_left}
use Rattle.std.proofs.lemmas.Option.{same_Some}
use Rattle.uefi_path.specs.Node.{Node, end_instance}
use Rattle.uefi_path_text.specs.text.NodeText.{is_plain_end}
use Rattle.uefi_path_text.specs.parse.Parts.{given}
use Rattle.uefi_path_text.specs.form.NodeForm.{NodeForm}
use Rattle.uefi_path_text.specs.parse.Arguments.{values_in, form_node, texts_of}
use Rattle.uefi_path_text.specs.parse.Nodes.{is_written, if_written, node_of_values, node_in, or_else, first_node, forms_named, call_node, piece_node, is_closed, is_file_name, name_of, arguments_of, name_node}
use Rattle.uefi_path_text.specs.text.FileName.{reads_as_node}
use Rattle.uefi_path_text.specs.parse.Paths.{IsSlash, NodeTextOf, IsTextOfNodes, place_after}
use Rattle.uefi_path_text.specs.private.Pieces.{piece_at}
use Rattle.uefi_path_text.specs.declared.parse.place.Place.{Place}
use Rattle.uefi_path_text.specs.declared.parse.place.Place.TheVariants.{Start, AfterComma, AfterNode}
use Rattle.uefi_path_text.specs.private.Taking.{TakesNode, IsOfNoNodes, FollowsSlash}
use Rattle.uefi_path_text.proofs.reading.Ends.{piece_ends}
use Rattle.uefi_path_text.proofs.reading.OnePath.{rest_cut, slash_cases, one_more, comma_apart, parts_of, plain_is, piece_begins}

-- A node that is read can be written.
given_is : {A : Type 0} (b : Bool) (value found : A) → given b value ≡ Some found → (b ≡ true) × (value ≡ found)
given_is true value found is = (refl, same_Some value found is)
given_is false value found is = cc

written_is : (node found : Node) → if_written node ≡ Some found → is_written found ≡ true
written_is node found is =
    let parts = given_is (is_written node) node found is in ap is_written (sym parts.1) ∙ parts.0

values_written : (form : NodeForm) (values : Option (List (List ℕ))) (node : Node) → node_of_values form values ≡ Some node
    → is_written node ≡ true
values_written form None node is = cc
values_written form (Some values) node is = written_is (form_node form values) node is

or_written : (first other : Option Node) (node : Node) → (first ≡ Some node → is_written node ≡ true)
    → (other ≡ Some node → is_written node ≡ true) → or_else first other ≡ Some node → is_written node ≡ true
or_written None other node own others is = others is
or_written (Some found) other node own others is = own is

first_written : (forms : List NodeForm) (texts : List (List ℕ)) (node : Node) → first_node forms texts ≡ Some node
    → is_written node ≡ true
first_written [] texts node is = cc
first_written (form ∷ forms) texts node is =
    or_written (node_in form texts) (first_node forms texts) node (values_written form (values_in form.arguments texts) node)
    (first_written forms texts node) is

call_written : (name arguments : List ℕ) (node : Node) → call_node name arguments ≡ Some node → is_written node ≡ true
unfolding call_node
call_written name arguments node is = first_written (forms_named name) (texts_of arguments) node is

piece_step : (reads closed name : Bool) (call : Option Node) (file node : Node)
    → (call ≡ Some node → is_written node ≡ true)
    → cond reads (cond closed call None) (cond name (if_written file) None) ≡ Some node → is_written node ≡ true
piece_step true true name call file node own is = own is
piece_step true false name call file node own is = cc
piece_step false closed true call file node own is = written_is file node is
piece_step false closed false call file node own is = cc

pub piece_written : (piece : List ℕ) (node : Node) → piece_node piece ≡ Some node → is_written node ≡ true
unfolding piece_node
piece_written piece node is =
    piece_step (reads_as_node piece) (is_closed piece) (is_file_name piece) (call_node (name_of piece) (arguments_of piece))
    (name_node piece) node (call_written (name_of piece) (arguments_of piece) node) is

-- What is written is short, and no plain END node.
pub written_short : (node : Node) → is_written node ≡ true → length node.payload ≤ 0xfffb
written_short node is = let test : nat_le (length node.payload) 0xfffb ≡ true = (and_parts _ _ (and_parts _ _ is).0).0 in grind (arith, nat_tests)

pub written_open : (node : Node) → is_written node ≡ true → is_plain_end 0x01 node ≡ false
written_open node is = not-true _ (and_parts _ _ (and_parts _ _ is).0).1

pub written_inner : (node : Node) → is_written node ≡ true → is_plain_end 0xff node ≡ false
written_inner node is = not-true _ (and_parts _ _ is).1

-- Other nodes of a text that begins with a comma are the end of an instance and what follows.
record HasNext (first : Node) (after : Place) (node : Node) (nodes : List Node) (rest : List ℕ) : Type 0 where
  same : node ≡ first
  others : IsTextOfNodes after nodes rest

only_comma : (b : Bool) (place : Place) (node : Node) (nodes : List Node) (text rest front others : List ℕ)
    → is_plain_end 0x01 node ≡ b → text ≡ 0x2c ∷ rest → text ≡ front ++ others → NodeTextOf b place node front
    → IsTextOfNodes (cond b AfterComma AfterNode) nodes others → HasNext end_instance AfterComma node nodes rest
only_comma true place node nodes text rest front others plain comma whole is more =
    let begins : 0x2c ∷ others ≡ 0x2c ∷ rest = sym (ap (λ l. l ++ others) is) ∙ sym whole ∙ comma in
    record {
      same = plain_is 0x01 node plain;
      others = subst (λ t. IsTextOfNodes AfterComma nodes t) (ap (drop 1) begins) more;
    }
only_comma false place node nodes text rest front others plain comma whole (slash, piece, begins, may, is) more =
    absurd (comma_apart place node slash piece others rest may is
    (sym comma ∙ parts_of text front others slash piece whole begins))

comma_only : (place : Place) (text rest : List ℕ) → text ≡ 0x2c ∷ rest → (nodes : List Node) → IsTextOfNodes place nodes text
    → (others : List Node) × (nodes ≡ end_instance ∷ others) × IsTextOfNodes AfterComma others rest
comma_only place text rest comma [] none = let wrong : 0x2c ∷ rest ≡ [] = sym comma ∙ none in cc
comma_only place text rest comma (node ∷ nodes) (front, others, whole, is, more) =
    let next = only_comma (is_plain_end 0x01 node) place node nodes text rest front others refl comma whole is more in
    (nodes, ap (λ n. n ∷ nodes) next.same, next.others)

pub takes_comma : (place : Place) (text rest : List ℕ) → text ≡ 0x2c ∷ rest → TakesNode place text end_instance rest
takes_comma place text rest comma = record {
  short = omega arith;
  no_end = refl;
  shorter = omega (arith, ap length comma);
  some = λ nodes more. (codes ",", rest, comma, refl, more);
  only = comma_only place text rest comma;
}

-- What follows the slash before a node.
pub follows_start : (text : List ℕ) → FollowsSlash Start text text
follows_start text = record {
  some = ([], refl, refl);
  only = λ slash other is whole open_. sym (whole ∙ ap (λ s. s ++ other) is);
}

pub follows_slash : (place : Place) (text start : List ℕ) → IsSlash place (codes "/") → text ≡ 0x2f ∷ start
    → FollowsSlash place text start
follows_slash place text start may begins = record {
  some = (codes "/", may, begins);
  only = λ slash other is whole open_.
      ⊎_elim (λ none. absurd (one_more other start open_ (sym (whole ∙ ap (λ s. s ++ other) none) ∙ begins)))
      (λ one. ap (drop 1) (sym (whole ∙ ap (λ s. s ++ other) one) ∙ begins)) (slash_cases place slash is);
}

pub follows_comma : (text : List ℕ) → ((start : List ℕ) → text ≢ 0x2f ∷ start) → FollowsSlash AfterComma text text
follows_comma text no_slash = record {
  some = ([], inl refl, refl);
  only = λ slash other is whole open_.
      ⊎_elim (λ none. sym (whole ∙ ap (λ s. s ++ other) none))
      (λ one. absurd (no_slash other (whole ∙ ap (λ s. s ++ other) one))) is;
}

-- The same of what is found of a text.
pub after_comma_start : (place : Place) (text start : Bor (List ℕ)) (rest : Option (Bor (List ℕ))) → place ≡ AfterComma
    → IfSome rest (λ r. text.now ≡ 0x2f ∷ r.now) → IfNone rest ((other : List ℕ) → text.now ≢ 0x2f ∷ other)
    → start ≡ unwrap_or rest text → FollowsSlash place text.now start.now
after_comma_start place text start None is some none found =
    subst (λ p. FollowsSlash p text.now start.now) (sym is)
    (subst (λ s. FollowsSlash AfterComma text.now s.now) (sym found) (follows_comma text.now none))
after_comma_start place text start (Some rest) is some none found =
    subst (λ p. FollowsSlash p text.now start.now) (sym is)
    (subst (λ s. FollowsSlash AfterComma text.now s.now) (sym found) (follows_slash AfterComma text.now rest.now (inr refl) some))

pub after_node_start : (place : Place) (text : List ℕ) (rest : Option (Bor (List ℕ))) → place ≡ AfterNode
    → IfSome rest (λ r. text ≡ 0x2f ∷ r.now) → IfSome rest (λ start. FollowsSlash place text start.now)
after_node_start place text None is some = tt
after_node_start place text (Some rest) is some =
    subst (λ p. FollowsSlash p text rest.now) (sym is) (follows_slash AfterNode text rest.now refl some)

-- A piece is that of the first node, and what follows that of the others.
text_is : (b : Bool) (place : Place) (front slash piece : List ℕ) (node : Node) → b ≡ false → front ≡ slash ++ piece
    → IsSlash place slash → piece_node piece ≡ Some node → NodeTextOf b place node front
text_is true place front slash piece node other begins may is = cc
text_is false place front slash piece node other begins may is = (slash, piece, begins, may, is)

not_empty : (piece rest : List ℕ) (node : Node) → piece_node piece ≡ Some node → 0 < length piece
not_empty [] rest node is = absurd (both_ways _ (piece_begins [] [] node is) refl)
not_empty (c ∷ piece) rest node is = omega arith

-- Other nodes of a text begin with the piece at its start.
only_piece : (b : Bool) (place : Place) (node : Node) (nodes : List Node) (text start front others : List ℕ)
    → FollowsSlash place text start → ((rest : List ℕ) → text ≢ 0x2c ∷ rest) → text ≡ front ++ others
    → NodeTextOf b place node front → IsTextOfNodes (cond b AfterComma AfterNode) nodes others
    → (piece_node (piece_at start) ≡ Some node) × (start ≡ piece_at start ++ others) × IsTextOfNodes AfterNode nodes others
only_piece true place node nodes text start front others follows no_comma whole is more =
    absurd (no_comma others (whole ∙ ap (λ l. l ++ others) is))
only_piece false place node nodes text start front others follows no_comma whole (slash, piece, begins, may, is) more =
    let same : piece ++ others ≡ start = follows.only slash (piece ++ others) may
    (parts_of text front others slash piece whole begins) (piece_begins piece others node is) in
    let at : piece_at start ≡ piece = ap piece_at (sym same) ∙ piece_ends piece others node is (rest_cut nodes others more) in
    (ap piece_node at ∙ is, sym same ∙ ap (λ p. p ++ others) (sym at), more)

-- A text whose piece has a node.
no_comma_begins : (place : Place) (text start : List ℕ) (node : Node) → FollowsSlash place text start
    → piece_node (piece_at start) ≡ Some node → (after : List ℕ) → start ≡ piece_at start ++ after
    → (rest : List ℕ) → text ≢ 0x2c ∷ rest
no_comma_begins place text start node follows is after split rest comma =
    let some = follows.some in
    comma_apart place node some.0 (piece_at start) after rest some.1 is
    (sym comma ∙ some.2 ∙ ap (λ l. some.0 ++ l) split)

piece_only : (place : Place) (text start rest : List ℕ) (node : Node) → FollowsSlash place text start
    → piece_node (piece_at start) ≡ Some node → start ≡ piece_at start ++ rest → is_plain_end 0x01 node ≡ false
    → (nodes : List Node) → IsTextOfNodes place nodes text
    → (others : List Node) × (nodes ≡ node ∷ others) × IsTextOfNodes (place_after node) others rest
piece_only place text start rest node follows is split open_ [] none =
    let some : 0 < length (piece_at start) = not_empty (piece_at start) rest node is in
    let long : length start ≡ length (piece_at start) + length rest = ap length split ∙ length-append (piece_at start) rest in
    absurd (omega (arith, ap length (sym none ∙ follows.some.2), length-append follows.some.0 start))
piece_only place text start rest node follows is split open_ (other ∷ nodes) (front, others, whole, own, more) =
    let found = only_piece (is_plain_end 0x01 other) place other nodes text start front others follows
    (no_comma_begins place text start node follows is rest split) whole own more in
    let same : other ≡ node = sym (same_Some node other (sym is ∙ found.0)) in
    let left : others ≡ rest = append_cancel_left (piece_at start) others rest (sym found.1 ∙ split) in (
      nodes,
      ap (λ n. n ∷ nodes) same,
      subst (λ b. IsTextOfNodes (cond b AfterComma AfterNode) nodes rest) (sym open_)
          (subst (λ t. IsTextOfNodes AfterNode nodes t) left found.2),
    )

pub takes_piece : (place : Place) (text start rest : List ℕ) (node : Node) → FollowsSlash place text start
    → piece_node (piece_at start) ≡ Some node → start ≡ piece_at start ++ rest → TakesNode place text node rest
takes_piece place text start rest node follows is split =
    let written = piece_written (piece_at start) node is in
    let open_ = written_open node written in
    let slash = follows.some in
    let some : 0 < length (piece_at start) = not_empty (piece_at start) rest node is in
    record {
      short = written_short node written;
      no_end = written_inner node written;
      shorter = omega (
        arith,
        ap length slash.2,
        length-append slash.0 start,
        ap length split,
        length-append (piece_at start) rest,
      );
      some = λ nodes more. (
        slash.0 ++ piece_at start,
        rest,
        slash.2 ∙ ap (λ l. slash.0 ++ l) split ∙ sym (append_assoc slash.0 (piece_at start) rest),
        text_is (is_plain_end 0x01 node) place (slash.0 ++ piece_at start) slash.0 (piece_at start) node open_ refl slash.1 is,
        more,
      );
      only = piece_only place text start rest node follows is split open_;
    }

pub after_node : (node : Node) (piece : List ℕ) → piece_node piece ≡ Some node → AfterNode ≡ place_after node
after_node node piece is = sym (ap (λ b. cond b AfterComma AfterNode) (written_open node (piece_written piece node is)))

-- A text whose piece has none, or that lacks the slash.
pub wrong_piece : (place : Place) (text start : List ℕ) → 0 < length text → ((rest : List ℕ) → text ≢ 0x2c ∷ rest)
    → FollowsSlash place text start → piece_node (piece_at start) ≡ None → IsOfNoNodes place text
wrong_piece place text start some no_comma follows none [] is = absurd (omega (arith, ap length is))
wrong_piece place text start some no_comma follows none (node ∷ nodes) (front, others, whole, own, more) =
    let found = only_piece (is_plain_end 0x01 node) place node nodes text start front others follows no_comma whole own more in
    let wrong : None ≡ Some node = sym none ∙ found.0 in cc

slash_step : (b : Bool) (place : Place) (text front others : List ℕ) (node : Node) → ((rest : List ℕ) → text ≢ 0x2c ∷ rest)
    → ((slash start : List ℕ) → IsSlash place slash → text ≢ slash ++ start) → text ≡ front ++ others
    → NodeTextOf b place node front → ⊥
slash_step true place text front others node no_comma no_slash whole is =
    no_comma others (whole ∙ ap (λ l. l ++ others) is)
slash_step false place text front others node no_comma no_slash whole (slash, piece, begins, may, is) =
    no_slash slash (piece ++ others) may (parts_of text front others slash piece whole begins)

pub wrong_slash : (place : Place) (text : List ℕ) → 0 < length text → ((rest : List ℕ) → text ≢ 0x2c ∷ rest)
    → ((slash start : List ℕ) → IsSlash place slash → text ≢ slash ++ start) → IsOfNoNodes place text
wrong_slash place text some no_comma no_slash [] is = absurd (omega (arith, ap length is))
wrong_slash place text some no_comma no_slash (node ∷ nodes) (front, others, whole, own, more) =
    slash_step (is_plain_end 0x01 node) place text front others node no_comma no_slash whole own

-- A mark isn't at the start of a text.
pub none_after : (mark : ℕ) (text : List ℕ) (rest : Option (Bor (List ℕ)))
    → MatchOption rest ((other : List ℕ) → text ≢ mark ∷ other) (λ x. text ≡ mark ∷ x.now)
    → IfNone rest ((other : List ℕ) → text ≢ mark ∷ other)
none_after mark text None holds = holds
none_after mark text (Some x) holds = tt

pub some_text : (text : List ℕ) → false ≡ (length text == 0) → 0 < length text
some_text text other = grind (arith, nat_tests)
