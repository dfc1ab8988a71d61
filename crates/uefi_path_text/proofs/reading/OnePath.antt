-- A text is that of one path at most.
use Rattle.std.proofs.Common.{◌≡◌, ◌⊎◌, inl, inr, ℕ, ◌==◌, ◌&&◌, List, [], ◌∷◌, ◌++◌, length, Bool, true, false, cond, not, refl, arith, sym, ap, ◌∙◌, drop, slice_index, codes, Some, subst, ⊎_elim, eqb-true, append_assoc, length-append}
use Rattle.std.proofs.lemmas.Bool.{and_parts, both_ways, false_from_ne_true, cond-true, cond-false, and_from, or_cases, not-false, eq-eqb}
use Rattle.std.proofs.lemmas.List.{nil_from_length, append_cancel_left}
use Rattle.std.proofs.lemmas.Option.{same_Some}
use Rattle.uefi_path.specs.Node.{Node, IsEndEntire, end_entire}
use Rattle.uefi_path.specs.Path.{LastAlone}
use Rattle.uefi_path_text.specs.text.FileName.{reads_as_node}
use Rattle.uefi_path_text.specs.text.NodeText.{is_plain_end}
use Rattle.uefi_path_text.specs.text.PathText.{shown, is_shown_end}
use Rattle.uefi_path_text.specs.parse.Nodes.{is_plain_byte, is_file_name, piece_node}
use Rattle.uefi_path_text.specs.parse.Paths.{IsSlash, NodeTextOf, IsTextOfNodes, place_after}
use Rattle.uefi_path_text.specs.Laws.{OnePathOfText}
use Rattle.uefi_path_text.specs.private.Pieces.{is_mark, is_cut, piece_at}
use Rattle.uefi_path_text.specs.declared.parse.place.Place.{Place}
use Rattle.uefi_path_text.specs.declared.parse.place.Place.TheVariants.{Start, AfterComma, AfterNode}
use Rattle.uefi_path_text.proofs.reading.Ends.{mark_reads, call_or_name, plain_name, piece_ends}

-- A piece isn't empty, and begins with neither a slash nor a comma.
call_begins : (piece rest : List ℕ) → reads_as_node piece ≡ true → is_cut (piece ++ rest) ≡ false
call_begins [] rest reads = cc
call_begins (c ∷ piece) rest reads = false_from_ne_true (is_mark c) (λ is. both_ways _ (mark_reads c _ is) reads)

name_begins : (piece rest : List ℕ) → is_file_name piece ≡ true → is_cut (piece ++ rest) ≡ false
name_begins [] rest name = cc
name_begins (c ∷ piece) rest name = ap not (and_parts (is_plain_byte c) _ (plain_name (c ∷ piece) name)).0

pub piece_begins : (piece rest : List ℕ) (node : Node) → piece_node piece ≡ Some node → is_cut (piece ++ rest) ≡ false
piece_begins piece rest node is =
    ⊎_elim (λ call. call_begins piece rest call.0) (λ name. name_begins piece rest name.1) (call_or_name piece node is)

-- Nodes after another begin with a slash or a comma.
rest_step : (b : Bool) (node : Node) (text front rest : List ℕ) → text ≡ front ++ rest → NodeTextOf b AfterNode node front
    → is_cut text ≡ true
rest_step true node text front rest whole is = ap is_cut whole ∙ ap (λ p. is_cut (p ++ rest)) is
rest_step false node text front rest whole (slash, piece, begins, after, is) =
    ap is_cut whole ∙ (λ i. is_cut ((begins ∙ ap (λ s. s ++ piece) after) i ++ rest))

pub rest_cut : (nodes : List Node) (text : List ℕ) → IsTextOfNodes AfterNode nodes text → is_cut text ≡ true
rest_cut [] text is = ap is_cut is
rest_cut (node ∷ nodes) text (front, rest, whole, is, others) =
    rest_step (is_plain_end 0x01 node) node text front rest whole is

-- END nodes of a subtype that have no data are one.
pub plain_is : (sub_type : ℕ) (node : Node) → is_plain_end sub_type node ≡ true
    → node ≡ record { device_type = 0x7f; sub_type = sub_type; payload = [] }
plain_is sub_type node is =
    let parts = and_parts _ _ is in
    let types = and_parts _ _ parts.0 in
    let device = eqb-true node.device_type 0x7f types.0 in
    let sub = eqb-true node.sub_type sub_type types.1 in
    let none = nil_from_length node.payload (eqb-true _ 0 parts.1) in
    λ i. record { device_type = device i; sub_type = sub i; payload = none i }

-- The first node of a text is one, and what follows it.
record AreSame (n m : Node) (r s : List ℕ) : Type 0 where
  node : n ≡ m
  rest : r ≡ s

-- A slash before a node's text is none, or one.
pub slash_cases : (place : Place) (slash : List ℕ) → IsSlash place slash → (slash ≡ []) ⊎ (slash ≡ codes "/")
slash_cases Start slash is = inl is
slash_cases AfterComma slash is = is
slash_cases AfterNode slash is = inr is

-- What begins with neither a slash nor a comma is the same after two of them.
pub record AreCutAlike (before after front other : List ℕ) : Type 0 where
  pub slash : before ≡ after
  pub rest : front ≡ other

alike : (before after front other : List ℕ) → before ≡ after → before ++ front ≡ after ++ other
    → AreCutAlike before after front other
alike before after front other same whole = record {
  slash = same;
  rest = append_cancel_left after front other (sym (ap (λ s. s ++ front) same) ∙ whole);
}

pub one_more : (front other : List ℕ) → is_cut front ≡ false → front ≡ codes "/" ++ other → ⊥
one_more front other open_ is = both_ways _ open_ (ap is_cut is)

pub slashes_alike : (before after front other : List ℕ) → (before ≡ []) ⊎ (before ≡ codes "/")
    → (after ≡ []) ⊎ (after ≡ codes "/") → is_cut front ≡ false → is_cut other ≡ false
    → before ++ front ≡ after ++ other → AreCutAlike before after front other
slashes_alike before after front other (inl none) (inl also) is open_ whole =
    alike before after front other (none ∙ sym also) whole
slashes_alike before after front other (inl none) (inr one) is open_ whole =
    absurd (one_more front other is (sym (ap (λ s. s ++ front) none) ∙ whole ∙ ap (λ s. s ++ other) one))
slashes_alike before after front other (inr one) (inl none) is open_ whole =
    absurd (one_more other front open_ (sym (ap (λ s. s ++ other) none) ∙ sym whole ∙ ap (λ s. s ++ front) one))
slashes_alike before after front other (inr one) (inr also) is open_ whole =
    alike before after front other (one ∙ sym also) whole

-- A comma begins neither the text of a node nor what a slash is before.
apart : (slash front : List ℕ) (others : List ℕ) → (slash ≡ []) ⊎ (slash ≡ codes "/") → is_cut front ≡ false
    → 0x2c ∷ others ≡ slash ++ front → ⊥
apart slash front others (inl none) open_ whole =
    both_ways _ open_ (sym (ap is_cut (whole ∙ ap (λ s. s ++ front) none)))
apart slash front others (inr one) open_ whole =
    omega (arith, ap (λ t. slice_index t 0) (whole ∙ ap (λ s. s ++ front) one))

pub comma_apart : (place : Place) (node : Node) (slash piece rest others : List ℕ) → IsSlash place slash
    → piece_node piece ≡ Some node → 0x2c ∷ others ≡ slash ++ (piece ++ rest) → ⊥
comma_apart place node slash piece rest others may is whole =
    apart slash (piece ++ rest) others (slash_cases place slash may) (piece_begins piece rest node is) whole

-- A text with a node's text at its front, which a slash and a piece are.
pub parts_of : (text front rest slash piece : List ℕ) → text ≡ front ++ rest → front ≡ slash ++ piece
    → text ≡ slash ++ (piece ++ rest)
parts_of text front rest slash piece whole begins =
    whole ∙ ap (λ l. l ++ rest) begins ∙ append_assoc slash piece rest

one_step : (x y : Bool) (place : Place) (n m : Node) (ns ms : List Node) (text p q r s : List ℕ)
    → is_plain_end 0x01 n ≡ x → is_plain_end 0x01 m ≡ y → text ≡ p ++ r → text ≡ q ++ s
    → NodeTextOf x place n p → NodeTextOf y place m q
    → IsTextOfNodes (cond x AfterComma AfterNode) ns r → IsTextOfNodes (cond y AfterComma AfterNode) ms s → AreSame n m r s
one_step true true place n m ns ms text p q r s left right whole other is also mine others =
    let begins : 0x2c ∷ r ≡ 0x2c ∷ s = sym (ap (λ l. l ++ r) is) ∙ sym whole ∙ other ∙ ap (λ l. l ++ s) also in
    record { node = plain_is 0x01 n left ∙ sym (plain_is 0x01 m right); rest = ap (drop 1) begins }
one_step true false place n m ns ms text p q r s left right whole other is (slash, piece, begins, may, also) mine others =
    absurd (comma_apart place m slash piece s r may also
    (sym (ap (λ l. l ++ r) is) ∙ sym whole ∙ parts_of text q s slash piece other begins))
one_step false true place n m ns ms text p q r s left right whole other (slash, piece, begins, may, is) also mine others =
    absurd (comma_apart place n slash piece r s may is
    (sym (ap (λ l. l ++ s) also) ∙ sym other ∙ parts_of text p r slash piece whole begins))
one_step false false place n m ns ms text p q r s left right whole other (before, piece, begins, may, is)
    (after, second, starts, can, also) mine others =
    let both = slashes_alike before after (piece ++ r) (second ++ s) (slash_cases place before may)
    (slash_cases place after can) (piece_begins piece r n is) (piece_begins second s m also)
    (sym (parts_of text p r before piece whole begins) ∙ parts_of text q s after second other starts) in
    let same : piece ≡ second = sym (piece_ends piece r n is (rest_cut ns r mine)) ∙ ap piece_at both.rest
    ∙ piece_ends second s m also (rest_cut ms s others) in
    record {
      node = same_Some n m (sym is ∙ ap piece_node same ∙ also);
      rest = append_cancel_left second r s (sym (ap (λ l. l ++ r) same) ∙ both.rest);
    }

-- An empty text is of no nodes.
none_step : (b : Bool) (place : Place) (node : Node) (text front rest : List ℕ) → text ≡ [] → text ≡ front ++ rest
    → NodeTextOf b place node front → ⊥
none_step true place node text front rest none whole is =
    let begins : [] ≡ 0x2c ∷ rest = sym none ∙ whole ∙ ap (λ l. l ++ rest) is in cc
none_step false place node text front rest none whole (slash, piece, begins, may, is) =
    let parts : slash ++ (piece ++ rest) ≡ [] = sym (parts_of text front rest slash piece whole begins) ∙ none in
    both_ways _ (piece_begins piece rest node is) (ap is_cut (nil_from_length (piece ++ rest)
    (omega (arith, ap length parts, length-append slash (piece ++ rest)))))

pub one_list : (place : Place) (a b : List Node) (text : List ℕ) → IsTextOfNodes place a text → IsTextOfNodes place b text → a ≡ b
one_list place [] [] text is also = refl
one_list place [] (m ∷ ms) text is (front, rest, whole, node, others) =
    absurd (none_step (is_plain_end 0x01 m) place m text front rest is whole node)
one_list place (n ∷ ns) [] text (front, rest, whole, node, others) also =
    absurd (none_step (is_plain_end 0x01 n) place n text front rest also whole node)
one_list place (n ∷ ns) (m ∷ ms) text (p, r, whole, node, mine) (q, s, other, also, others) =
    let same = one_step _ _ place n m ns ms text p q r s refl refl whole other node also mine others in
    let again : IsTextOfNodes (place_after n) ms r =
    subst (λ t. IsTextOfNodes (place_after n) ms t) (sym same.rest)
    (subst (λ k. IsTextOfNodes (place_after k) ms s) (sym same.node) others) in
    let more = one_list (place_after n) ns ms r mine again in λ i. same.node i ∷ more i

-- The nodes of a path, from those that have a text.
abbrev pub is_end_entire : Node → Bool
is_end_entire node = node.device_type == 0x7f && node.sub_type == 0xff

abbrev pub completed : List Node → List Node
completed [] = end_entire ∷ []
completed (node ∷ nodes) = cond (is_end_entire node) (node ∷ []) (node ∷ completed nodes)

pub ends : (node : Node) → IsEndEntire node → is_end_entire node ≡ true
ends node is = and_from _ _ (eq-eqb node.device_type 0x7f is.0) (eq-eqb node.sub_type 0xff is.1)

pub not_instance : (node : Node) → IsEndEntire node → is_plain_end 0x01 node ≡ true → ⊥
not_instance node is plain =
    let sub : node.sub_type ≡ 0x01 = ap (λ n. n.sub_type) (plain_is 0x01 node plain) in omega (arith, is.1, sub)

last_shown : (b : Bool) (node : Node) → IsEndEntire node → is_shown_end node ≡ b → completed (cond b (node ∷ []) []) ≡ node ∷ []
last_shown true node is own = cond-true _ _ _ (ends node is)
last_shown false node is own =
    ⊎_elim (λ instance. absurd (not_instance node is instance)) (λ entire. ap (λ n. n ∷ []) (sym (plain_is 0xff node entire)))
    (or_cases _ _ (not-false _ own))

pub not_entire : (node : Node) → (IsEndEntire node → ⊥) → is_end_entire node ≡ false
not_entire node other = false_from_ne_true _ (λ is.
    let parts = and_parts _ _ is in other (eqb-true node.device_type 0x7f parts.0, eqb-true node.sub_type 0xff parts.1))

pub shown_completed : (nodes : List Node) → LastAlone IsEndEntire nodes → completed (shown nodes) ≡ nodes
unfolding shown
shown_completed [] is = absurd is
shown_completed (node ∷ []) is = last_shown (is_shown_end node) node is refl
shown_completed (node ∷ next ∷ nodes) is =
    cond-false _ _ _ (not_entire node is.0) ∙ ap (λ l. node ∷ l) (shown_completed (next ∷ nodes) is.1)

pub one_path_of_text : OnePathOfText
one_path_of_text a b text is also =
    sym (shown_completed a is.is_path.end) ∙ ap completed (one_list Start (shown a) (shown b) text is.is_written also.is_written)
    ∙ shown_completed b also.is_path.end
