-- Paths from the nodes of their texts.
use Rattle.std.proofs.Common.{◌≡◌, ℕ, ◌+◌, ◌≤◌, ◌<◌, List, [], ◌∷◌, ◌++◌, Bool, true, false, cond, ◌||◌, not, refl, arith, sym, ap, ◌∙◌, length, subst, append_assoc, min, take, drop}
use Rattle.std.specs.Prelude.{Result, Ok, Err, OnErr, IsOk}
use Rattle.std.specs.List.{AllByRecursion}
use Rattle.std.proofs.lemmas.Bool.{false_from_ne_true, cond-true, cond-false}
use Rattle.std.proofs.lemmas.List.{nil_from_length, length-append, append-nil}
use Rattle.std.proofs.Math.Seq.{take-append_seam}
use Rattle.uefi_base.specs.Buffer.{put_at, put_prefix}
use Rattle.uefi_base.specs.Prefix.{IsPrefix}
use Rattle.uefi_base.proofs.Parts.{put_more}
use Rattle.uefi_path.specs.Node.{Node, Fits, encoding, joined, IsEndEntire, end_entire}
use Rattle.uefi_path.specs.Path.{AreBefore}
use Rattle.uefi_path.specs.private.OnePath.{joined-append}
use Rattle.uefi_path.proofs.Appending.{AreEndedBy-append}
use Rattle.uefi_path.proofs.Passing.{AllByRecursion-push}
use Rattle.uefi_path_text.specs.text.NodeText.{is_plain_end}
use Rattle.uefi_path_text.specs.text.PathText.{shown, is_shown_end}
use Rattle.uefi_path_text.specs.parse.Paths.{IsTextOf, IsTextOfNodes, place_after}
use Rattle.uefi_path_text.specs.private.Places.{IsFrom}
use Rattle.uefi_path_text.specs.private.Taking.{TakesNode, IsOfNoNodes}
use Rattle.uefi_path_text.specs.private.TextPaths.{HasTextFault}
use Rattle.uefi_path_text.specs.declared.parse.place.Place.{Place}
use Rattle.uefi_path_text.specs.declared.parse.place.Place.TheVariants.{Start}
use Rattle.uefi_path_text.specs.declared.parse.error.FromTextError.{FromTextError}
use Rattle.uefi_path_text.specs.declared.parse.error.FromTextError.TheVariants.{UnknownNode, Argument, Missing, TooLong, Buffer, Memory}
use Rattle.uefi_path_text.proofs.reading.OnePath.{completed, shown_completed, not_entire, not_instance, ends, one_path_of_text}

-- The text begins with the nodes that were taken, and with no others.
pub record HasTaken (text : List ℕ) (place : Place) (rest : List ℕ) (done : List Node) : Type 0 where
  pub some : (more : List Node) → IsTextOfNodes place more rest → IsTextOfNodes Start (done ++ more) text
  pub only : (nodes : List Node) → IsTextOfNodes Start nodes text
      → (more : List Node) × (nodes ≡ done ++ more) × IsTextOfNodes place more rest

-- No node was taken yet.
none_taken : (text : List ℕ) → HasTaken text Start text []
none_taken text = record { some = λ more is. is; only = λ nodes is. (nodes, refl, is) }

-- The same, of the state that a walk begins with.
pub first_taken : (text rest : List ℕ) (place : Place) → rest ≡ text → place ≡ Start → HasTaken text place rest []
first_taken text rest place same first =
    subst (λ r. HasTaken text place r []) (sym same) (subst (λ f. HasTaken text f text []) (sym first) (none_taken text))

-- The next node was taken.
pub next_taken : (text rest next : List ℕ) (place : Place) (done : List Node) (node : Node)
    → HasTaken text place rest done → TakesNode place rest node next
    → HasTaken text (place_after node) next (done ++ node ∷ [])
next_taken text rest next place done node taken takes = record {
  some = λ more is. rw append_assoc (taken.some (node ∷ more) (takes.some more is));
  only = λ nodes is.
      let first = taken.only nodes is in
      let second = takes.only first.0 first.2 in (
        second.0,
        first.1 ∙ ap (λ l. done ++ l) second.1 ∙ sym (append_assoc done (node ∷ []) second.0),
        second.2,
      );
}

-- The same, of a walk that knows where the node after it is.
pub then_taken : (text rest next : List ℕ) (place now : Place) (done : List Node) (node : Node)
    → HasTaken text place rest done → TakesNode place rest node next → now ≡ place_after node
    → HasTaken text now next (done ++ node ∷ [])
then_taken text rest next place now done node taken takes known =
    subst (λ f. HasTaken text f next (done ++ node ∷ [])) (sym known) (next_taken text rest next place done node taken takes)

-- A short node whose numbers have a byte each has an encoding.
pub node_fits : (node : Node) → length node.payload ≤ 0xfffb → node.device_type < 256 × node.sub_type < 256 → Fits node
node_fits node short numbers =
    record { device_type = numbers.0; sub_type = numbers.1; payload = omega (arith, short) }

end_fits : (node : Node) → length node.payload ≤ 0xfffb → IsEndEntire node → Fits node
end_fits node short is = node_fits node short (omega (arith, is.0), omega (arith, is.1))

-- Nodes before the one that ends a path, and one more.
pub none_before : AreBefore IsEndEntire []
none_before = record { each = tt; none = tt }

pub before_push : (done : List Node) (node : Node) → AreBefore IsEndEntire done → Fits node → ¬ IsEndEntire node
    → AreBefore IsEndEntire (done ++ node ∷ [])
before_push done node before fits other = record {
  each = AllByRecursion-push Fits done node before.each fits;
  none = AllByRecursion-push (λ n. ¬ IsEndEntire n) done node before.none other;
}

-- The nodes of a path that have a text, from those before its end.
shown_push : (done : List Node) (end : Node) → shown (done ++ end ∷ []) ≡ done ++ shown (end ∷ [])
unfolding shown
shown_push [] end = refl
shown_push (n ∷ []) end = refl
shown_push (n ∷ m ∷ done) end = ap (λ l. n ∷ l) (shown_push (m ∷ done) end)

end_hidden : shown (end_entire ∷ []) ≡ []
unfolding shown
end_hidden = refl

not_plain : (a b : Bool) → a ≡ false → b ≡ false → not (a || b) ≡ true
not_plain a b first second = λ i. not (first i || second i)

end_shown : (end : Node) → IsEndEntire end → is_plain_end 0xff end ≡ false → shown (end ∷ []) ≡ end ∷ []
unfolding shown
end_shown end is no_end =
    let other = false_from_ne_true (is_plain_end 0x01 end) (not_instance end is) in
    cond-true (is_shown_end end) _ _ (not_plain (is_plain_end 0x01 end) (is_plain_end 0xff end) other no_end)

-- The path of the nodes whose text ends.
text_of : (text : List ℕ) (done written : List Node) (end : Node) → AreBefore IsEndEntire done → Fits end → IsEndEntire end
    → shown (done ++ end ∷ []) ≡ written → IsTextOfNodes Start written text → IsTextOf (done ++ end ∷ []) text
text_of text done written end before fits is same text_is = record {
  is_path = AreEndedBy-append IsEndEntire done (end ∷ []) before (record { each = (fits, tt); end = is });
  is_written = subst (λ l. IsTextOfNodes Start l text) (sym same) text_is;
}

pub text_ends : (text rest : List ℕ) (place : Place) (done : List Node) → HasTaken text place rest done → rest ≡ []
    → AreBefore IsEndEntire done → IsTextOf (done ++ end_entire ∷ []) text
text_ends text rest place done taken none before =
    text_of text done (done ++ []) end_entire before
    (record { device_type = omega arith; sub_type = omega arith; payload = omega arith }) (refl, refl)
    (shown_push done end_entire ∙ ap (λ l. done ++ l) end_hidden) (taken.some [] none)

-- The path of the nodes, of which the last has a text and ends it.
pub end_written : (done : List Node) (end : Node) → IsEndEntire end → is_plain_end 0xff end ≡ false
    → shown (done ++ end ∷ []) ≡ done ++ end ∷ []
end_written done end is no_end = shown_push done end ∙ ap (λ l. done ++ l) (end_shown end is no_end)

pub text_ended : (text rest next : List ℕ) (place : Place) (done : List Node) (end : Node) → HasTaken text place rest done
    → TakesNode place rest end next → IsEndEntire end → next ≡ [] → AreBefore IsEndEntire done
    → IsTextOf (done ++ end ∷ []) text
text_ended text rest next place done end taken takes is none before =
    text_of text done (done ++ end ∷ []) end before (end_fits end takes.short is) is (end_written done end is takes.no_end)
    (taken.some (end ∷ []) (takes.some [] none))

-- No node follows the one that ends a path.
completed_done : (done more : List Node) → AllByRecursion (λ n. ¬ IsEndEntire n) done
    → completed (done ++ more) ≡ done ++ completed more
completed_done [] more none = refl
completed_done (n ∷ done) more none =
    cond-false _ _ _ (not_entire n none.0) ∙ ap (λ l. n ∷ l) (completed_done done more none.1)

completed_end : (end : Node) (more : List Node) → IsEndEntire end → completed (end ∷ more) ≡ end ∷ []
completed_end end more is = cond-true _ _ _ (ends end is)

none_more : (nodes more : List Node) → nodes ++ more ≡ nodes → more ≡ []
none_more nodes more same =
    let sized : length (nodes ++ more) ≡ length nodes = ap length same in
    nil_from_length more (omega (arith, sized, length-append nodes more))

-- The path of a text of which a node was taken that ends a path.
pub path_ended : (text rest next : List ℕ) (place : Place) (done : List Node) (end : Node) → HasTaken text place rest done
    → TakesNode place rest end next → IsEndEntire end → AreBefore IsEndEntire done
    → (path : List Node) → IsTextOf path text → path ≡ done ++ end ∷ []
path_ended text rest next place done end taken takes is before path text_is =
    let first = taken.only (shown path) text_is.is_written in
    let second = takes.only first.0 first.2 in
    sym (shown_completed path text_is.is_path.end) ∙ ap completed (first.1 ∙ ap (λ l. done ++ l) second.1)
    ∙ completed_done done (end ∷ second.0) before.none ∙ ap (λ l. done ++ l) (completed_end end second.0 is)

nil_text : (place : Place) (nodes : List Node) (text : List ℕ) → nodes ≡ [] → IsTextOfNodes place nodes text → text ≡ []
nil_text place nodes text none is = subst (λ l. IsTextOfNodes place l text) none is

pub none_after_end : (text rest next : List ℕ) (place : Place) (done : List Node) (end : Node)
    → HasTaken text place rest done → TakesNode place rest end next → IsEndEntire end → AreBefore IsEndEntire done
    → 0 < length next → (path : List Node) → ¬ IsTextOf path text
none_after_end text rest next place done end taken takes is before some path text_is =
    let same = path_ended text rest next place done end taken takes is before path text_is in
    let last = (next_taken text rest next place done end taken takes).only (shown path) text_is.is_written in
    let written = ap shown same ∙ end_written done end is takes.no_end in
    let none = none_more (done ++ end ∷ []) last.0 (sym last.1 ∙ written) in
    let empty : length next ≡ 0 = ap length (nil_text (place_after end) last.0 next none last.2) in
    omega (arith, empty, some)

-- What is left of a text of a path is that of nodes.
pub not_wrong : (text rest : List ℕ) (place : Place) (done path : List Node) → HasTaken text place rest done
    → IsTextOf path text → ¬ IsOfNoNodes place rest
not_wrong text rest place done path taken text_is none =
    let more = taken.only (shown path) text_is.is_written in none more.0 more.2

-- The fault of a text, from that of what is left.
pub text_fault : (text rest : List ℕ) (offset : ℕ) (error : FromTextError) → ((path : List Node) → ¬ IsTextOf path text)
    → offset + length rest ≡ length text → IsFrom offset (length rest) error → HasTextFault text error
text_fault text rest offset (UnknownNode at) none place is = record { within = omega (arith, place, is); none = none }
text_fault text rest offset (Argument at) none place is = record { within = omega (arith, place, is); none = none }
text_fault text rest offset (Missing at) none place is = record { within = omega (arith, place, is); none = none }
text_fault text rest offset (TooLong at) none place is = record { within = omega (arith, place, is); none = none }
text_fault text rest offset (Buffer needed) none place is = absurd is
text_fault text rest offset Memory none place is = absurd is

-- The length of the bytes of nodes, and of one more.
pub joined_push : (done : List Node) (node : Node) → joined (done ++ node ∷ []) ≡ joined done ++ encoding node
joined_push done node = joined-append done (node ∷ []) ∙ ap (λ l. joined done ++ l) (append-nil (encoding node))

pub length_push : (done : List Node) (node : Node)
    → length (joined (done ++ node ∷ [])) ≡ length (joined done) + length (encoding node)
length_push done node = ap length (joined_push done node) ∙ length-append (joined done) (encoding node)

-- The length, or the greatest number of a program, with one more node.
abbrev greatest : ℕ
greatest = 0xffffffffffffffff

pub sum_push : (done : List Node) (node : Node) (so_far size sum : ℕ) → so_far ≡ min (length (joined done)) greatest
    → size ≡ length (encoding node) → sum ≡ min (so_far + size) greatest
    → sum ≡ min (length (joined (done ++ node ∷ []))) greatest
sum_push done node so_far size sum before sized is = omega (arith, before, sized, is, length_push done node)

-- A node isn't one that ends a path if a test that holds of those doesn't hold.
pub other_node : {P : Type 0} → (b : Bool) → (P → b ≡ true) → b ≡ false → ¬ P
other_node b only off is = let on : b ≡ true = only is in cc

one_within : (b : Bool) (node : Node) → length (joined (cond b (node ∷ []) [])) ≤ length (joined (node ∷ []))
one_within true node = omega arith
one_within false node = omega arith

shown_within : (path : List Node) → length (joined (shown path)) ≤ length (joined path)
unfolding shown
shown_within [] = omega arith
shown_within (n ∷ []) = one_within (is_shown_end n) n
shown_within (n ∷ m ∷ path) =
    omega (arith, shown_within (m ∷ path), length-append (encoding n) (joined (shown (m ∷ path))), length-append (encoding n) (joined (m ∷ path)))

-- The nodes that were taken are within the path.
pub taken_within : (text rest : List ℕ) (place : Place) (done path : List Node) → HasTaken text place rest done
    → IsTextOf path text → length (joined done) ≤ length (joined path)
taken_within text rest place done path taken text_is =
    let more = taken.only (shown path) text_is.is_written in
    let sized : length (joined (shown path)) ≡ length (joined done) + length (joined more.0) =
    ap (λ l. length (joined l)) more.1 ∙ ap length (joined-append done more.0) ∙ length-append (joined done) (joined more.0) in
    omega (arith, sized, shown_within path)

-- So are they if the text ends, and the node that ends the path.
pub end_within : (text rest : List ℕ) (place : Place) (done path : List Node) → HasTaken text place rest done → rest ≡ []
    → AreBefore IsEndEntire done → IsTextOf path text → length (joined done) + 4 ≤ length (joined path)
end_within text rest place done path taken none before text_is =
    let same = one_path_of_text path (done ++ end_entire ∷ []) text text_is (text_ends text rest place done taken none before) in
    omega (arith, ap (λ l. length (joined l)) same, length_push done end_entire)

-- A result that isn't an error.
pub not_err : {T E P : Type 0} → (r : Result T E) → OnErr r P → ¬ P → IsOk r
not_err (Ok x) wrong none = refl
not_err (Err e) wrong none = absurd (none wrong)

-- One more node is written after those that are.
pub node_put : (done : List Node) (node : Node) (end : ℕ) (old now next : List ℕ) → end ≡ length (joined done)
    → now ≡ put_prefix (joined done) old → end ≤ length old → next ≡ put_at end (encoding node) now
    → next ≡ put_prefix (joined (done ++ node ∷ [])) old
node_put done node end old now next sized so_far within is =
    put_more end (joined done) (encoding node) (encoding node) old now next so_far (sym sized) within refl is
    ∙ ap (λ b. put_prefix b old) (sym (joined_push done node))

-- The same of the node that ends the path.
pub path_put : (done path : List Node) (node : Node) (end : ℕ) (old now next : List ℕ) → path ≡ done ++ node ∷ []
    → end ≡ length (joined done) → now ≡ put_prefix (joined done) old → end ≤ length old → next ≡ put_at end (encoding node) now
    → next ≡ put_prefix (joined path) old
path_put done path node end old now next same sized so_far within is =
    node_put done node end old now next sized so_far within is ∙ ap (λ l. put_prefix (joined l) old) (sym same)

-- The bytes that a path was written to.
pub path_bytes : (path : List Node) (n : ℕ) (old now front : List ℕ) → n ≡ length (joined path)
    → now ≡ put_prefix (joined path) old → front ≡ take n now → IsPrefix (joined path) front
path_bytes path n old now front sized written is = (
  [],
  is ∙ (λ i. take (sized i) (written i)) ∙ take-append_seam (joined path) (drop (length (joined path)) old)
      ∙ sym (append-nil (joined path)),
)
