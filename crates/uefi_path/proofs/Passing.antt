-- A walk over the nodes that bytes start with.
use Rattle.std.proofs.Common.{◌≡◌, ℕ, ◌-◌, List, [], ◌∷◌, ◌++◌, length, take, refl, sym, ◌∙◌, ap, subst, arith}
use Rattle.std.proofs.Common.{append_assoc, ◌<◌, Result, Ok, Err, IfOk, MatchOption}
use Rattle.std.specs.List.{IsSplitAt}
use Rattle.std.specs.Result.{result_ok}
use Rattle.std.proofs.lemmas.Grind.{common_steps, flat_map-append}
use Rattle.std.proofs.lemmas.List.{append-nil}
use Rattle.std.specs.List.{AllByRecursion, flat_map}
use Rattle.uefi_path.specs.Node.{Node, Fits, encoding, joined, HasNode}
use Rattle.uefi_path.specs.Path.{LastAlone, AreEndedBy, all_but_last}
use Rattle.uefi_path.specs.private.Encoding.{AreNodes, HasNodes, EncodesNodes, IsEncodingOfNodes}
use Rattle.uefi_path.specs.private.OnePath.{one_ended}
use Rattle.uefi_path.proofs.Steps.{HasNodes-node, after_first}

-- The bytes are the encoding of the nodes, none of which satisfies P, and then the rest.
pub record PassesNodes (P : Node → Type 0) (bytes rest : List ℕ) (nodes : List Node) : Type 0 where
  pub each : AreNodes nodes
  pub none : AllByRecursion (λ n. P n → ⊥) nodes
  pub split : bytes ≡ joined nodes ++ rest

-- The walk has passed some nodes, none of which satisfies P, and is at the rest.
abbrev pub HasPassed : (Node → Type 0) → List ℕ → List ℕ → Type 0
HasPassed P bytes rest = (nodes : List Node) × PassesNodes P bytes rest nodes

-- All elements have a property, and so does one more.
pub AllByRecursion-push : {A : Type 0} (P : A → Type 0) (xs : List A) (x : A) → AllByRecursion P xs → P x
    → AllByRecursion P (xs ++ x ∷ [])
AllByRecursion-push P [] x all one = (one, tt)
AllByRecursion-push P (y ∷ xs) x all one = (all.0, AllByRecursion-push P xs x all.1 one)

-- No element satisfies P, and one more does.
LastAlone-push : {A : Type 0} (P : A → Type 0) (xs : List A) (x : A) → AllByRecursion (λ y. P y → ⊥) xs → P x
    → LastAlone P (xs ++ x ∷ [])
LastAlone-push P [] x none last = last
LastAlone-push P (y ∷ []) x none last = (none.0, last)
LastAlone-push P (y ∷ z ∷ xs) x none last = (none.0, LastAlone-push P (z ∷ xs) x none.1 last)

-- The bytes of some elements and of one more, and then others.
pub flat_map-push : {A : Type 0} (f : A → List ℕ) (xs : List A) (x : A) (rest : List ℕ)
    → flat_map f (xs ++ x ∷ []) ++ rest ≡ flat_map f xs ++ (f x ++ rest)
flat_map-push f xs x rest = simp (flat_map-append, append_assoc)

-- What comes before the rest of the bytes.
pub front_is : (bytes front rest : List ℕ) → bytes ≡ front ++ rest → take (length bytes - length rest) bytes ≡ front
front_is bytes front rest split = grind (arith, common_steps)

-- The walk continues after a node that doesn't satisfy P.
pub passed_more : (P : Node → Type 0) (bytes rest after : List ℕ) (n : Node) → HasPassed P bytes rest → Fits n
    → (P n → ⊥)
    → rest ≡ encoding n ++ after → HasPassed P bytes after
passed_more P bytes rest after n before fits not_so e = (
  before.0 ++ n ∷ [],
  record {
    each = AllByRecursion-push Fits before.0 n before.1.each fits;
    none = AllByRecursion-push (λ m. P m → ⊥) before.0 n before.1.none not_so;
    split = before.1.split ∙ ap (λ s. joined before.0 ++ s) e ∙ sym (flat_map-push encoding before.0 n after);
  },
)

-- The walk stops at a node that satisfies P: the bytes up to its end encode such nodes.
pub passed_end : (P : Node → Type 0) (bytes rest after : List ℕ) (n : Node) → HasPassed P bytes rest → Fits n → P n
    → rest ≡ encoding n ++ after
    → EncodesNodes P (take (length bytes - length after) bytes)
passed_end P bytes rest after n before fits so e =
    let nodes : List Node = before.0 ++ n ∷ [] in
    let split : bytes ≡ joined nodes ++ after = before.1.split ∙ ap (λ s. joined before.0 ++ s) e
    ∙ sym (flat_map-push encoding before.0 n after) in (
      nodes,
      record {
        ended = record {
          each = AllByRecursion-push Fits before.0 n before.1.each fits;
          end = LastAlone-push P before.0 n before.1.none so;
        };
        encoded = front_is bytes (joined nodes) after split;
      },
    )

-- After a node that doesn't satisfy P, the bytes still start with such nodes.
pub HasNodes-after : (P : Node → Type 0) (bytes after : List ℕ) (n : Node) → HasNodes P bytes → Fits n → (P n → ⊥)
    → bytes ≡ encoding n ++ after → HasNodes P after
HasNodes-after P bytes after n has fits not_so e =
    let others = after_first P n has.0 after has.2.0 fits not_so has.1 (sym e ∙ has.2.1) in
    (others.0, others.1, (has.2.0, others.2))

-- So they do after any number of such nodes.
HasNodes-after_all : (P : Node → Type 0) (ns : List Node) (bytes rest : List ℕ) → AreNodes ns
    → AllByRecursion (λ n. P n → ⊥) ns → HasNodes P bytes → bytes ≡ joined ns ++ rest
    → HasNodes P rest
HasNodes-after_all P [] bytes rest each none has e = subst (HasNodes P) e has
HasNodes-after_all P (n ∷ ns) bytes rest each none has e =
    let after : List ℕ = joined ns ++ rest in
    HasNodes-after_all P ns after rest each.1 none.1
    (HasNodes-after P bytes after n has each.0 none.0 (e ∙ append_assoc (encoding n) (joined ns) rest)) refl

-- If the rest starts with no node, the bytes start with no such nodes.
pub passed_nowhere : (P : Node → Type 0) (bytes rest : List ℕ) → HasPassed P bytes rest → ¬ HasNode rest
    → ¬ HasNodes P bytes
passed_nowhere P bytes rest before refused has =
    refused (HasNodes-node P rest (HasNodes-after_all P before.0 bytes rest before.1.each before.1.none has
    before.1.split))

-- A list without its last element.
pub all_but_last-push : {A : Type 0} (xs : List A) (x : A) → all_but_last (xs ++ x ∷ []) ≡ xs
all_but_last-push [] x = refl
all_but_last-push (y ∷ []) x = refl
all_but_last-push (y ∷ z ∷ xs) x = ap (λ s. y ∷ s) (all_but_last-push (z ∷ xs) x)

-- The walk stops at a node that satisfies P: the nodes that it has passed and this one are all.
passed_all : (P : Node → Type 0) (bytes rest after : List ℕ) (n : Node) (nodes : List Node)
    → (before : HasPassed P bytes rest) → Fits n → P n → rest ≡ encoding n ++ after → IsEncodingOfNodes P bytes nodes
    → nodes ≡ before.0 ++ n ∷ []
passed_all P bytes rest after n nodes before fits so e encodes =
    let passed : List Node = before.0 ++ n ∷ [] in
    let split : bytes ≡ joined passed ++ after = before.1.split ∙ ap (λ s. joined before.0 ++ s) e
    ∙ sym (flat_map-push encoding before.0 n after) in
    let ended : AreEndedBy P passed = record {
      each = AllByRecursion-push Fits before.0 n before.1.each fits;
      end = LastAlone-push P before.0 n before.1.none so;
    } in
    (one_ended P nodes passed [] after encodes.ended ended
    (append-nil (joined nodes) ∙ sym encodes.encoded ∙ split)).0

-- So the bytes before it are the nodes before the last.
pub passed_before : (P : Node → Type 0) (bytes rest after : List ℕ) (n : Node) (nodes : List Node)
    → HasPassed P bytes rest → Fits n → P n → rest ≡ encoding n ++ after → IsEncodingOfNodes P bytes nodes
    → take (length bytes - length rest) bytes ≡ joined (all_but_last nodes)
passed_before P bytes rest after n nodes before fits so e encodes =
    front_is bytes (joined before.0) rest before.1.split
    ∙ ap joined (sym (ap all_but_last (passed_all P bytes rest after n nodes before fits so e encodes)
    ∙ all_but_last-push before.0 n))

-- And it is the last.
pub passed_end_node : (P : Node → Type 0) (bytes rest after : List ℕ) (n : Node) (nodes : List Node)
    → HasPassed P bytes rest → Fits n → P n → rest ≡ encoding n ++ after → IsEncodingOfNodes P bytes nodes
    → nodes ≡ all_but_last nodes ++ n ∷ []
passed_end_node P bytes rest after n nodes before fits so e encodes =
    let all : nodes ≡ before.0 ++ n ∷ [] = passed_all P bytes rest after n nodes before fits so e encodes in
    all ∙ ap (λ front. front ++ n ∷ []) (sym (ap all_but_last all ∙ all_but_last-push before.0 n))

-- The front that is split off has what so many of the bytes have.
pub ok_front : {X E : Type 0} (front back : X → List ℕ) (Q : List ℕ → Type 0) (bytes : List ℕ) (n : ℕ) (r : Result X E)
    → MatchOption (result_ok r) (length bytes < n) (λ p. IsSplitAt bytes n (front p) (back p))
    → Q (take n bytes) → IfOk r (λ p. Q (front p))
ok_front front back Q bytes n (Ok p) split so = subst Q (sym split.1) so
ok_front front back Q bytes n (Err e) split so = tt
