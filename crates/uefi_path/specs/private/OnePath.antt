-- Bytes encode at most one path, and at most one list of instances.
use Rattle.std.proofs.Common.{◌≡◌, ℕ, List, [], ◌∷◌, ◌++◌, refl, sym, ◌∙◌, ap, subst, append_assoc}
use Rattle.std.proofs.Props.{props}
use mathlib.Core.HLevel.{Σ_prop_path, ×_prop, Π_prop, ⊥_prop}
use Rattle.std.specs.List.{AllByRecursion, AllByRecursion-prop}
use Rattle.uefi_path.specs.Node.{Node, Fits, encoding, joined, IsEndEntire, IsEnd}
use Rattle.uefi_path.specs.Path.{LastAlone, AreEndedBy, AreBefore, IsPath, IsInstance, concat}
use Rattle.uefi_path.specs.private.Encoding.{AreNodes, IsEncodingOfNodes, IsEncodingBefore, EncodesBefore, EncodesNodes, EncodesPath, EncodesInstance, IsEncodingOfInstances, EncodesInstances}
use Rattle.uefi_path.specs.private.OneNode.{one_encoding, Fits-prop}

-- A node, and nodes that start the same bytes: the first node is the same, and so is what follows it.
pub same_first : (n m : Node) (ms : List Node) (x y : List ℕ) → Fits n → Fits m → encoding n ++ x ≡ joined (m ∷ ms)
    ++ y → (n ≡ m) × (x ≡ joined ms ++ y)
same_first n m ms x y fits_n fits_m e =
    one_encoding n m x (joined ms ++ y) fits_n fits_m (e ∙ append_assoc (encoding m) (joined ms) y)

-- The same of two lists of nodes.
pub same_firsts : (n m : Node) (ns ms : List Node) (x y : List ℕ) → Fits n → Fits m → joined (n ∷ ns)
    ++ x ≡ joined (m ∷ ms) ++ y → (n ≡ m) × (joined ns ++ x ≡ joined ms ++ y)
same_firsts n m ns ms x y fits_n fits_m e =
    same_first n m ms (joined ns ++ x) y fits_n fits_m (sym (append_assoc (encoding n) (joined ns) x) ∙ e)

-- Lists of nodes that end so are equal if their encodings start the same bytes.
one_list_of_nodes : (P : Node → Type 0) (ns ms : List Node) (x y : List ℕ) → AreNodes ns → AreNodes ms
    → LastAlone P ns → LastAlone P ms
    → joined ns ++ x ≡ joined ms ++ y → (ns ≡ ms) × (x ≡ y)
one_list_of_nodes P [] ms x y fn fm ln lm e = absurd ln
one_list_of_nodes P (n ∷ []) [] x y fn fm ln lm e = absurd lm
one_list_of_nodes P (n ∷ k ∷ ns) [] x y fn fm ln lm e = absurd lm
one_list_of_nodes P (n ∷ []) (m ∷ []) x y fn fm ln lm e =
    let first = same_firsts n m [] [] x y fn.0 fm.0 e in
    (ap (λ k. k ∷ []) first.0, first.1)
one_list_of_nodes P (n ∷ []) (m ∷ k ∷ ms) x y fn fm ln lm e =
    let first = same_firsts n m [] (k ∷ ms) x y fn.0 fm.0 e in
    absurd (lm.0 (subst P first.0 ln))
one_list_of_nodes P (n ∷ k ∷ ns) (m ∷ []) x y fn fm ln lm e =
    let first = same_firsts n m (k ∷ ns) [] x y fn.0 fm.0 e in
    absurd (ln.0 (subst P (sym first.0) lm))
one_list_of_nodes P (n ∷ k ∷ ns) (m ∷ l ∷ ms) x y fn fm ln lm e =
    let first = same_firsts n m (k ∷ ns) (l ∷ ms) x y fn.0 fm.0 e in
    let others = one_list_of_nodes P (k ∷ ns) (l ∷ ms) x y fn.1 fm.1 ln.1 lm.1 first.1 in
    let same_head : n ≡ m = first.0 in
    let same_others : (k ∷ ns) ≡ (l ∷ ms) = others.0 in
    ((cc), others.1)

-- The same of nodes with the facts in one record.
pub one_ended : (P : Node → Type 0) (ns ms : List Node) (x y : List ℕ) → AreEndedBy P ns → AreEndedBy P ms
    → joined ns ++ x ≡ joined ms ++ y → (ns ≡ ms) × (x ≡ y)
one_ended P ns ms x y p q e = one_list_of_nodes P ns ms x y p.each q.each p.end q.end e

-- No path is a proper prefix of another.
pub one_path : (ns ms : List Node) (x y : List ℕ) → IsPath ns → IsPath ms → joined ns ++ x ≡ joined ms ++ y
    → (ns ≡ ms) × (x ≡ y)
one_path = one_ended IsEndEntire

-- Equal bytes encode equal lists of such nodes.
pub same_nodes : (P : Node → Type 0) (bytes others : List ℕ) (ns ms : List Node) → bytes ≡ others
    → IsEncodingOfNodes P bytes ns → IsEncodingOfNodes P others ms → ns ≡ ms
same_nodes P bytes others ns ms same s t =
    (one_ended P ns ms [] [] s.ended t.ended (ap (λ b. b ++ []) (sym s.encoded ∙ same ∙ t.encoded))).0

-- Bytes encode at most one list of such nodes.
pub nodes_encoded_once : (P : Node → Type 0) (bytes : List ℕ) (ns ms : List Node) → IsEncodingOfNodes P bytes ns
    → IsEncodingOfNodes P bytes ms → ns ≡ ms
nodes_encoded_once P bytes ns ms = same_nodes P bytes bytes ns ms refl

-- The encoding of two lists of nodes is both encodings, in order.
pub joined-append : (ns ms : List Node) → joined (ns ++ ms) ≡ joined ns ++ joined ms
joined-append [] ms = refl
joined-append (n ∷ ns) ms = ap (λ s. encoding n ++ s) (joined-append ns ms)
    ∙ sym (append_assoc (encoding n) (joined ns) (joined ms))

-- The encoding of an instance isn't empty.
pub some_bytes : (p : List Node) (x : List ℕ) → IsInstance p → joined p ++ x ≡ [] → ⊥
some_bytes [] x i e = absurd i.end
some_bytes (n ∷ ns) x i e = cc

-- Bytes encode at most one list of instances.
pub instances_encoded_once : (ps qs : List (List Node)) → AllByRecursion IsInstance ps → AllByRecursion IsInstance qs
    → joined (concat ps) ≡ joined (concat qs) → ps ≡ qs
instances_encoded_once [] [] ip iq e = refl
instances_encoded_once [] (q ∷ qs) ip iq e =
    absurd (some_bytes q (joined (concat qs)) iq.0 (sym (joined-append q (concat qs)) ∙ sym e))
instances_encoded_once (p ∷ ps) [] ip iq e =
    absurd (some_bytes p (joined (concat ps)) ip.0 (sym (joined-append p (concat ps)) ∙ e))
instances_encoded_once (p ∷ ps) (q ∷ qs) ip iq e =
    let first = one_ended IsEnd p q (joined (concat ps)) (joined (concat qs)) ip.0 iq.0
    (sym (joined-append p (concat ps)) ∙ e ∙ joined-append q (concat qs)) in
    let same_head : p ≡ q = first.0 in
    let same_others : ps ≡ qs = instances_encoded_once ps qs ip.1 iq.1 first.1 in
    (cc)

-- There is at most one proof of each of these facts, so that a view may keep it.
LastAlone-prop : {A : Type 0} (P : A → Type 0) → ((x : A) → IsProp (P x)) → (xs : List A) → IsProp (LastAlone P xs)
LastAlone-prop P p [] = ⊥_prop
LastAlone-prop P p (x ∷ []) = p x
LastAlone-prop P p (x ∷ y ∷ ys) = ×_prop (Π_prop (λ _. ⊥_prop)) (LastAlone-prop P p (y ∷ ys))

AreEndedBy-prop : (P : Node → Type 0) → ((n : Node) → IsProp (P n)) → (ns : List Node) → IsProp (AreEndedBy P ns)
AreEndedBy-prop P p ns = hlevel (AllByRecursion-prop Fits Fits-prop ns, LastAlone-prop P p ns)

IsEncodingOfNodes-prop : (P : Node → Type 0) → ((n : Node) → IsProp (P n)) → (bytes : List ℕ) (ns : List Node)
    → IsProp (IsEncodingOfNodes P bytes ns)
IsEncodingOfNodes-prop P p bytes ns = hlevel (props, AreEndedBy-prop P p ns)

pub EncodesNodes-prop : (P : Node → Type 0) → ((n : Node) → IsProp (P n)) → (bytes : List ℕ)
    → IsProp (EncodesNodes P bytes)
EncodesNodes-prop P p bytes s t =
    Σ_prop_path (IsEncodingOfNodes-prop P p bytes) (nodes_encoded_once P bytes s.0 t.0 s.1 t.1)

pub IsEndEntire-prop : (n : Node) → IsProp (IsEndEntire n)
IsEndEntire-prop n = hlevel props

pub IsEnd-prop : (n : Node) → IsProp (IsEnd n)
IsEnd-prop n = hlevel props

pub EncodesPath-prop : (bytes : List ℕ) → IsProp (EncodesPath bytes)
EncodesPath-prop = EncodesNodes-prop IsEndEntire IsEndEntire-prop

pub EncodesInstance-prop : (bytes : List ℕ) → IsProp (EncodesInstance bytes)
EncodesInstance-prop = EncodesNodes-prop IsEnd IsEnd-prop

pub IsPath-prop : (p : List Node) → IsProp (IsPath p)
IsPath-prop = AreEndedBy-prop IsEndEntire IsEndEntire-prop

IsInstance-prop : (p : List Node) → IsProp (IsInstance p)
IsInstance-prop = AreEndedBy-prop IsEnd IsEnd-prop

IsEncodingOfInstances-prop : (bytes : List ℕ) (ps : List (List Node)) → IsProp (IsEncodingOfInstances bytes ps)
IsEncodingOfInstances-prop bytes ps = hlevel (props, AllByRecursion-prop IsInstance IsInstance-prop ps)

pub EncodesInstances-prop : (bytes : List ℕ) → IsProp (EncodesInstances bytes)
EncodesInstances-prop bytes s t =
    Σ_prop_path (IsEncodingOfInstances-prop bytes) (instances_encoded_once s.0 t.0 s.1.each t.1.each
    (sym s.1.encoded ∙ t.1.encoded))

-- Bytes encode at most one list of nodes.
nodes_before_encoded_once : (ns ms : List Node) → AreNodes ns → AreNodes ms → joined ns ≡ joined ms → ns ≡ ms
nodes_before_encoded_once [] [] fn fm e = refl
nodes_before_encoded_once [] (m ∷ ms) fn fm e = cc
nodes_before_encoded_once (n ∷ ns) [] fn fm e = cc
nodes_before_encoded_once (n ∷ ns) (m ∷ ms) fn fm e =
    let first = one_encoding n m (joined ns) (joined ms) fn.0 fm.0 e in
    let same_head : n ≡ m = first.0 in
    let same_others : ns ≡ ms = nodes_before_encoded_once ns ms fn.1 fm.1 first.1 in
    (cc)

-- Equal bytes encode equal lists of nodes.
pub same_nodes_before : (bytes others : List ℕ) (ns ms : List Node) → bytes ≡ others → IsEncodingBefore bytes ns
    → IsEncodingBefore others ms → ns ≡ ms
same_nodes_before bytes others ns ms same s t =
    nodes_before_encoded_once ns ms s.before.each t.before.each (sym s.encoded ∙ same ∙ t.encoded)

AreBefore-prop : (ns : List Node) → IsProp (AreBefore IsEndEntire ns)
AreBefore-prop ns =
    hlevel (AllByRecursion-prop Fits Fits-prop ns, AllByRecursion-prop (λ n. ¬ IsEndEntire n) (λ n. Π_prop (λ _. ⊥_prop)) ns)

IsEncodingBefore-prop : (bytes : List ℕ) (ns : List Node) → IsProp (IsEncodingBefore bytes ns)
IsEncodingBefore-prop bytes ns = hlevel (props, AreBefore-prop ns)

pub EncodesBefore-prop : (bytes : List ℕ) → IsProp (EncodesBefore bytes)
EncodesBefore-prop bytes s t =
    Σ_prop_path (IsEncodingBefore-prop bytes) (same_nodes_before bytes bytes s.0 t.0 refl s.1 t.1)
