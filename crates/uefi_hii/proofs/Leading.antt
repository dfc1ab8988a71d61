-- Where pairs lead that spell a configuration.
use Rattle.std.proofs.Common.{◌≡◌, ◌≢◌, ℕ, true, false, List, [], ◌∷◌, ◌++◌, refl, ◌∙◌, ap, arith}
use Rattle.std.proofs.Common.{append_assoc}
use Rattle.std.proofs.lemmas.List.{append-nil}
use Rattle.std.proofs.lemmas.Bool.{false_from_ne_true}
use Rattle.std.proofs.lemmas.Bool.Decides.{not_from_Decides}
use Rattle.std.proofs.lemmas.Slice.Eq.{bytes_eq-Decides}
use Rattle.std.specs.Prelude.{Some, codes}
use Rattle.std.specs.Str.{bytes_eq}
use Rattle.std.specs.List.{AllByRecursion}
use Rattle.uefi_path.specs.Node.{Node}
use Rattle.uefi_hii.specs.Pairs.{Pair}
use Rattle.uefi_hii.specs.Configuration.{Configuration, Element, Spells, SpellsElement, SpellsElements}
use Rattle.uefi_hii.specs.Configuration.{IsSkipped, SpellsHeader, number_in}
use Rattle.uefi_hii.proofs.Machine.{AfterOffset, InBody, Leads, Next, Start, Stop, element, expect, header_of, in_body}
use Rattle.uefi_hii.proofs.Machine.{last_with_pair, leads_on, on_next, step, steps, with_alt, with_element, with_pair}
use Rattle.uefi_hii.proofs.Machine.{with_skipped}
use Rattle.uefi_hii.proofs.PathIn.{path_in-is}

-- The test of a key, where the pair has it, and where it has another.
pub is_key : (k key : List ℕ) → k ≡ key → bytes_eq k key ≡ true
is_key k key = (bytes_eq-Decides k key).1

pub is_not_key : (k key : List ℕ) → k ≢ key → bytes_eq k key ≡ false
is_not_key k key other = false_from_ne_true (bytes_eq k key) (λ same. other ((bytes_eq-Decides k key).0 same))

pub is_other : (k key : List ℕ) → bytes_eq k key ≡ false → k ≢ key
is_other k key = not_from_Decides (bytes_eq k key) (bytes_eq-Decides k key)

-- A pair with a number under a key has the key.
number_key : (key : List ℕ) (p : Pair) (n : ℕ) → number_in key p ≡ Some n → p.key ≡ key
number_key key p n e = let same = (bytes_eq-Decides p.key key).0 in grind arith

pub push_some : {A : Type 0} (xs : List A) (x : A) → xs ++ x ∷ [] ≢ []
push_some [] x e = cc
push_some (y ∷ xs) x e = cc

-- In a body, a pair with an offset is read.
pub step-offset : (c : Configuration) (p : Pair) (n : ℕ) → number_in (codes "OFFSET") p ≡ Some n
    → step (InBody c) p ≡ Next (AfterOffset c n)
unfolding step in_body expect
step-offset c p n e =
    let key : p.key ≡ codes "OFFSET" = number_key (codes "OFFSET") p n e in
    let other : bytes_eq p.key (codes "ALTCFG") ≡ false = ap (λ k. bytes_eq k (codes "ALTCFG")) key in
    let same = is_key p.key _ key in grind arith

-- Behind an element, a pair of neither key is skipped, and the last element keeps it.
step-skip : (c : Configuration) (p : Pair) → c.elements ≢ [] → IsSkipped p
    → step (InBody c) p ≡ Next (InBody (with_skipped c p))
unfolding step in_body expect
step-skip c p some s = let offset = is_not_key p.key _ s.0 in let guid = is_not_key p.key _ s.1 in grind arith

-- Behind an element, a pair with the key GUID begins the next group.
pub step-stop : (c : Configuration) (p : Pair) → c.elements ≢ [] → p.key ≡ codes "GUID" → step (InBody c) p ≡ Stop
unfolding step in_body expect
step-stop c p some key =
    let other : bytes_eq p.key (codes "OFFSET") ≡ false = ap (λ k. bytes_eq k (codes "OFFSET")) key in
    let same = is_key p.key _ key in grind arith

-- Behind a header, a pair with an identifier is read.
pub step-alt : (g n : List ℕ) (path : List Node) (a : Pair) (id : ℕ) → number_in (codes "ALTCFG") a ≡ Some id
    → step (InBody (header_of g n path)) a ≡ Next (InBody (with_alt (header_of g n path) id))
unfolding step in_body expect
step-alt g n path a id e = let same = is_key a.key _ (number_key (codes "ALTCFG") a id e) in cc

-- The configuration of the header alone.
abbrev bare : Configuration → Configuration
bare c = record c { elements = [] }

-- A header leads to the configuration of it alone.
leads_header : (h : List Pair) (c : Configuration) → SpellsHeader h c → Leads Start h (InBody (bare c))
unfolding steps on_next step expect
leads_header h c s = grind (arith, path_in-is, step-alt)

-- The last of elements skips a pair more.
last_with_pair-push : (es : List Element) (e : Element) (p : Pair)
    → last_with_pair (es ++ e ∷ []) p ≡ es ++ with_pair e p ∷ []
last_with_pair-push [] e p = refl
last_with_pair-push (f ∷ []) e p = refl
last_with_pair-push (f ∷ g ∷ es) e p = ap (λ x. f ∷ x) (last_with_pair-push (g ∷ es) e p)

-- Skipped pairs lead to the configuration whose last element has them.
leads_skipped : (ps : List Pair) (c : Configuration) (e : Element) → AllByRecursion IsSkipped ps
    → Leads (InBody (with_element c e)) ps (InBody (with_element c (record e { nvconfig = e.nvconfig ++ ps })))
unfolding steps on_next
leads_skipped [] c e s = rw (append-nil e.nvconfig)
leads_skipped (p ∷ ps) c e s =
    rw (
      step-skip (with_element c e) p (push_some c.elements e) s.0,
      last_with_pair-push c.elements e p,
      ← append_assoc e.nvconfig (p ∷ []) ps,
    ) (leads_skipped ps c (with_pair e p) s.1)

-- An element leads to the configuration with it, and elements to that with all of them.
leads_element : (ps : List Pair) (e : Element) (c : Configuration) → SpellsElement ps e
    → Leads (InBody c) ps (InBody (with_element c e))
unfolding steps on_next step expect
leads_element [] e c s = absurd s
leads_element (o ∷ []) e c s = absurd s
leads_element (o ∷ w ∷ []) e c s = absurd s
leads_element (o ∷ w ∷ v ∷ ps) e c s =
    rw (step-offset c o e.offset s.0, s.1, s.2)
    (leads_skipped ps c (element e.offset e.width e.value) s.4
    ∙ ap (λ x. Next (InBody (with_element c (record e { nvconfig = x })))) s.3)

leads_elements : (ps : List Pair) (es : List Element) (c : Configuration) → SpellsElements ps es
    → Leads (InBody c) ps (InBody (record c { elements = c.elements ++ es }))
unfolding steps
leads_elements ps [] c s = rw (s, append-nil c.elements)
leads_elements ps (e ∷ es) c s =
    rw s.2 (leads_on (InBody c) (InBody (with_element c e)) _ s.0 s.1 (leads_element s.0 e c s.3)
    (leads_elements s.1 es (with_element c e) s.4
    ∙ ap (λ x. Next (InBody (record c { elements = x }))) (append_assoc c.elements (e ∷ []) es)))

-- The pairs of a configuration lead to it.
pub leads_body : (ps : List Pair) (c : Configuration) → Spells ps c → Leads Start ps (InBody c)
leads_body ps c s =
    rw s.whole (leads_on Start (InBody (bare c)) (InBody c) s.header s.rest (leads_header s.header c s.is_header)
    (leads_elements s.rest c.elements (bare c) s.elements))
