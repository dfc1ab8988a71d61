-- The one group that pairs begin with, and the one cut of a text.
use Rattle.std.proofs.Common.{◌≡◌, ◌≢◌, ℕ, zero, suc, ◌+◌, ◌<◌, ◌≤◌, List, [], ◌∷◌, ◌++◌, length, refl, sym, ◌∙◌, ap}
use Rattle.std.proofs.Common.{arith, length-append}
use Rattle.std.specs.Prelude.{Option, Result}
use Rattle.uefi_hii.specs.declared.error.ParseError.{ParseError}
use Rattle.uefi_hii.specs.Pairs.{Pair, pairs}
use Rattle.uefi_hii.specs.Configuration.{Configuration}
use Rattle.uefi_hii.specs.Group.{Group}
use Rattle.uefi_hii.specs.Cut.{AreGroups, Part, pairs_of}
use Rattle.uefi_hii.specs.Laws.{BeginsWith, HasOneCut, OneGroup}
use Rattle.uefi_hii.proofs.Complete.{complete}
use Rattle.uefi_hii.proofs.Machine.{Outcome, Start, outcome, run}
use Rattle.uefi_hii.proofs.Sound.{IsFound, WasRead, found}

-- What the machine finds of all the pairs.
read : List Pair → Outcome
read ps = run Start [] ps

read_found : (ps : List Pair) → ps ≢ [] → IsFound ps (read ps)
unfolding read WasRead
read_found ps some = found Start [] ps refl some

read_is : (ps g : List Pair) (r : Result Configuration ParseError) → (b : BeginsWith ps g r) → read ps ≡ outcome g b.0 r
unfolding read
read_is ps g r b = ap read b.1 ∙ complete g b.0 r b.2.gives

pub one_group : OneGroup
one_group ps some =
    let o = read ps in
    let f = read_found ps some in
    record {
      group = o.group;
      result = o.result;
      begins = (o.rest, f.whole, f.group);
      no_other = λ h q b. let e = read_is ps h q b in (ap (λ x. x.group) (sym e), ap (λ x. x.result) (sym e));
    }

some_length : (g : List Pair) → g ≢ [] → 0 < length g
some_length [] some = absurd (some refl)
some_length (p ∷ g) some = omega arith

-- Parts that together are these pairs.
AreCut : List Pair → Type 0
AreCut ps = (parts : List Part) × (pairs_of parts ≡ ps) × AreGroups parts

-- A part, by its group and its result.
abbrev pub part : List Pair → Result Configuration ParseError → Part
part g r = record { group = g; result = r }

some_cut : (k : ℕ) (ps : List Pair) → length ps ≤ k → AreCut ps
unfolding AreCut
some_cut k [] short = ([], refl, tt)
some_cut zero (p ∷ ps) short = absurd (omega arith)
some_cut (suc k) (p ∷ ps) short =
    let o = read (p ∷ ps) in
    let f = read_found (p ∷ ps) (λ e. cc) in
    let n : length (p ∷ ps) ≡ length o.group + length o.rest = ap length f.whole ∙ length-append o.group o.rest in
    let more = some_cut k o.rest (omega (arith, n, some_length o.group f.group.not_empty, short)) in (
      part o.group o.result ∷ more.0,
      rw more.1 (sym f.whole),
      (rw more.1 f.group, more.2),
    )

-- A group has pairs.
pub group_some : (g rest : List Pair) (p : Option Pair) (r : Result Configuration ParseError) → Group g p r
    → g ++ rest ≡ [] → ⊥
group_some [] rest p r h e = h.not_empty refl
group_some (q ∷ g) rest p r h e = cc

same_part : (a b : Part) → a.group ≡ b.group → a.result ≡ b.result → a ≡ b
same_part a b g r = ap (λ x. part x a.result) g ∙ ap (part b.group) r

-- Parts that together are the same pairs are the same.
pub cut_once : (l m : List Part) → pairs_of l ≡ pairs_of m → AreGroups l → AreGroups m → l ≡ m
cut_once [] [] e a b = refl
cut_once [] (f ∷ m) e a b = absurd (group_some f.group (pairs_of m) _ f.result b.0 (sym e))
cut_once (e ∷ l) [] p a b = absurd (group_some e.group (pairs_of l) _ e.result a.0 p)
cut_once (e ∷ l) (f ∷ m) p a b =
    let x = read_is (pairs_of (e ∷ l)) e.group e.result (pairs_of l, refl, a.0) in
    let y = read_is (pairs_of (e ∷ l)) f.group f.result (pairs_of m, p, b.0) in
    let z : outcome e.group (pairs_of l) e.result ≡ outcome f.group (pairs_of m) f.result = sym x ∙ y in
    let head : e ≡ f = same_part e f (ap (λ w. w.group) z) (ap (λ w. w.result) z) in
    let tail : l ≡ m = cut_once l m (ap (λ w. w.rest) z) a.1 b.1 in
    (cc)

pub has_one_cut : (text : List ℕ) → HasOneCut text
unfolding AreCut
has_one_cut text =
    let c = some_cut (length (pairs text)) (pairs text) (omega arith) in
    record {
      parts = c.0;
      cut = record { whole = c.1; each = c.2 };
      no_other =
          λ other o. cut_once other c.0 (o.whole ∙ sym c.1) o.each c.2;
    }
