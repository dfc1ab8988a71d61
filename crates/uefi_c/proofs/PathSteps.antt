-- Nodes and instances of a path, step by step.
use Rattle.std.proofs.Common.{◌≡◌, ℕ, ◌+◌, ◌<◌, List, [], ◌∷◌, ◌++◌, length, map, drop, refl, sym, ap, subst, ◌∙◌}
use Rattle.std.proofs.Common.{append_assoc, arith, inl, inr}
use Rattle.std.specs.List.{AllByRecursion}
use Rattle.std.proofs.lemmas.List.{append-nil, map-append, length-append, length-drop}
use Rattle.uefi_path.specs.Node.{Node, encoding, joined, IsEnd, IsEndEntire}
use Rattle.uefi_path.specs.Path.{IsInstance, AreEndedBy, AreInstances, concat, all_but_last}
use Rattle.uefi_path.specs.private.OnePath.{same_first, one_ended, joined-append, some_bytes}
use Rattle.uefi_c.specs.declared.path.UefiNode.{UefiNode}
use Rattle.uefi_c.specs.Path.{HasInstance, node_seen, IsNextNode, IsNextInstance, EndsWalk}
use Rattle.uefi_c.proofs.Cursors.{after}

-- The encoding of a node has bytes.
pub node_bytes : (n : Node) → 0 < length (encoding n)
node_bytes n = omega arith

-- Nodes that end with one that satisfies P: each that does has the type END, and each end-entire node does.
pub record EndsLists (P : Node → Type 0) : Type 0 where
  pub is_end : (n : Node) → P n → IsEnd n
  pub end_entire : (n : Node) → IsEndEntire n → P n

pub ends_paths : EndsLists IsEndEntire
ends_paths = record { is_end = λ n so. so.0; end_entire = λ n so. so }

pub ends_instances : EndsLists IsEnd
ends_instances = record { is_end = λ n so. so; end_entire = λ n so. so.0 }

-- The nodes that are left at an offset, after those that were seen.
pub record Left (P : Node → Type 0) (all : List Node) (bytes : List ℕ) (offset : ℕ) (views : List UefiNode) : Type
    0 where
  pub others : List Node
  pub seen : all_but_last all ≡ map node_seen views ++ all_but_last others
  pub ended : AreEndedBy P others
  pub encoded : drop offset bytes ≡ joined others

pub none_yet : (P : Node → Type 0) (all : List Node) (bytes : List ℕ) → AreEndedBy P all → bytes ≡ joined all
    → Left P all bytes 0 []
none_yet P all bytes ended is = record { others = all; seen = refl; ended = ended; encoded = is }

module _ (P : Node → Type 0) (ends : EndsLists P) (bytes : List ℕ) (start : ℕ) where
  -- A node that ends the list ends the walk.
  last_ends : (n : Node) → P n → drop start bytes ≡ joined (n ∷ [])
      → EndsWalk n (start + length (encoding n) ≡ length bytes)
  last_ends n so at = inr (
    omega (arith, length-drop start bytes, ap length at, length-append (encoding n) [], node_bytes n),
    ends.is_end n so,
  )

  -- Another one doesn't.
  other_goes_on : (n m : Node) (ns : List Node) → (P n → ⊥) → drop start bytes ≡ joined (n ∷ m ∷ ns)
      → EndsWalk n (start + length (encoding n) ≡ length bytes) → ⊥
  other_goes_on n m ns not_so at (inl entire) = not_so (ends.end_entire n entire)
  other_goes_on n m ns not_so at (inr (at_end, is_end)) =
      absurd (omega (
        arith,
        at_end,
        length-drop start bytes,
        ap length at,
        length-append (encoding n)
            (joined (m ∷ ns)),
        length-append (encoding m) (joined ns),
        node_bytes m,
      ))

  -- One node more was seen.
  pub one_less : (end : ℕ) (v : UefiNode) → IsNextNode bytes start (node_seen v) end
      → (all : List Node) (views more : List UefiNode)
      → more ≡ views ++ v ∷ [] → Left P all bytes start views → Left P all bytes end more
  one_less end v next all views more added left = of_others left.others left.seen left.ended left.encoded
    where
      n : Node
      n = node_seen v

      of_others : (others : List Node) → all_but_last all ≡ map node_seen views ++ all_but_last others
          → AreEndedBy P others
          → drop start bytes ≡ joined others → Left P all bytes end more
      of_others [] seen ended encoded = absurd ended.end
      of_others (k ∷ []) seen ended encoded =
          let first = same_first n k [] next.stands.begins.0 [] next.fits ended.each.0
          (sym next.stands.begins.1 ∙ encoded ∙ sym (append-nil (joined (k ∷ [])))) in
          absurd (next.goes_on (subst (λ (m : ℕ). EndsWalk n (m ≡ length bytes)) (sym next.stands.ends)
          (last_ends n (subst P (sym first.0) ended.end) (encoded ∙ ap (λ (m : Node). joined (m ∷ [])) (sym first.0)))))
      of_others (k ∷ m ∷ others) seen ended encoded =
          let first = same_first n k (m ∷ others) next.stands.begins.0 [] next.fits ended.each.0
          (sym next.stands.begins.1 ∙ encoded ∙ sym (append-nil (joined (k ∷ m ∷ others)))) in
          record {
            others = m ∷ others;
            seen =
                seen ∙ ap (λ (t : Node). map node_seen views ++ t ∷ all_but_last (m ∷ others)) (sym first.0)
                ∙ sym (append_assoc (map node_seen views) (n ∷ []) (all_but_last (m ∷ others)))
                ∙ ap (λ (t : List Node). t ++ all_but_last (m ∷ others))
                (sym (ap (map node_seen) added ∙ map-append node_seen views (v ∷ [])));
            ended = record { each = ended.each.1; end = ended.end.1 };
            encoded = after (encoding n) bytes start end next.stands ∙ first.1 ∙ append-nil (joined (m ∷ others));
          }

  -- Where no node follows, all but the last were seen.
  pub none_left : (all : List Node) (views : List UefiNode) → ((n : Node) (end : ℕ) → IsNextNode bytes start n end → ⊥)
      → Left P all bytes start views → map node_seen views ≡ all_but_last all
  none_left all views none left = of_others left.others left.seen left.ended left.encoded
    where
      of_others : (others : List Node) → all_but_last all ≡ map node_seen views ++ all_but_last others
          → AreEndedBy P others
          → drop start bytes ≡ joined others → map node_seen views ≡ all_but_last all
      of_others [] seen ended encoded = absurd ended.end
      of_others (k ∷ []) seen ended encoded = sym (seen ∙ append-nil (map node_seen views))
      of_others (k ∷ m ∷ others) seen ended encoded =
          absurd (none k (start + length (encoding k)) (record {
            fits = ended.each.0;
            stands = record { begins = (joined (m ∷ others), encoded); ends = refl };
            goes_on = other_goes_on k m others ended.end.0 encoded;
          }))

-- The encoding of an instance has bytes.
pub instance_bytes : (ns : List Node) → IsInstance ns → 0 < length (joined ns)
instance_bytes [] is = absurd is.end
instance_bytes (n ∷ ns) is = omega (arith, length-append (encoding n) (joined ns), node_bytes n)

-- The instances that are left at an offset, after those that were seen.
pub record LeftInstances (all : List (List Node)) (bytes : List ℕ) (offset : ℕ) (parts : List (List ℕ)) : Type 0 where
  pub others : List (List Node)
  pub seen : map joined all ≡ parts ++ map joined others
  pub each : AllByRecursion IsInstance others
  pub encoded : drop offset bytes ≡ joined (concat others)

pub no_instance_yet : (nodes : List Node) (all : List (List Node)) (bytes : List ℕ) → AreInstances all nodes
    → bytes ≡ joined nodes
    → LeftInstances all bytes 0 []
no_instance_yet nodes all bytes are is = record
    { others = all; seen = refl; each = are.each; encoded = is ∙ ap joined (sym are.whole) }

module _ (bytes : List ℕ) (start : ℕ) where
  -- One instance more was seen.
  pub one_instance_less : (end : ℕ) (part : List ℕ) → IsNextInstance bytes start part end
      → (all : List (List Node)) (parts more : List (List ℕ))
      → more ≡ parts ++ part ∷ [] → LeftInstances all bytes start parts → LeftInstances all bytes end more
  one_instance_less end part next all parts more added left = of_others left.others left.seen left.each left.encoded
    where
      at : drop start bytes ≡ joined next.nodes ++ next.stands.begins.0
      at = next.stands.begins.1 ∙ ap (λ (t : List ℕ). t ++ next.stands.begins.0) next.encoded

      of_others : (others : List (List Node)) → map joined all ≡ parts ++ map joined others
          → AllByRecursion IsInstance others
          → drop start bytes ≡ joined (concat others) → LeftInstances all bytes end more
      of_others [] seen each encoded = absurd
          (some_bytes next.nodes next.stands.begins.0 next.is_instance (sym at ∙ encoded))
      of_others (k ∷ others) seen each encoded =
          let first = one_ended IsEnd next.nodes k next.stands.begins.0 (joined (concat others)) next.is_instance each.0
          (sym at ∙ encoded ∙ joined-append k (concat others)) in
          record {
            others = others;
            seen =
                seen ∙ ap (λ (t : List ℕ). parts ++ t ∷ map joined others) (ap joined (sym first.0) ∙ sym next.encoded)
                ∙ sym (append_assoc parts (part ∷ []) (map joined others))
                ∙ ap (λ (t : List (List ℕ)). t ++ map joined others) (sym added);
            each = each.1;
            encoded = after part bytes start end next.stands ∙ first.1;
          }

  -- Where no instance follows, all were seen.
  pub no_instance_left : (all : List (List Node)) (parts : List (List ℕ)) → ¬ HasInstance (drop start bytes)
      → LeftInstances all bytes start parts → parts ≡ map joined all
  no_instance_left all parts none left = of_others left.others left.seen left.each left.encoded
    where
      of_others : (others : List (List Node)) → map joined all ≡ parts ++ map joined others
          → AllByRecursion IsInstance others
          → drop start bytes ≡ joined (concat others) → parts ≡ map joined all
      of_others [] seen each encoded = sym (seen ∙ append-nil parts)
      of_others (k ∷ others) seen each encoded =
          absurd (none (k, each.0, (joined (concat others), encoded ∙ joined-append k (concat others))))
