-- Where bytes stop being a path.
use Rattle.std.proofs.Common.{◌≡◌, ℕ, ◌-◌, ◌≤◌, List, ◌++◌, length, take, drop, sym, ◌∙◌, ap, subst, arith, length-append, [], ◌∷◌, inl, inr}
use Rattle.std.proofs.lemmas.List.{drop_at, length-drop, length-take-le, take-append-drop}
use Rattle.uefi_path.specs.Node.{Node, encoding, joined, IsEndEntire}
use Rattle.uefi_path.specs.Path.{HasPath, IsPath}
use Rattle.uefi_path.specs.private.Encoding.{EncodesNodes}
use Rattle.uefi_path.specs.private.OnePath.{one_ended}
use Rattle.uefi_path.proofs.Passing.{HasPassed}
use Rattle.uefi_c.proofs.PathSteps.{node_bytes}
use Rattle.uefi_c.specs.Faults.{IsNodeFault, MeetsPathFault}
use Rattle.uefi_c.specs.Path.{BeginsWithPath}
use Rattle.uefi_c.specs.Status.{IsOneOf, cut, no_end, ok, short_node}

-- Such nodes in the first bytes are the path that the bytes begin with.
pub begins_with : (bytes : List ℕ) (n : ℕ) (encodes : EncodesNodes IsEndEntire (take n bytes))
    → BeginsWithPath bytes encodes.0
begins_with bytes n encodes = (
  encodes.1.ended,
  (drop n bytes, sym (take-append-drop n bytes) ∙ ap (λ s. s ++ drop n bytes) encodes.1.encoded),
)

-- So it ends there.
pub ends_there : (bytes : List ℕ) (n : ℕ) → n ≤ length bytes → EncodesNodes IsEndEntire (take n bytes)
    → (nodes : List Node) → BeginsWithPath bytes nodes → n ≡ length (joined nodes)
ends_there bytes n within encodes nodes begins =
    let found = begins_with bytes n encodes in
    let same : encodes.0 ≡ nodes =
    (one_ended IsEndEntire encodes.0 nodes found.1.0 begins.1.0 found.0 begins.0 (sym found.1.1 ∙ begins.1.1)).0 in
    sym (length-take-le n bytes within) ∙ ap length encodes.1.encoded ∙ ap (λ ns. length (joined ns)) same

-- Nodes that were passed, and a fault in the rest.
pub meets_fault : (bytes rest : List ℕ) (status : ℕ) → HasPassed IsEndEntire bytes rest → IsNodeFault rest status
    → MeetsPathFault bytes (length bytes - length rest) status
meets_fault bytes rest status passed fault =
    let front = joined passed.0 in
    let n : length bytes - length rest ≡ length front =
    omega (arith, ap length passed.1.split, length-append front rest) in
    let rest_is : drop (length bytes - length rest) bytes ≡ rest =
    ap (λ b. drop (length bytes - length rest) b) passed.1.split ∙ drop_at front rest (length bytes - length rest) (sym n) in
    record {
      nodes = passed.0;
      fit = passed.1.each;
      go_on = passed.1.none;
      begins = (rest, passed.1.split);
      ends = n;
      fault = subst (λ b. IsNodeFault b status) (sym rest_is) fault;
    }

-- A fault is no success.
pub fault_is_not_ok : (bytes : List ℕ) (status : ℕ) → IsNodeFault bytes status → status ≡ ok → ⊥
fault_is_not_ok bytes status fault is_ok = of_known fault.known
  where
    of_known : IsOneOf status (no_end ∷ cut ∷ short_node ∷ []) → ⊥
    of_known (inl is) = let same : no_end ≡ ok = sym is ∙ is_ok in cc
    of_known (inr (inl is)) = let same : cut ≡ ok = sym is ∙ is_ok in cc
    of_known (inr (inr (inl is))) = let same : short_node ≡ ok = sym is ∙ is_ok in cc
    of_known (inr (inr (inr none))) = elim none [ ]

-- No path begins where the bytes have ended.
pub no_path_at_end : (bytes : List ℕ) (offset : ℕ) → length bytes ≤ offset → ¬ HasPath (drop offset bytes)
no_path_at_end bytes offset past has = of_nodes has.0 has.1 (ap length has.2.1)
  where
    of_nodes : (nodes : List Node) → IsPath nodes
        → length (drop offset bytes) ≡ length (joined nodes ++ has.2.0) → ⊥
    of_nodes [] path sized = path.end
    of_nodes (node ∷ nodes) path sized =
        absurd (omega (
          arith,
          past,
          sized,
          length-drop offset bytes,
          length-append (joined (node ∷ nodes)) has.2.0,
          length-append (encoding node) (joined nodes),
          node_bytes node,
        ))
