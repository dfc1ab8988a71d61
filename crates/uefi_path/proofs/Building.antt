-- Nodes that are written one after another.
use Rattle.std.proofs.Common.{◌≡◌, ℕ, ◌+◌, ◌≤◌, List, [], ◌∷◌, ◌++◌, length, take, drop, refl, sym, ◌∙◌, ap, subst, arith, Ok, Err}
use Rattle.std.proofs.lemmas.Grind.{common_steps}
use Rattle.std.proofs.lemmas.List.{append-nil}
use Rattle.std.specs.Prelude.{Result, OnOk, OnErr}
use Rattle.uefi_base.specs.Buffer.{put_at, put_prefix}
use Rattle.uefi_path.specs.Node.{Node, Fits, encoding, joined, IsEndEntire, end_entire}
use Rattle.uefi_path.specs.Laws.{IsBuiltPath}
use Rattle.uefi_path.specs.Path.{AreBefore, IsPath}
use Rattle.uefi_path.specs.build.Views.{built_nodes, builder_bytes, built_length}
use Rattle.uefi_path.specs.declared.build.builder.DevicePathBuilder.{DevicePathBuilder}
use Rattle.uefi_path.specs.private.Encoding.{IsEncodingBefore, EncodesBefore, IsEncodingOfNodes}
use Rattle.uefi_path.specs.private.OnePath.{joined-append, one_path, same_nodes_before}
use Rattle.uefi_path.proofs.Appending.{AreEndedBy-append, IsEncodingOfNodes-append, path_of_end}
use Rattle.uefi_path.proofs.Passing.{AllByRecursion-push}

-- What is written to the bytes from an offset on is written at the offset.
pub written_after : (offset : ℕ) (part bytes front back new : List ℕ) → front ≡ take offset bytes
    → back ≡ drop offset bytes → new ≡ put_prefix part back → front ++ new ≡ put_at offset part bytes
written_after offset part bytes front back new first second written = grind (arith, common_steps)

-- The bytes up to the end of a part that is written at an offset.
take-put_at : (offset end : ℕ) (part bytes : List ℕ) → offset ≤ length bytes → end ≡ offset + length part
    → take end (put_at offset part bytes) ≡ take offset bytes ++ part
take-put_at offset end part bytes within stated = grind (arith, common_steps)

-- The bytes before a part that is written at an offset.
take-before_put_at : (offset : ℕ) (part bytes : List ℕ) → offset ≤ length bytes
    → take offset (put_at offset part bytes) ≡ take offset bytes
take-before_put_at offset part bytes within = grind (arith, common_steps)

-- A part that is written at an offset ends within the bytes.
pub length-put_at : (offset end : ℕ) (part bytes : List ℕ) → offset ≤ length bytes → end ≡ offset + length part
    → end ≤ length (put_at offset part bytes)
length-put_at offset end part bytes within stated = grind (arith, common_steps)

-- The first bytes encode the nodes, so they are as many.
pub encoded_length : (bytes : List ℕ) (end : ℕ) (nodes : List Node) → end ≤ length bytes
    → IsEncodingBefore (take end bytes) nodes → end ≡ length (joined nodes)
encoded_length bytes end nodes within encodes =
    let encoded : take end bytes ≡ joined nodes = encodes.encoded in grind (arith, common_steps)

-- A builder's nodes end where its next node begins.
pub end_is : (builder : DevicePathBuilder) → builder.end ≡ built_length builder
end_is builder =
    encoded_length (builder_bytes builder) builder.end (built_nodes builder) builder.within builder.nodes.1

-- One more node after the others.
AreBefore-push : (P : Node → Type 0) (nodes : List Node) (n : Node) → AreBefore P nodes → Fits n → ¬ P n
    → AreBefore P (nodes ++ n ∷ [])
AreBefore-push P nodes n before fits not_so = record {
  each = AllByRecursion-push Fits nodes n before.each fits;
  none = AllByRecursion-push (λ m. ¬ P m) nodes n before.none not_so;
}

-- The encoding of nodes, and of one more.
pub IsEncodingBefore-push : (bytes more : List ℕ) (nodes : List Node) (n : Node) → IsEncodingBefore bytes nodes
    → Fits n → ¬ IsEndEntire n → more ≡ bytes ++ encoding n → IsEncodingBefore more (nodes ++ n ∷ [])
IsEncodingBefore-push bytes more nodes n encodes fits not_end e = record {
  before = AreBefore-push IsEndEntire nodes n encodes.before fits not_end;
  encoded = e ∙ ap (λ s. s ++ encoding n) encodes.encoded ∙ ap (λ s. joined nodes ++ s) (sym (append-nil (encoding n)))
      ∙ sym (joined-append nodes (n ∷ []));
}

-- A node is written into a buffer after the nodes that the first bytes encode.
pub pushed : (bytes new : List ℕ) (offset end : ℕ) (nodes : List Node) (n : Node)
    → IsEncodingBefore (take offset bytes) nodes → offset ≤ length bytes → Fits n → ¬ IsEndEntire n
    → end ≡ offset + length (encoding n) → new ≡ put_at offset (encoding n) bytes
    → IsEncodingBefore (take end new) (nodes ++ n ∷ [])
pushed bytes new offset end nodes n encodes within fits not_end stated written =
    IsEncodingBefore-push (take offset bytes) (take end new) nodes n encodes fits not_end
    (ap (take end) written ∙ take-put_at offset end (encoding n) bytes within stated)

-- The nodes that bytes encode.
pub these_nodes : (bytes : List ℕ) (found nodes : List Node) → IsEncodingBefore bytes nodes
    → IsEncodingBefore bytes found → found ≡ nodes
these_nodes bytes found nodes encodes others = same_nodes_before bytes bytes found nodes refl others encodes

-- No bytes encode no nodes.
pub none_encoded : (bytes : List ℕ) → IsEncodingBefore (take 0 bytes) []
none_encoded bytes = record { before = record { each = tt; none = tt }; encoded = refl }

-- The encoding of nodes, and then the end-entire node, is that of a path.
pub IsEncodingBefore-end : (bytes more : List ℕ) (nodes : List Node) → IsEncodingBefore bytes nodes
    → more ≡ bytes ++ encoding end_entire → IsEncodingOfNodes IsEndEntire more (nodes ++ end_entire ∷ [])
IsEncodingBefore-end bytes more nodes encodes e =
    IsEncodingOfNodes-append IsEndEntire more nodes (end_entire ∷ []) encodes.before path_of_end
    (e ∙ ap (λ s. s ++ encoding end_entire) encodes.encoded)

-- The end-entire node is written into a buffer after the nodes that the first bytes encode.
pub finished : (bytes new path : List ℕ) (offset end : ℕ) (nodes : List Node)
    → IsEncodingBefore (take offset bytes) nodes → offset ≤ length bytes
    → end ≡ offset + length (encoding end_entire) → new ≡ put_at offset (encoding end_entire) bytes
    → path ≡ take end new → IsEncodingOfNodes IsEndEntire path (nodes ++ end_entire ∷ [])
finished bytes new path offset end nodes encodes within stated written taken =
    IsEncodingBefore-end (take offset bytes) path nodes encodes
    (taken ∙ ap (take end) written ∙ take-put_at offset end (encoding end_entire) bytes within stated)

-- The same of bytes that grow by the encoding of the end-entire node.
pub ended_after : (bytes end more : List ℕ) (nodes : List Node) → IsEncodingBefore bytes nodes
    → end ≡ encoding end_entire → more ≡ bytes ++ end → IsEncodingOfNodes IsEndEntire more (nodes ++ end_entire ∷ [])
ended_after bytes end more nodes encodes made e =
    IsEncodingBefore-end bytes more nodes encodes (e ∙ ap (λ s. bytes ++ s) made)

-- Bytes that didn't change encode the same nodes.
pub still_encoded : (bytes same : List ℕ) (nodes : List Node) → same ≡ bytes → IsEncodingBefore bytes nodes
    → IsEncodingBefore same nodes
still_encoded bytes same nodes e encodes = subst (λ b. IsEncodingBefore b nodes) (sym e) encodes

-- Bytes that encode nodes, and that grew by a node or not at all, encode nodes.
pub appended_or_not : {V E : Type 0} (Valid : Type 0) (result : Result V E) (bytes more : List ℕ) (nodes : List Node)
    (n : Node) → IsEncodingBefore bytes nodes → OnOk result (Valid × Fits n) → OnOk result (¬ IsEndEntire n)
    → OnOk result (more ≡ bytes ++ encoding n) → OnErr result (more ≡ bytes) → EncodesBefore more
appended_or_not Valid (Ok v) bytes more nodes n encodes valid not_end grown same =
    (nodes ++ n ∷ [], IsEncodingBefore-push bytes more nodes n encodes valid.1 not_end grown)
appended_or_not Valid (Err e) bytes more nodes n encodes valid not_end grown same =
    (nodes, still_encoded bytes more nodes same encodes)

-- Nodes that aren't end-entire, and then the end-entire node, are the one path that their encodings start with.
pub built_paths : (nodes : List Node) → AreBefore IsEndEntire nodes → IsBuiltPath nodes
built_paths nodes before =
    let path : IsPath (nodes ++ end_entire ∷ []) = AreEndedBy-append IsEndEntire nodes (end_entire ∷ []) before
    path_of_end in
    record {
      path = path;
      reads_back = λ q x is prefix. (one_path q (nodes ++ end_entire ∷ []) prefix.0 x is path (sym prefix.1)).0;
    }
