-- The node of a value was written if its fields and its tail were.
use Rattle.std.proofs.Common.{◌≡◌, ℕ, ◌+◌, List, ◌++◌, length, ◌∙◌, sym, ap, subst, arith, length-append, Ok, Err}
use Rattle.std.specs.Prelude.{Result}
use Rattle.uefi_base.specs.Buffer.{put_prefix}
use Rattle.uefi_path.specs.Node.{Node, encoding}
use Rattle.uefi_path.specs.build.Writing.{WritesNode, HasWritingFault}
use Rattle.uefi_path.specs.declared.build.error.BuildError.{BuildError}
use Rattle.uefi_path.specs.declared.build.error.BuildError.TheVariants.{Form, NodeTooBig, BufferTooSmall, EndEntire, Memory}
use Rattle.uefi_node.specs.Layout.{Layout, IsValue, fields_bytes, rest_bytes, value_bytes, node_as}
use Rattle.uefi_node.specs.private.Fields.{WritesParts, HasLengthFault, node_kind}
use Rattle.uefi_node.specs.declared.read.NodeKind.{NodeKind}

-- The node's length is that of the header, the fields and the tail.
long : (node : Node) (fields tail : List ℕ) → node.payload ≡ fields ++ tail
    → length (encoding node) ≡ 4 + (length fields + length tail)
long node fields tail is = omega (arith, ap length is, length-append fields tail)

-- Why the parts weren't written is why the node wasn't.
fault : (IsValid : Type 0) (node : Node) (old : List ℕ) (n : ℕ) (e : BuildError) → IsValid
    → length (encoding node) ≡ n → HasLengthFault n (length old) e → HasWritingFault IsValid node old e
fault IsValid node old n Form valid sized h = absurd h
fault IsValid node old n NodeTooBig valid sized h = (valid, omega (arith, sized, h))
fault IsValid node old n (BufferTooSmall needed) valid sized h =
    (valid, omega (arith, sized, h.0), h.1, h.2 ∙ sym sized)
fault IsValid node old n EndEntire valid sized h = absurd h
fault IsValid node old n Memory valid sized h = absurd h

-- The parts of a node were written.
pub writes_node : (IsValid : Type 0) (node : Node) (fields tail old new : List ℕ) (result : Result ℕ BuildError)
    → IsValid → node.payload ≡ fields ++ tail
    → WritesParts node.device_type node.sub_type fields tail old new result → WritesNode IsValid node old new result
writes_node IsValid node fields tail old new (Ok n) valid is done = record {
  valid = (
    valid,
    record {
      device_type = done.small_type;
      sub_type = done.small_sub_type;
      payload = omega (arith, long node fields tail is, done.end, done.small);
    },
  );
  end = done.end ∙ sym (long node fields tail is);
  room = done.room;
  written = done.written ∙ ap (λ p. put_prefix
      (encoding (record { device_type = node.device_type; sub_type = node.sub_type; payload = p })) old) (sym is);
  unchanged = done.unchanged;
  err = tt;
}
writes_node IsValid node fields tail old new (Err e) valid is done = record {
  valid = tt;
  end = tt;
  room = tt;
  written = tt;
  unchanged = done.unchanged;
  err = fault IsValid node old _ e valid (long node fields tail is) done.err;
}

-- The same by the parts of a layout, and its constant.
pub writes_value : {R : Type 0} (l : Layout R) (r : R) (kind : NodeKind) (fields tail old new : List ℕ)
    (result : Result ℕ BuildError) → IsValue l r → kind ≡ node_kind l → fields ≡ fields_bytes l.fields r
    → tail ≡ rest_bytes l.rest r → WritesParts kind.full_type.0.0 kind.full_type.1.0 fields tail old new result
    → WritesNode (IsValue l r) (node_as l r) old new result
unfolding value_bytes
writes_value l r kind fields tail old new result valid is is_fields is_tail done =
    writes_node (IsValue l r) (node_as l r) fields tail old new result valid
    (λ i. sym is_fields i ++ sym is_tail i)
    (subst (λ k. WritesParts k.full_type.0.0 k.full_type.1.0 fields tail old new result) is done)
