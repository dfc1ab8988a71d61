-- Paths whose parts are written one after another.
use Rattle.std.proofs.Common.{◌≡◌, ℕ, ◌+◌, ◌≤◌, List, ◌++◌, length, refl, sym, ◌∙◌, arith, length-append, append_assoc}
use Rattle.std.proofs.lemmas.List.{append-nil}
use Rattle.uefi_base.specs.Buffer.{put_at, put_prefix}
use Rattle.uefi_base.proofs.Parts.{put_first, put_more}
use Rattle.uefi_path.specs.Node.{Node, encoding, joined, end_entire}
use Rattle.uefi_path.specs.Path.{all_but_last}
use Rattle.uefi_path.specs.private.OnePath.{joined-append}
use Rattle.uefi_c.specs.PathWrite.{with_node, with_path}

-- Two parts from the beginning on.
pub two_put : (x y bytes now next : List ℕ) → length x ≤ length bytes → now ≡ put_at 0 x bytes
    → next ≡ put_at (length x) y now → next ≡ put_prefix (x ++ y) bytes
two_put x y bytes now next within first second =
    put_more (length x) x y y bytes now next (put_first x x bytes now refl first) refl within refl second

-- Three parts.
pub three_put : (x y z bytes now next last : List ℕ) (end : ℕ) → length x + length y ≤ length bytes
    → end ≡ length x + length y → now ≡ put_at 0 x bytes → next ≡ put_at (length x) y now → last ≡ put_at end z next
    → last ≡ put_prefix ((x ++ y) ++ z) bytes
three_put x y z bytes now next last end within ends first second third =
    put_more end (x ++ y) z z bytes next last (two_put x y bytes now next (omega (arith, within)) first second)
    (length-append x y ∙ sym ends) (omega (arith, ends, within)) refl third

-- The bytes of a path with another one, and with a node, in the place of its end.
pub path_parts : (nodes others : List Node)
    → joined (all_but_last nodes) ++ joined others ≡ joined (with_path nodes others)
path_parts nodes others = sym (joined-append (all_but_last nodes) others)

pub node_parts : (nodes : List Node) (node : Node)
    → (joined (all_but_last nodes) ++ encoding node) ++ encoding end_entire ≡ joined (with_node nodes node)
node_parts nodes node = rw joined-append (simp (append_assoc, append-nil))
