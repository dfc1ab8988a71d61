-- Bytes encode at most one node.
use Rattle.std.proofs.Common.{◌≡◌, ℕ, ◌+◌, List, [], ◌∷◌, ◌++◌, length, refl, sym, ◌∙◌, ap, arith}
use Rattle.std.proofs.Props.{props}
use mathlib.Core.HLevel.{Σ_prop_path}
use Rattle.std.specs.Int.{w16, to_le_bytes, from_le_bytes}
use Rattle.std.proofs.lemmas.Nat.{from_le_bytes-to_le_bytes_2}
use Rattle.uefi_path.specs.Header.{header_length}
use Rattle.uefi_path.specs.Node.{Node, Fits, encoding}
use Rattle.uefi_path.specs.private.Encoding.{IsEncodingOfNode, EncodesNode}

-- The node with these fields.
abbrev node : ℕ → ℕ → List ℕ → Node
node t s p = record { device_type = t; sub_type = s; payload = p }

-- Lists of one length that start the same list are equal, and so is what follows them.
pub same_split : (a b x y : List ℕ) → length a ≡ length b → a ++ x ≡ b ++ y → (a ≡ b) × (x ≡ y)
same_split [] [] x y same_length e = (refl, e)
same_split [] (c ∷ b) x y same_length e = absurd (omega arith)
same_split (c ∷ a) [] x y same_length e = absurd (omega arith)
same_split (c ∷ a) (d ∷ b) x y same_length e =
    let tails : a ++ x ≡ b ++ y = cc in
    let shorter : length a ≡ length b = omega arith in
    let both = same_split a b x y shorter tails in
    let others : a ≡ b = both.0 in
    let head : c ≡ d = cc in
    ((cc), both.1)

-- Nodes with the same fields are equal.
same_node : (t u s v : ℕ) (p q : List ℕ) → t ≡ u → s ≡ v → p ≡ q → node t s p ≡ node u v q
same_node t u s v p q same_type same_sub_type same_payload = cc

-- The length in the encoding of a node is the length of the whole node.
pub stated_length : (a : Node) → Fits a
    → from_le_bytes w16 (to_le_bytes w16 (header_length + length a.payload)) ≡ header_length + length a.payload
stated_length a fits = from_le_bytes-to_le_bytes_2 _ (omega (arith, fits.payload))

-- The encoding of a node determines the node, whatever follows it.
pub one_encoding : (a b : Node) (x y : List ℕ) → Fits a → Fits b → encoding a ++ x ≡ encoding b ++ y → (a ≡ b) × (x ≡ y)
one_encoding a b x y fits_a fits_b e =
    let t : a.device_type ≡ b.device_type = cc in
    let s : a.sub_type ≡ b.sub_type = cc in
    let stated : to_le_bytes w16 (header_length + length a.payload) ≡ to_le_bytes w16
    (header_length + length b.payload) = cc in
    let whole_length : header_length + length a.payload ≡ header_length + length b.payload =
    (sym (stated_length a fits_a) ∙ ap (from_le_bytes w16) stated) ∙ stated_length b fits_b in
    let same_length : length a.payload ≡ length b.payload = omega (arith, whole_length) in
    let after_header : a.payload ++ x ≡ b.payload ++ y = cc in
    let both = same_split a.payload b.payload x y same_length after_header in
    let p : a.payload ≡ b.payload = both.0 in
    (same_node a.device_type b.device_type a.sub_type b.sub_type a.payload b.payload t s p, both.1)

-- There is at most one proof that the fields of a node fit.
pub Fits-prop : (node : Node) → IsProp (Fits node)
Fits-prop node = hlevel props

-- There is at most one proof that bytes are the encoding of a node.
IsEncodingOfNode-prop : (bytes : List ℕ) (node : Node) → IsProp (IsEncodingOfNode bytes node)
IsEncodingOfNode-prop bytes node = hlevel (props, Fits-prop node)

-- There is at most one node that bytes encode.
pub EncodesNode-prop : (bytes : List ℕ) → IsProp (EncodesNode bytes)
EncodesNode-prop bytes s t =
    Σ_prop_path (IsEncodingOfNode-prop bytes)
    (one_encoding s.0 t.0 [] [] s.1.fits t.1.fits (ap (λ b. b ++ []) (sym s.1.encoded ∙ t.1.encoded))).0
