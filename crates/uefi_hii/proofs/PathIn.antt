-- The path that a pair's value begins with, if it begins with one.
use Rattle.std.proofs.Common.{◌≡◌, ◌↔◌, ℕ, List, sym, ◌∙◌, ap, subst}
use Rattle.std.specs.Prelude.{Option, Some, None, IsSomeAnd}
use Rattle.uefi_path.specs.Path.{HasPath as BeginsWithPath}
use Rattle.uefi_base.specs.Prefix.{IsPrefix}
use Rattle.uefi_path.proofs.Decide.{path_or_none}
use Rattle.uefi_path.specs.Node.{Node, joined}
use Rattle.uefi_path.specs.private.OnePath.{one_path}
use Rattle.uefi_path.specs.Path.{IsPath}
use Rattle.uefi_hii.specs.Hex.{hex}
use Rattle.uefi_hii.specs.Pairs.{Pair}
use Rattle.uefi_hii.specs.Configuration.{HasPath}
use Rattle.uefi_hii.proofs.HexBounds.{hex_small}

-- A path at the beginning of bytes.
abbrev PathOf : List ℕ → List Node → Type 0
PathOf bytes path = IsPath path × IsPrefix (joined path) bytes

-- The path, by the proof that bytes begin with one or with none.
path_by : (bytes : List ℕ) → Dec (BeginsWithPath bytes) → Option (List Node)
path_by bytes (yes has) = Some has.0
path_by bytes (no none) = None

path_of_value : Option (List ℕ) → Option (List Node)
path_of_value None = None
path_of_value (Some value) = path_by (hex value) (path_or_none (hex value) (hex_small value))

pub path_in : Pair → Option (List Node)
path_in pair = path_of_value pair.value

-- A path is in a pair if and only if its value's bytes begin with it.
path_by-is : (bytes : List ℕ) (d : Dec (BeginsWithPath bytes)) (path : List Node)
    → (path_by bytes d ≡ Some path) ↔ PathOf bytes path
unfolding path_by
path_by-is bytes (yes has) path = (
  λ e. let same : has.0 ≡ path = cc in subst (PathOf bytes) same (has.1, has.2),
  λ h. ap Some (one_path has.0 path has.2.0 h.1.0 has.1 h.0 (sym has.2.1 ∙ h.1.1)).0,
)
path_by-is bytes (no none) path = (λ e. cc, λ h. absurd (none (path, h.0, h.1)))

path_of_value-is : (value : Option (List ℕ)) (path : List Node)
    → (path_of_value value ≡ Some path) ↔ IsSomeAnd value (λ value. PathOf (hex value) path)
unfolding path_of_value
path_of_value-is None path = (λ e. cc, λ h. absurd h)
path_of_value-is (Some value) path = path_by-is (hex value) (path_or_none (hex value) (hex_small value)) path

pub path_in-some : (pair : Pair) (path : List Node) → path_in pair ≡ Some path → HasPath pair path
unfolding path_in
path_in-some pair path = (path_of_value-is pair.value path).0

pub path_in-is : (pair : Pair) (path : List Node) → HasPath pair path → path_in pair ≡ Some path
unfolding path_in
path_in-is pair path = (path_of_value-is pair.value path).1
