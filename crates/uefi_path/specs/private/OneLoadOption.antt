-- Bytes are at most one load option.
use Rattle.std.proofs.Common.{◌≡◌, ℕ, ◌<◌, ◌^◌, List, [], ◌∷◌, ◌++◌, length, refl, sym, ◌∙◌, ap, arith}
use Rattle.std.proofs.Props.{props}
use mathlib.Core.HLevel.{Σ_prop_path}
use Rattle.std.proofs.lemmas.Nat.{from_le_bytes-to_le_bytes_2, from_le_bytes-to_le_bytes_4}
use Rattle.std.specs.Int.{w16, w32, from_le_bytes}
use Rattle.std.specs.List.{AllByRecursion-prop}
use Rattle.uefi_base.specs.LittleEndian.{u16_bytes, u32_bytes}
use Rattle.uefi_base.specs.Unaligned.{unit_bytes}
use Rattle.uefi_path.specs.LoadOption.{LoadOption, IsLoadOption, AreNonzeroUnits, OneLoadOption, file_path_list, load_option_bytes, with_nul}
use Rattle.uefi_path.specs.private.Encoding.{IsEncodingOfOption, EncodesOption}
use Rattle.uefi_path.specs.private.OneNode.{same_split}
use Rattle.uefi_path.specs.private.OnePath.{one_path, IsPath-prop}

-- Units that start the same bytes are equal, and so is what follows them.
pub same_unit : (u v : ℕ) (x y : List ℕ) → u < 2 ^ 16 → v < 2 ^ 16 → u16_bytes u ++ x ≡ u16_bytes v ++ y
    → (u ≡ v) × (x ≡ y)
same_unit u v x y fits_u fits_v e =
    let both = same_split (u16_bytes u) (u16_bytes v) x y refl e in (
      sym (from_le_bytes-to_le_bytes_2 u fits_u) ∙ ap (from_le_bytes w16) both.0 ∙ from_le_bytes-to_le_bytes_2 v fits_v,
      both.1,
    )

-- So are descriptions.
pub one_description : (d e x y : List ℕ) → AreNonzeroUnits d → AreNonzeroUnits e
    → unit_bytes (with_nul d) ++ x ≡ unit_bytes (with_nul e) ++ y → (d ≡ e) × (x ≡ y)
one_description [] [] x y fits_d fits_e same = (refl, (same_unit 0 0 x y (omega arith) (omega arith) same).1)
one_description [] (v ∷ e) x y fits_d fits_e same =
    let first : 0 ≡ v = (same_unit 0 v x (unit_bytes (with_nul e) ++ y) (omega arith) fits_e.0.1 same).0 in
    absurd (omega (arith, first, fits_e.0.0))
one_description (u ∷ d) [] x y fits_d fits_e same =
    let first : u ≡ 0 = (same_unit u 0 (unit_bytes (with_nul d) ++ x) y fits_d.0.1 (omega arith) same).0 in
    absurd (omega (arith, first, fits_d.0.0))
one_description (u ∷ d) (v ∷ e) x y fits_d fits_e same =
    let first = same_unit u v (unit_bytes (with_nul d) ++ x) (unit_bytes (with_nul e) ++ y) fits_d.0.1 fits_e.0.1 same in
    let others = one_description d e x y fits_d.1 fits_e.1 first.1 in
    let same_head : u ≡ v = first.0 in
    let same_others : d ≡ e = others.0 in
    ((cc), others.1)

-- The bytes of a load option after the length of the file path list, and from that length on.
abbrev pub after_length : LoadOption → List ℕ
after_length option = unit_bytes (with_nul option.description) ++ (file_path_list option ++ option.optional_data)

abbrev after_attributes : LoadOption → List ℕ
after_attributes option = u16_bytes (length (file_path_list option)) ++ after_length option

-- Bytes are at most one load option.
pub one_load_option : OneLoadOption
unfolding load_option_bytes
one_load_option a b is_a is_b e =
    let first = same_split (u32_bytes a.attributes) (u32_bytes b.attributes) (after_attributes a) (after_attributes b)
    refl e in
    let second = same_unit (length (file_path_list a)) (length (file_path_list b)) (after_length a) (after_length b)
    is_a.file_path_list is_b.file_path_list first.1 in
    let third = one_description a.description b.description (file_path_list a ++ a.optional_data)
    (file_path_list b ++ b.optional_data) is_a.description is_b.description second.1 in
    let fourth = same_split (file_path_list a) (file_path_list b) a.optional_data b.optional_data second.0 third.1 in
    let fifth = one_path a.file_path b.file_path a.other_paths b.other_paths is_a.file_path is_b.file_path fourth.0 in
    let attributes : a.attributes ≡ b.attributes =
    sym (from_le_bytes-to_le_bytes_4 a.attributes is_a.attributes) ∙ ap (from_le_bytes w32) first.0
    ∙ from_le_bytes-to_le_bytes_4 b.attributes is_b.attributes in
    λ i. record {
      attributes = attributes i;
      description = third.0 i;
      file_path = fifth.0 i;
      other_paths = fifth.1 i;
      optional_data = fourth.1 i;
    }

-- There is at most one proof of each of these facts, so that an owned option may keep it.
AreNonzeroUnits-prop : (units : List ℕ) → IsProp (AreNonzeroUnits units)
AreNonzeroUnits-prop = AllByRecursion-prop (λ unit. (0 < unit) × (unit < 2 ^ 16)) (λ unit. hlevel props)

IsLoadOption-prop : (option : LoadOption) → IsProp (IsLoadOption option)
IsLoadOption-prop option =
    hlevel (props, AreNonzeroUnits-prop option.description, IsPath-prop option.file_path)

IsEncodingOfOption-prop : (bytes : List ℕ) (option : LoadOption) → IsProp (IsEncodingOfOption bytes option)
IsEncodingOfOption-prop bytes option = hlevel (props, IsLoadOption-prop option)

pub EncodesOption-prop : (bytes : List ℕ) → IsProp (EncodesOption bytes)
EncodesOption-prop bytes s t =
    Σ_prop_path (IsEncodingOfOption-prop bytes) (one_load_option s.0 t.0 s.1.is t.1.is (sym s.1.encoded ∙ t.1.encoded))
