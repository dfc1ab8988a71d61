-- Where the description of a load option is.
use Rattle.std.proofs.Common.{◌≡◌, ℕ, ◌+◌, ◌*◌, ◌≤◌, List, ◌++◌, length, take, drop, sym, ap, subst, ◌∙◌, append_assoc, arith}
use Rattle.uefi_base.specs.LittleEndian.{u16_bytes, u32_bytes}
use Rattle.uefi_base.specs.Unaligned.{unit_bytes}
use Rattle.uefi_path.specs.LoadOption.{LoadOption, load_option_bytes, file_path_list, with_nul}
use Rattle.uefi_c.proofs.UnitBytes.{units_within, units_there}

module _ (bytes : List ℕ) (option : LoadOption) (is : bytes ≡ load_option_bytes option) where
  abbrev front : List ℕ
  front = u32_bytes option.attributes ++ u16_bytes (length (file_path_list option))

  abbrev units : List ℕ
  units = with_nul option.description

  abbrev rest : List ℕ
  rest = file_path_list option ++ option.optional_data

  at : length front ≡ 6
  at = omega arith

  split : bytes ≡ front ++ (unit_bytes units ++ rest)
  unfolding load_option_bytes
  split = is ∙ sym (append_assoc (u32_bytes option.attributes) (u16_bytes (length (file_path_list option)))
      (unit_bytes units ++ rest))

  pub description_within : (count : ℕ) → count ≡ length units → 6 + 2 * count ≤ length bytes
  description_within count is_count = subst (λ (n : ℕ). 6 + 2 * n ≤ length bytes) (sym is_count)
      (units_within bytes front units rest 6 at split)

  pub description_there : (count : ℕ) → count ≡ length units → take (2 * count) (drop 6 bytes) ≡ unit_bytes units
  description_there count is_count = ap (λ (n : ℕ). take (2 * n) (drop 6 bytes)) is_count
      ∙ units_there bytes front units rest 6 at split
