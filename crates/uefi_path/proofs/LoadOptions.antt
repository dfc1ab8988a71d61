-- Load options: bytes are at most one, and when they are none.
use Rattle.std.proofs.Common.{◌≡◌, ℕ, ◌<◌, ◌≤◌, ◌^◌, List, ◌++◌, length, take, drop, sym, ◌∙◌}
use Rattle.std.proofs.Common.{ap, arith, length-append, take-append-drop, Err}
use Rattle.std.proofs.lemmas.Grind.{common_steps}
use Rattle.std.proofs.lemmas.List.{take_at, drop-drop, length-take-le}
use Rattle.std.proofs.lemmas.Nat.{from_le_bytes-to_le_bytes_2}
use Rattle.std.specs.Prelude.{slice_range}
use Rattle.uefi_base.specs.LittleEndian.{AreBytes, u16_at, u16_bytes, u32_at, u32_bytes}
use Rattle.uefi_base.specs.Prefix.{IsPrefix}
use Rattle.uefi_base.specs.Unaligned.{unit_bytes}
use Rattle.uefi_base.proofs.NumbersBack.{numbers_read_back}
use Rattle.uefi_path.specs.LoadOption.{LoadOption, IsLoadOption, EncodesLoadOption, AreNonzeroUnits, HasFault, HasRest, ReadsLoadOption, file_path_list, load_option_bytes, with_nul}
use Rattle.uefi_path.specs.Node.{Node, joined}
use Rattle.uefi_path.specs.Path.{IsPath, all_but_last}
use Rattle.uefi_path.specs.declared.load_option_error.LoadOptionError.{LoadOptionError}
use Rattle.uefi_path.specs.declared.load_option_error.LoadOptionError.TheVariants.{TooShort, NotNulTerminated, FilePathListTooLong, FilePath}
use Rattle.uefi_path.specs.private.OneLoadOption.{after_length, one_description}

-- The numbers in front of the description, and the bytes from it on.
in_parts : (bytes first second : List ℕ) → first ≡ slice_range bytes 0 4 → second ≡ slice_range bytes 4 6
    → first ++ (second ++ drop 6 bytes) ≡ bytes
in_parts bytes first second is_first is_second =
    rw (is_first, is_second, ← drop-drop 2 4 bytes, take-append-drop, take-append-drop)

numbers_and_rest : (bytes : List ℕ) → AreBytes bytes → 6 ≤ length bytes
    → u32_bytes (u32_at bytes 0) ++ (u16_bytes (u16_at bytes 4) ++ drop 6 bytes) ≡ bytes
numbers_and_rest bytes each room =
    in_parts bytes _ _ (numbers_read_back.read.u32 bytes 0 each (omega (arith, room)))
    (numbers_read_back.read.u16 bytes 4 each room)

-- A prefix, and what follows it.
prefix_and_rest : (prefix whole : List ℕ) → IsPrefix prefix whole → whole ≡ prefix ++ drop (length prefix) whole
prefix_and_rest prefix whole is = grind (arith, common_steps, is.1)

-- The load option of these parts.
abbrev with_parts : ℕ → List ℕ → List Node → List ℕ → List ℕ → LoadOption
with_parts attributes units nodes list optional = record {
  attributes = attributes;
  description = all_but_last units;
  file_path = nodes;
  other_paths = drop (length (joined nodes)) list;
  optional_data = optional;
}

-- The parts of bytes, which make a load option.
pub record AreParts (bytes units rest list optional : List ℕ) (n attributes : ℕ) (nodes : List Node) : Type 0 where
  pub each : AreBytes bytes
  pub room : 6 ≤ length bytes
  pub attributes_fit : attributes < 2 ^ 32
  pub attributes_is : attributes ≡ u32_at bytes 0
  pub length_fits : n < 2 ^ 16
  pub length_is : n ≡ u16_at bytes 4
  pub nul : units ≡ with_nul (all_but_last units)
  pub nonzero : AreNonzeroUnits (all_but_last units)
  pub split : drop 6 bytes ≡ unit_bytes units ++ rest
  pub within : n ≤ length rest
  pub list_is : list ≡ take n rest
  pub optional_is : optional ≡ drop n rest
  pub path : IsPath nodes
  pub first : IsPrefix (joined nodes) list

pub whole_load_option : (bytes units rest list optional : List ℕ) (n attributes : ℕ) (nodes : List Node)
    → AreParts bytes units rest list optional n attributes nodes
    → IsLoadOption (with_parts attributes units nodes list optional)
    × (bytes ≡ load_option_bytes (with_parts attributes units nodes list optional))
unfolding load_option_bytes
whole_load_option bytes units rest list optional n attributes nodes are =
    let starts = prefix_and_rest (joined nodes) list are.first in
    let sized : length list ≡ n = ap length are.list_is ∙ length-take-le n rest are.within in
    let parts : list ++ optional ≡ rest =
    (λ i. are.list_is i ++ are.optional_is i) ∙ take-append-drop n rest in (
      record {
        attributes = are.attributes_fit;
        description = are.nonzero;
        file_path = are.path;
        file_path_list = rw (← starts, sized) are.length_fits;
      },
      rw (← starts, ← are.nul, parts, ← are.split, sized, are.length_is, are.attributes_is)
          (sym (numbers_and_rest bytes are.each are.room)),
    )

-- What the bytes of a load option say of it.
record Says (bytes : List ℕ) (option : LoadOption) : Type 0 where
  pub room : 6 ≤ length bytes
  pub list_length : u16_at bytes 4 ≡ length (file_path_list option)
  pub rest : drop 6 bytes ≡ after_length option

says : (bytes : List ℕ) (option : LoadOption) → IsLoadOption option → bytes ≡ load_option_bytes option
    → Says bytes option
unfolding load_option_bytes
says bytes option is e = record {
  room = omega (arith, ap length e);
  list_length = ap (λ bs. u16_at bs 4) e
      ∙ from_le_bytes-to_le_bytes_2 (length (file_path_list option)) is.file_path_list;
  rest = ap (drop 6) e;
}

-- The rest after a description is the file path list and the data.
rest_is : (bytes rest : List ℕ) (option : LoadOption) → IsLoadOption option → Says bytes option → HasRest bytes rest
    → rest ≡ file_path_list option ++ option.optional_data
rest_is bytes rest option is said (d, room, (fits, split)) =
    (one_description d option.description rest (file_path_list option ++ option.optional_data) fits is.description
    (sym split ∙ said.rest)).1

-- Bytes with a fault are no load option.
pub no_load_option : (bytes : List ℕ) (error : LoadOptionError) → HasFault bytes error → ¬ EncodesLoadOption bytes
no_load_option bytes TooShort fault (option, is, e) =
    let said = says bytes option is e in absurd (omega (arith, said.room, fault))
no_load_option bytes NotNulTerminated fault (option, is, e) =
    fault.1 (
      option.description,
      file_path_list option ++ option.optional_data,
      (is.description, (says bytes option is e).rest),
    )
no_load_option bytes FilePathListTooLong (rest, has_rest, less) (option, is, e) =
    let said = says bytes option is e in
    let same = rest_is bytes rest option is said has_rest in
    absurd (omega (arith, ap length same, length-append (file_path_list option) option.optional_data))
no_load_option bytes (FilePath error) (rest, has_rest, within, none) (option, is, e) =
    let said = says bytes option is e in
    let same = rest_is bytes rest option is said has_rest in
    none (
      option.file_path,
      is.file_path,
      (
        option.other_paths,
        ap (λ r. take (u16_at bytes 4) r) same
            ∙ take_at (file_path_list option) option.optional_data (u16_at bytes 4) (sym said.list_length),
      ),
    )

-- So a reader that finds a fault reads nothing else.
pub refused : {V : Type 0} (option_of : V → LoadOption) (bytes : List ℕ) (error : LoadOptionError) → HasFault bytes error
    → ReadsLoadOption option_of bytes (Err error)
refused option_of bytes error fault = record { ok = tt; err = fault; none = no_load_option bytes error fault }

-- The rest after a description that was found.
pub rest_after : (bytes found units rest : List ℕ) → 6 ≤ length bytes → found ≡ drop 6 bytes
    → found ≡ unit_bytes units ++ rest → units ≡ with_nul (all_but_last units) → AreNonzeroUnits (all_but_last units)
    → HasRest bytes rest
rest_after bytes found units rest room found_is split nul fits =
    (all_but_last units, room, (fits, sym found_is ∙ split ∙ ap (λ us. unit_bytes us ++ rest) nul))
