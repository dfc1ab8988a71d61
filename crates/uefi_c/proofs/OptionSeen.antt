-- The parts of a load option that a call is given, and those that the library writes.
use Rattle.std.proofs.Common.{◌≡◌, ℕ, ◌+◌, ◌*◌, ◌%◌, ◌<◌, ◌^◌, List, length, sym, ap, subst, ◌∙◌, ◌↔◌}
use Rattle.uefi_base.specs.Unaligned.{units_of}
use Rattle.uefi_path.specs.LoadOption.{LoadOption}
use Rattle.uefi_path.specs.LoadOptionFlags.{attribute_bits}
use Rattle.uefi_path.specs.LoadOptionParts.{ArePartsOfOption, HasParts, IsOptionPut, description_units, parts_size}
use Rattle.uefi_path.specs.declared.load_option_parts.LoadOptionParts.{LoadOptionParts}
use Rattle.uefi_c.specs.LoadOptionWrite.{HasSeenParts, IsDescription, IsList, IsOptionWritten, option_size}
use Rattle.uefi_c.specs.Status.{not_nul_terminated}
use Rattle.uefi_c.specs.declared.load_option.UefiLoadOption.{UefiLoadOption}

module _ (seen : UefiLoadOption) (parts : LoadOptionParts)
    (attributes : attribute_bits parts.attributes ≡ seen.attributes)
    (description : description_units parts.description ≡ units_of seen.description.now)
    (list : parts.file_path_list.now ≡ seen.file_path_list.now)
    (optional_data : parts.optional_data.now ≡ seen.optional_data.now) where
  seen_parts : (option : LoadOption) → HasParts parts option → HasSeenParts seen option
  seen_parts option has = record {
    attributes = has.attributes ∙ attributes;
    description = has.description ∙ description;
    file_path_list = has.file_path_list ∙ list;
    optional_data = has.optional_data ∙ optional_data;
  }

  pub option_written : (old new : List ℕ) → IsOptionPut parts old new → IsOptionWritten seen old new
  option_written old new put = (put.0, put.1, seen_parts put.0 put.2, put.3)

  pub same_size : parts_size parts ≡ option_size seen
  same_size = ap (λ (units : List ℕ). 6 + 2 * length units + length parts.file_path_list.now + length parts.optional_data.now) description
      ∙ ap (λ (bytes : List ℕ). 6 + 2 * length (units_of seen.description.now) + length bytes + length parts.optional_data.now) list
      ∙ ap (λ (bytes : List ℕ). 6 + 2 * length (units_of seen.description.now) + length seen.file_path_list.now + length bytes) optional_data

  pub description_of : length seen.description.now % 2 ≡ 0 → ArePartsOfOption parts → IsDescription seen.description.now
  description_of even is = (even, (is.0.description, is.1.description, is.2.description ∙ description))

  pub parts_of : attribute_bits parts.attributes < 2 ^ 32 → IsList seen.file_path_list.now
      → IsDescription seen.description.now → ArePartsOfOption parts
  parts_of bits is_list is_description =
      let nodes = is_list.0.0 in let path = is_list.0.1 in let rest = is_list.0.2.0 in
      let split : seen.file_path_list.now ≡ _ = is_list.0.2.1 in (
        record { attributes = attribute_bits parts.attributes; description = is_description.1.0; file_path = nodes; other_paths = rest; optional_data = parts.optional_data.now },
        record {
          attributes = bits;
          description = is_description.1.1;
          file_path = path;
          file_path_list = subst (λ (bytes : List ℕ). length bytes < 2 ^ 16) split is_list.1;
        },
        record {
          attributes = λ i. attribute_bits parts.attributes;
          description = is_description.1.2 ∙ sym description;
          file_path_list = sym split ∙ sym list;
          optional_data = λ i. parts.optional_data.now;
        },
      )

  pub refused : (status : ℕ) → attribute_bits parts.attributes < 2 ^ 32 → length seen.description.now % 2 ≡ 0
      → IsList seen.file_path_list.now → (status ≡ not_nul_terminated) ↔ ¬ ArePartsOfOption parts
      → (status ≡ not_nul_terminated) ↔ IsList seen.file_path_list.now × ¬ IsDescription seen.description.now
  refused status bits even is_list none = (
    (λ is. (is_list, λ description. none.0 is (parts_of bits is_list description))),
    λ without. none.1 (λ are. without.1 (description_of even are)),
  )
