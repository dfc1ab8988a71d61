-- What a caller of the writer of load options concludes from its contract and the laws.
use Rattle.std.proofs.Common.{◌≡◌, ℕ, ◌^◌, ◌<◌, List, take, sym, ◌∙◌, ap, subst}
use Rattle.std.specs.Int.RustNames.{bit_or}
use Rattle.std.proofs.lemmas.List.{take_at}
use Rattle.uefi_base.specs.Buffer.{put_prefix}
use Rattle.uefi_path.specs.Laws.{WrittenOptions}
use Rattle.uefi_path.specs.LoadOption.{LoadOption, IsLoadOption, file_path_list, load_option_bytes, with_nul}
use Rattle.uefi_path.specs.LoadOptionFlags.{attribute_bits}
use Rattle.uefi_path.specs.LoadOptionParts.{HasParts, IsOptionPut, description_units, parts_size}
use Rattle.uefi_path.specs.declared.load_option_parts.LoadOptionParts.{LoadOptionParts}
use Rattle.uefi_examples.specs.ActiveOption.{IsPutActive, active}

-- An option that has the parts of another one, but for the flag, is that one with the flag.
pub put_active : WrittenOptions → (parts : LoadOptionParts) (option : LoadOption) (bytes old new : List ℕ)
    → IsLoadOption option → bytes ≡ load_option_bytes option
    → bit_or option.attributes 1 ≡ attribute_bits parts.attributes
    → with_nul option.description ≡ description_units parts.description
    → file_path_list option ≡ parts.file_path_list.now → option.optional_data ≡ parts.optional_data.now
    → IsOptionPut parts old new → IsPutActive bytes old new
put_active laws parts option bytes old new is read attributes description list optional (written, is_written, has, put) =
    let is_active : IsLoadOption (active option) = record {
      attributes = subst (λ n. n < 2 ^ 32) (has.attributes ∙ sym attributes) is_written.attributes;
      description = is.description;
      file_path = is.file_path;
      file_path_list = is.file_path_list;
    } in
    let has_active : HasParts parts (active option) =
    record { attributes = attributes; description = description; file_path_list = list; optional_data = optional } in
    let same : written ≡ active option =
    laws.one_option parts written (active option) is_written is_active has has_active in
    (option, is, read, put ∙ ap (λ o. put_prefix (load_option_bytes o) old) same)

-- What is written from the parts of an option is its bytes.
pub same_again : WrittenOptions → (parts : LoadOptionParts) (option : LoadOption) (size : ℕ) (bytes old new : List ℕ)
    → IsLoadOption option → bytes ≡ load_option_bytes option → HasParts parts option → size ≡ parts_size parts
    → IsOptionPut parts old new → take size new ≡ bytes
same_again laws parts option size bytes old new is read has ended (written, is_written, has_written, put) =
    let same = laws.one_option parts written option is_written is has_written has in
    ap (take size) put ∙ take_at (load_option_bytes written) _ size (laws.sized parts written has_written ∙ sym ended)
    ∙ ap load_option_bytes same ∙ sym read
