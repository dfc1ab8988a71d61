-- A node in the generic form is read as it was written.
use Rattle.std.proofs.Common.{◌≡◌, ℕ, ◌<◌, ◌≤◌, List, [], ◌∷◌, length, true, false, refl, arith, ap, ◌∙◌, codes, Some, ne_eqb, le-leb}
use Rattle.std.specs.Fmt.{decimal}
use Rattle.std.proofs.lemmas.Bool.{and_from, cond-true, cond-false, not_from_false}
use Rattle.std.proofs.lemmas.Fmt.{decimal_is_IsNumeral}
use Rattle.std.proofs.lemmas.List.{append-nil}
use Rattle.uefi_base.specs.LittleEndian.{AreBytes}
use Rattle.uefi_path.specs.Node.{Node}
use Rattle.uefi_path_text.specs.text.Arguments.{hex_bytes}
use Rattle.uefi_path_text.specs.text.NodeText.{data_argument, generic_text, is_plain_end}
use Rattle.uefi_path_text.specs.parse.Parts.{given}
use Rattle.uefi_path_text.specs.parse.Values.{bytes_in}
use Rattle.uefi_path_text.specs.form.NodeForm.{NodeForm, Parameter, form, stated, listed, argument}
use Rattle.uefi_path_text.specs.parse.Arguments.{onto, text_or, value_in, listed_values, form_node}
use Rattle.uefi_path_text.specs.parse.Nodes.{is_written, node_of_values, node_in, piece_node}
use Rattle.uefi_path_text.specs.form.Parameters.{required, u8}
use Rattle.uefi_path_text.specs.declared.form.argument.Argument.TheVariants.{Bytes}
use Rattle.uefi_path_text.proofs.reading.ArgumentTexts.{decimal_argument, hex_bytes_argument}
use Rattle.uefi_path_text.proofs.reading.ByteTexts.{bytes_read}
use Rattle.uefi_path_text.proofs.reading.Calls.{call_by_texts, first_reads, joined_two}
use Rattle.uefi_path_text.proofs.reading.CutTexts.{are_arguments}
use Rattle.uefi_path_text.proofs.reading.LongNumbers.{low_first_1}
use Rattle.uefi_path_text.proofs.reading.Numerals.{decimal_read}

-- A text that isn't empty stands for itself, and the empty one for an empty default.
given_text : (default text : List ℕ) → 0 < length text → text_or default text ≡ text
given_text default text some = cond-false _ _ _ (ne_eqb (length text) 0 (λ none. omega (arith, none, some)))

no_default : (text : List ℕ) → text_or [] text ≡ text
no_default [] = refl
no_default (c ∷ text) = given_text [] (c ∷ text) (omega arith)

-- The numbers.
number_value : (n : ℕ) → n < 256 → value_in u8 (decimal n) ≡ Some (n ∷ [])
unfolding bytes_in
number_value n small =
    let some : 0 < length (decimal n) = (decimal_is_IsNumeral n (omega arith)).0.0 in
    ap (bytes_in u8.argument) (given_text u8.default (decimal n) some)
    ∙ decimal_read 1 n (omega arith) (omega arith) ∙ ap Some (low_first_1 n small)

-- The data.
abbrev hex_data : Parameter
hex_data = required (Bytes 65531)

data_value : (bytes : List ℕ) → length bytes ≤ 65531 → AreBytes bytes → value_in hex_data (hex_bytes bytes) ≡ Some bytes
data_value bytes short each =
    ap (bytes_in (Bytes 65531)) (no_default (hex_bytes bytes)) ∙ bytes_read 65531 bytes short each

data_values : (bytes : List ℕ) → length bytes ≤ 65531 → AreBytes bytes
    → listed_values (hex_data ∷ []) (data_argument bytes) ≡ Some (bytes ∷ [])
unfolding hex_bytes
data_values [] short each = ap (λ o. onto o (Some [])) (data_value [] short each)
data_values (b ∷ bytes) short each = ap (λ o. onto o (Some [])) (data_value (b ∷ bytes) short each)

data_are : (bytes : List ℕ) → AreBytes bytes → are_arguments (data_argument bytes) ≡ true
data_are [] each = refl
data_are (b ∷ bytes) each = and_from _ _ (hex_bytes_argument (b ∷ bytes) each) refl

-- The whole node.
abbrev path_form : NodeForm
path_form = form (codes "Path") (stated 0) (stated 1) (listed (u8 ∷ u8 ∷ hex_data ∷ []) (argument 2 ∷ []))

is_written_node : (node : Node) → length node.payload ≤ 0xfffb → is_plain_end 0x01 node ≡ false
    → is_plain_end 0xff node ≡ false → is_written node ≡ true
is_written_node node short instance entire =
    and_from _ _ (and_from _ _ (le-leb (length node.payload) 0xfffb short) (not_from_false _ instance)) (not_from_false _ entire)

pub generic_reads : (node : Node) → node.device_type < 256 → node.sub_type < 256 → length node.payload ≤ 0xfffb
    → AreBytes node.payload → is_plain_end 0x01 node ≡ false → is_plain_end 0xff node ≡ false
    → piece_node (generic_text node) ≡ Some node
unfolding generic_text
generic_reads node device sub short each instance entire =
    let arguments : List (List ℕ) = decimal node.device_type ∷ decimal node.sub_type ∷ data_argument node.payload in
    let are : are_arguments arguments ≡ true =
    and_from _ _ (decimal_argument node.device_type (omega arith))
    (and_from _ _ (decimal_argument node.sub_type (omega arith)) (data_are node.payload each)) in
    let values : listed_values (u8 ∷ u8 ∷ hex_data ∷ []) arguments
    ≡ Some ((node.device_type ∷ []) ∷ (node.sub_type ∷ []) ∷ node.payload ∷ []) =
    λ i. onto (number_value node.device_type device i) (onto (number_value node.sub_type sub i) (data_values node.payload short each i)) in
    let whole : form_node path_form ((node.device_type ∷ []) ∷ (node.sub_type ∷ []) ∷ node.payload ∷ []) ≡ node =
    λ i. record node { payload = append-nil node.payload i } in
    let reads : node_in path_form arguments ≡ Some node =
    ap (node_of_values path_form) values ∙ ap (λ n. given (is_written n) n) whole
    ∙ cond-true _ _ _ (is_written_node node short instance entire) in
    call_by_texts (codes "Path") arguments (path_form ∷ []) refl are (joined_two _ _ (data_argument node.payload)) refl
    ∙ first_reads path_form [] arguments node reads
