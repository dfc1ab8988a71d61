-- The name of a file is read as it was written.
use Rattle.std.proofs.Common.{◌≡◌, ℕ, ◌%◌, ◌<◌, ◌≤◌, ◌==◌, List, [], ◌∷◌, ◌++◌, length, Bool, true, false, cond, not, refl, arith, sym, ap, ◌∙◌, Option, Some, None, encode_utf8_all, chars, flat_map, ltb-true, eqb-true, ne_eqb, subst}
use Rattle.std.specs.List.{list_all}
use Rattle.std.specs.Char.Escape.{encode_utf16}
use Rattle.std.specs.Char.Utf16.{has_unpaired_surrogate, utf16_lossy_chars}
use Rattle.std.proofs.lemmas.Bool.{and_parts, and_from, cond-true, cond-false, not-true, not_from_false}
use Rattle.std.proofs.lemmas.List.{length_push}
use Rattle.std.proofs.lemmas.Option.{cond_some, none-some}
use Rattle.std.proofs.lemmas.Str.{chars-encodes, length-le-encodes}
use Rattle.uefi_base.specs.Unaligned.{units_of, unit_bytes, AreUnits}
use Rattle.uefi_base.specs.LittleEndian.{AreBytes}
use Rattle.uefi_path.specs.Node.{Node}
use Rattle.uefi_base.proofs.UnitsBack.{units_read_back}
use Rattle.uefi_path_text.specs.text.Arguments.{without_nul}
use Rattle.uefi_path_text.specs.text.FileName.{is_name, is_name_character, is_nul_ended, name_text, file_name_text, reads_as_node}
use Rattle.uefi_path_text.specs.parse.Parts.{given}
use Rattle.uefi_path_text.specs.parse.Nodes.{is_written, is_file_name, is_plain_byte, name_node, piece_node}
use Rattle.uefi_path_text.proofs.reading.Calls.{node_with, written}
use Rattle.uefi_path_text.proofs.reading.NameTexts.{name_plain, name_text_reads}
use Rattle.uefi_path_text.proofs.reading.NameUnits.{units_small, front_units, nul_last, units_spelled}

-- The text of units that are a name.
record IsNameText (units text : List ℕ) : Type 0 where
  paired : has_unpaired_surrogate units ≡ false
  name : is_name (utf16_lossy_chars units) ≡ true
  is : encode_utf8_all (utf16_lossy_chars units) ≡ text

chosen : (b : Bool) (o : Option (List ℕ)) (text : List ℕ) → cond b o None ≡ Some text → (b ≡ true) × (o ≡ Some text)
chosen true o text is = (refl, is)
chosen false o text is = absurd (none-some text is)

name_text_is : (units text : List ℕ) → name_text units ≡ Some text → IsNameText units text
unfolding name_text
name_text_is units text is =
    let parts = cond_some _ _ text is in
    let tests = and_parts _ _ parts.0 in
    record { paired = not-true _ tests.0; name = tests.1; is = parts.1 }

-- It isn't empty, if the units aren't.
some_text : (cs units : List ℕ) → flat_map encode_utf16 cs ≡ units → 0 < length units → 0 < length (encode_utf8_all cs)
some_text [] units are some = absurd (omega (arith, ap length are, some))
some_text (c ∷ cs) units are some = omega (arith, length-le-encodes (c ∷ cs))

-- The text is a name, and its node has the units.
name_reads : (units text : List ℕ) → AreUnits units → 0 < length units → IsNameText units text
    → (reads_as_node text ≡ false) × (is_file_name text ≡ true) × (flat_map encode_utf16 (chars text) ≡ units)
name_reads units text fit some has =
    let cs : List ℕ = utf16_lossy_chars units in
    let spells = units_spelled units fit has.paired in
    let own : chars text ≡ cs = ap chars (sym has.is) ∙ chars-encodes cs spells.are_scalars in
    let tests = and_parts (list_all is_name_character cs) (not (reads_as_node cs)) has.name in
    let long : 0 < length (encode_utf8_all cs) = some_text cs units spells.units_are some in
    let some_bytes : not (length text == 0) ≡ true =
    ap (λ t. not (length t == 0)) (sym has.is) ∙ not_from_false _ (ne_eqb _ 0 (λ none. omega (arith, none, long))) in
    let plain : list_all is_plain_byte text ≡ true = ap (list_all is_plain_byte) (sym has.is) ∙ name_plain cs tests.0 in
    let named : list_all is_name_character (chars text) ≡ true = ap (list_all is_name_character) own ∙ tests.0 in (
      ap reads_as_node (sym has.is) ∙ name_text_reads cs (not-true _ tests.1),
      and_from _ _ (and_from _ _ some_bytes plain) named,
      ap (flat_map encode_utf16) own ∙ spells.units_are,
    )

file_name_read : (d units text : List ℕ) → AreUnits units → 0 < length units → IsNameText units text
    → unit_bytes (units ++ 0 ∷ []) ≡ d → length d ≤ 0xfffb → piece_node text ≡ Some (node_with 4 4 d)
unfolding piece_node
file_name_read d units text fit some has bytes short =
    let reads = name_reads units text fit some has in
    let node : name_node text ≡ node_with 4 4 d =
    ap (λ us. node_with 4 4 (unit_bytes (us ++ 0 ∷ []))) reads.2 ∙ ap (node_with 4 4) bytes in
    cond-false _ _ _ reads.0 ∙ cond-true _ _ _ reads.1 ∙ ap (λ n. given (is_written n) n) node
    ∙ cond-true _ _ _ (written 4 4 d refl short)

-- What is known of a node whose path has a text.
record HasName (node : Node) (text : List ℕ) : Type 0 where
  device_type : node.device_type ≡ 4
  sub_type : node.sub_type ≡ 4
  even : length node.payload % 2 ≡ 0
  ended : is_nul_ended (units_of node.payload) ≡ true
  name : name_text (without_nul (units_of node.payload)) ≡ Some text

has_name : (node : Node) (text : List ℕ) → file_name_text node ≡ Some text → HasName node text
unfolding file_name_text
has_name node text is =
    let parts = chosen _ (name_text (without_nul (units_of node.payload))) text is in
    let ended = and_parts _ _ (and_parts _ _ parts.0).0 in
    let even = and_parts _ _ ended.0 in
    let types = and_parts _ _ even.0 in
    record {
      device_type = eqb-true node.device_type 4 types.0;
      sub_type = eqb-true node.sub_type 4 types.1;
      even = eqb-true (length node.payload % 2) 0 even.1;
      ended = ended.1;
      name = parts.1;
    }

pub file_name_reads : (node : Node) (text : List ℕ) → AreBytes node.payload → length node.payload ≤ 0xfffb
    → file_name_text node ≡ Some text → piece_node text ≡ Some node
file_name_reads node text each short is =
    let d : List ℕ = node.payload in
    let has = has_name node text is in
    let units : List ℕ = units_of d in
    let last : units ≡ without_nul units ++ 0 ∷ [] = nul_last units has.ended in
    let fit : AreUnits (without_nul units) = front_units (without_nul units) (0 ∷ []) (subst AreUnits last (units_small d each)) in
    let long : 1 < length units = ltb-true 1 (length units) (and_parts _ _ has.ended).0 in
    let some : 0 < length (without_nul units) = omega (arith, long, ap length last, length_push (without_nul units) 0) in
    let bytes : unit_bytes (without_nul units ++ 0 ∷ []) ≡ d = ap unit_bytes (sym last) ∙ units_read_back.read d each has.even in
    file_name_read d (without_nul units) text fit some (name_text_is (without_nul units) text has.name) bytes short
    ∙ (λ i. Some (node_with (sym has.device_type i) (sym has.sub_type i) d))
