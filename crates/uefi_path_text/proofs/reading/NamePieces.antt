-- The node of a piece that is a file's name.
use Rattle.std.proofs.Common.{◌≡◌, ℕ, ◌<◌, ◌≤◌, ◌==◌, ◌&&◌, List, length, Bool, true, false, not, refl, sym, ap, ◌∙◌, Some, None, le-leb}
use Rattle.std.specs.List.{list_all}
use Rattle.std.specs.Str.{IsUtf8, chars}
use Rattle.std.proofs.lemmas.Bool.{and_from, cond-true, cond-false, lt-leb}
use Rattle.std.proofs.lemmas.Str.{encodes-chars}
use Rattle.uefi_path_text.specs.text.FileName.{reads_as_node, is_name_character}
use Rattle.uefi_path_text.specs.parse.Nodes.{is_file_name, is_plain_byte, name_node, if_written, piece_node}
use Rattle.uefi_path_text.proofs.reading.NameTexts.{name_plain}

-- A piece that doesn't read as a node is a file's name, or no node's.
pub named_piece : (piece : List ℕ) → reads_as_node piece ≡ false → is_file_name piece ≡ true
    → piece_node piece ≡ if_written (name_node piece)
unfolding piece_node
named_piece piece reads named = cond-false _ _ _ reads ∙ cond-true _ _ _ named

pub other_piece : (piece : List ℕ) → reads_as_node piece ≡ false → is_file_name piece ≡ false → piece_node piece ≡ None
unfolding piece_node
other_piece piece reads named = cond-false _ _ _ reads ∙ cond-false _ _ _ named

-- Its node is written unless it is too long.
pub name_written : (piece : List ℕ) → length (name_node piece).payload ≤ 0xfffb
    → if_written (name_node piece) ≡ Some (name_node piece)
name_written piece within =
    cond-true _ _ _ (and_from _ _ (and_from _ _ (le-leb (length (name_node piece).payload) 0xfffb within) refl) refl)

pub name_too_long : (piece : List ℕ) → 0xfffb < length (name_node piece).payload → if_written (name_node piece) ≡ None
name_too_long piece long =
    cond-false _ _ _ (ap (λ b. b && true && true) (lt-leb (length (name_node piece).payload) 0xfffb long))

-- In UTF-8 the characters decide alone.
implied : (first second third : Bool) → (third ≡ true → second ≡ true) → (first && second && third) ≡ (first && third)
implied false second third follows = refl
implied true true third follows = refl
implied true false true follows = follows refl
implied true false false follows = refl

pub file_name_is : (piece : List ℕ) → IsUtf8 piece
    → is_file_name piece ≡ (not (length piece == 0) && list_all is_name_character (chars piece))
file_name_is piece utf8 =
    implied (not (length piece == 0)) (list_all is_plain_byte piece) (list_all is_name_character (chars piece))
    (λ all. ap (list_all is_plain_byte) (sym (encodes-chars piece utf8)) ∙ name_plain (chars piece) all)
