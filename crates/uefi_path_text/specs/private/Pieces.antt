-- The piece at the start of a text.
use Rattle.std.specs.Prelude.{ℕ, ◌≡◌, ◌<◌, ◌==◌, Bool, true, not, List, [], ◌∷◌, length}
use Rattle.std.specs.List.{before_first, after_first, position_or_len}
use Rattle.std.specs.Prelude.{if◌then◌else◌}
use Rattle.uefi_path_text.specs.text.FileName.{reads_as_node}
use Rattle.uefi_path_text.specs.parse.Nodes.{is_plain_byte}

-- The text up to the first character that passes a test, without it and with it.
abbrev pub up_to : (ℕ → Bool) → List ℕ → List ℕ
up_to stop [] = []
up_to stop (c ∷ text) = if stop c then [] else c ∷ up_to stop text

abbrev pub through : (ℕ → Bool) → List ℕ → List ℕ
through stop [] = []
through stop (c ∷ text) = c ∷ (if stop c then [] else through stop text)

-- The parentheses.
abbrev pub is_opening : ℕ → Bool
is_opening c = c == 0x28

abbrev pub is_closing : ℕ → Bool
is_closing c = c == 0x29

-- A slash or a comma, before which a name ends.
abbrev pub is_mark : ℕ → Bool
is_mark c = not (is_plain_byte c)

-- What follows the text of a node: nothing, or what begins with a slash or a comma.
abbrev pub is_cut : List ℕ → Bool
is_cut [] = true
is_cut (c ∷ text) = is_mark c

-- A call is through the parenthesis that closes, and a name up to a slash or a comma.
abbrev pub piece_at : List ℕ → List ℕ
piece_at text = if reads_as_node text then through is_closing text else up_to is_mark text

-- The parts of a text before and after the first mark.
pub record IsSplitAt (mark : ℕ) (text before after : List ℕ) : Type 0 where
  pub front : before ≡ before_first (λ c. c == mark) text
  pub back : after ≡ after_first (λ c. c == mark) text
  pub some : position_or_len (λ c. c == mark) text < length text
