use Rattle.std.proofs.Common.{◌≡◌, ℕ, Bool, true, false, cond, Option, None, Some, List, [], ◌∷◌, ap, refl, sym, ◌∙◌, rules}
use Rattle.std.proofs.lemmas.Str.{utf16_chars-nil}
use Rattle.std.specs.Char.Utf16.{utf16_chars, is_high_surrogate, is_low_surrogate, surrogate_pair_char, lone_unit_char}
use Rattle.std.specs.Prelude.{◌&&◌}
use Rattle.uefi_path_text.proofs.text.file_name.NameCharactersIterator.next.Goals.{in-Some+in_default-pair_character, in_default}
use Rattle.uefi_path_text.specs.private.FileName.{characters_left}
use Rattle.uefi_path_text.proofs.text.file_name.NameCharactersIterator.next.Goals as goal

-- The character of two units, if they are a pair.
abbrev pair_of : ℕ → ℕ → Option ℕ
pair_of first second = cond (is_high_surrogate first && is_low_surrogate second) (Some (surrogate_pair_char first second)) None

-- Where a test chose a character, it chooses the list that begins with it.
chosen : (b : Bool) (pair character : ℕ) (more others : List (Option ℕ))
    → cond b (Some pair) None ≡ Some character → cond b (Some pair ∷ more) others ≡ Some character ∷ more
chosen true pair character more others is = cc
chosen false pair character more others is = cc

-- Where it chose none, it chooses the other list.
not_chosen : (b : Bool) (pair : ℕ) (more others : List (Option ℕ))
    → cond b (Some pair) None ≡ None → cond b (Some pair ∷ more) others ≡ others
not_chosen true pair more others is = cc
not_chosen false pair more others is = refl

-- The units of a pair come first.
pair_first : (first second character : ℕ) (units left more : List ℕ) → units ≡ first ∷ left → left ≡ second ∷ more
    → pair_of first second ≡ Some character → utf16_chars units ≡ Some character ∷ utf16_chars more
unfolding utf16_chars
pair_first first second character units left more begins continues is =
    ap utf16_chars (begins ∙ ap (λ l. first ∷ l) continues) ∙ chosen _ _ _ _ _ is

-- A unit that is in no pair comes first.
lone_first : (first second : ℕ) (units left more : List ℕ) → units ≡ first ∷ left → left ≡ second ∷ more
    → pair_of first second ≡ None → utf16_chars units ≡ lone_unit_char first ∷ utf16_chars left
unfolding utf16_chars
lone_first first second units left more begins continues is =
    ap utf16_chars (begins ∙ ap (λ l. first ∷ l) continues) ∙ not_chosen _ _ _ _ is ∙ ap (λ l. lone_unit_char first ∷ utf16_chars l) (sym continues)

-- The last unit comes first.
last_first : (first : ℕ) (units left : List ℕ) → units ≡ first ∷ left → left ≡ []
    → utf16_chars units ≡ lone_unit_char first ∷ utf16_chars left
unfolding utf16_chars
last_first first units left begins ends =
    ap utf16_chars (begins ∙ ap (λ l. first ∷ l) ends) ∙ ap (λ l. lone_unit_char first ∷ utf16_chars l) (sym ends)

pub returns-in_err-first-clause-steps : goal.returns-in_err-first-clause-steps
returns-in_err-first-clause-steps c =
    let ended = c.in_err-first.ensures in
    rw (c.from_residual.ensures) (ap utf16_chars ended.0 ∙ utf16_chars-nil, ap utf16_chars ended.1 ∙ utf16_chars-nil)

pub returns-in-Some-pair_character-clause-steps : goal.returns-in-Some-pair_character-clause-steps
returns-in-Some-pair_character-clause-steps c =
    pair_first _ _ _ _ _ _ c.in_ok-first.ensures c.in-Some.ensures (sym c.in-Some-pair_character.ensures)

pub returns-in-Some-pair_character-clause-goes : goal.returns-in-Some-pair_character-clause-goes
returns-in-Some-pair_character-clause-goes c =
    let steps : characters_left c.args.self.now ≡ Some c.in-Some-pair_character.character ∷ characters_left c.next_unit-2.new.self =
    returns-in-Some-pair_character-clause-steps c in
    search rules

pub returns-clause-steps : goal.returns-clause-steps
returns-clause-steps c =
    rw c.lone_character.ensures (
    elim c.match-next_unit.branch [
      | in-Some+in_default-pair_character w ↦
          lone_first _ _ _ _ _ c.in_ok-first.ensures w.in-Some.ensures (sym w.in_default-pair_character.ensures)
      | in_default w ↦ last_first _ _ _ c.in_ok-first.ensures w.in_default.ensures.0
    ])

pub returns-clause-goes : goal.returns-clause-goes
returns-clause-goes c =
    let steps : characters_left c.args.self.now ≡ c.lone_character.result ∷ characters_left c.next_unit.new.self = returns-clause-steps c in
    search rules
