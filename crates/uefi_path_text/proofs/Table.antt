-- What a table of forms needs, so that what it writes is read back. Each test computes.
use Rattle.std.specs.Prelude.{ℕ, ◌==◌, ◌&&◌, ◌||◌, Bool, true, false, not, nat_le, List, [], ◌∷◌, length, is_some, slice_index}
use Rattle.std.specs.List.{list_all, list_any}
use Rattle.std.specs.Str.{bytes_eq}
use Rattle.uefi_path_text.specs.text.FileName.{is_node_character}
use Rattle.uefi_path_text.specs.form.Words.{words, are_numbers}
use Rattle.uefi_path_text.specs.parse.Values.{bytes_in}
use Rattle.uefi_path_text.specs.form.NodeForm.{NodeForm, Parameter, Source, known, stated, Arguments, listed, repeated}
use Rattle.uefi_path_text.specs.write.Values.{writes_numbers}
use Rattle.uefi_path_text.specs.declared.form.argument.Argument.{Argument}
use Rattle.uefi_path_text.specs.declared.form.argument.Argument.TheVariants.{Number, Word, Ipv4Server, Ipv6, EisaId, PnpId}

-- A text stands for an argument that is left out only if the empty text is none of its kind.
abbrev pub is_sound_parameter : Parameter → Bool
is_sound_parameter parameter = length parameter.default == 0 || not (is_some (bytes_in parameter.argument []))

abbrev pub are_sound_arguments : Arguments → Bool
are_sound_arguments (listed parameters parts) = list_all is_sound_parameter parameters
are_sound_arguments (repeated prefix kind) = not (is_some (bytes_in kind []))

-- A form's name is one of nodes, and it is no form of END nodes.
abbrev pub is_no_end : Source → Bool
is_no_end (known number) = not (number == 0x7f)
is_no_end (stated index) = true

abbrev pub is_sound : NodeForm → Bool
is_sound form = list_all is_node_character form.name && is_no_end form.device_type && are_sound_arguments form.arguments

-- No text that is written for an argument of the second kind is one of the first kind.
abbrev pub is_late : List ℕ × ℕ → Bool
is_late word = nat_le 58 (slice_index word.0 0)

abbrev pub is_early : List ℕ × ℕ → Bool
is_early word = not (nat_le 0x40 (slice_index word.0 0))

abbrev pub has_word : List (List ℕ × ℕ) → List ℕ × ℕ → Bool
has_word vocabulary word = list_any (λ other. bytes_eq other.0 word.0) vocabulary

abbrev pub kinds_differ : Argument → Argument → Bool
kinds_differ (Word a size) (Word b other) =
    not (are_numbers a) && not (writes_numbers b) && list_all (λ word. not (has_word (words a) word)) (words b)
kinds_differ (Word a size) (Number other base) = not (are_numbers a) && list_all is_late (words a)
kinds_differ (Word a size) EisaId = not (are_numbers a) && list_all is_early (words a)
kinds_differ EisaId (Number other base) = true
kinds_differ PnpId (Number other base) = true
kinds_differ Ipv4Server Ipv6 = true
kinds_differ _ _ = false

abbrev pub some_differ : List Parameter → List Parameter → Bool
some_differ [] others = false
some_differ (p ∷ parameters) [] = false
some_differ (p ∷ parameters) (q ∷ others) = kinds_differ p.argument q.argument || some_differ parameters others

abbrev pub arguments_differ : Arguments → Arguments → Bool
arguments_differ (listed parameters parts) (listed others other_parts) = some_differ parameters others
arguments_differ (repeated prefix kind) (repeated other_prefix other) = kinds_differ kind other
arguments_differ _ _ = false

-- An earlier form has another name, or takes none of the arguments that the later form writes.
abbrev pub are_apart : NodeForm → NodeForm → Bool
are_apart earlier later = not (bytes_eq earlier.name later.name) || arguments_differ earlier.arguments later.arguments

abbrev pub all_apart : List NodeForm → Bool
all_apart [] = true
all_apart (form ∷ forms) = list_all (are_apart form) forms && all_apart forms

abbrev pub is_table : List NodeForm → Bool
is_table forms = list_all is_sound forms && all_apart forms
