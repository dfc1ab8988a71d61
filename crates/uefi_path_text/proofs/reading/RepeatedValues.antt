-- Values of texts that are all of a kind, one after another.
use Rattle.std.proofs.Common.{◌≡◌, ℕ, ◌+◌, ◌≤◌, List, [], ◌∷◌, ◌++◌, length, refl, sym, ◌∙◌, ap, Bool, true, false, cond, Option, Some, None, arith, length-append, subst, IfSome}
use Rattle.std.specs.Prelude.{is_some, ◌==◌, IsSomeAnd}
use Rattle.std.specs.Option.{unwrap_or}
use Rattle.std.proofs.lemmas.Grind.{common_steps}
use Rattle.uefi_base.specs.Buffer.{put_at}
use Rattle.uefi_base.proofs.Parts.{put_next}
use Rattle.uefi_path_text.specs.parse.Values.{bytes_in}
use Rattle.uefi_path_text.specs.parse.Arguments.{onto, repeated_values, values_in, joined_values, arguments_data}
use Rattle.uefi_path_text.specs.form.NodeForm.{repeated, Arguments}
use Rattle.uefi_path_text.specs.declared.form.argument.Argument.{Argument}

-- The bytes of the values, if there are all.
abbrev pub all_bytes : Option (List (List ℕ)) → List ℕ
all_bytes values = joined_values (unwrap_or values [])

-- The first value and then the others.
record HasFirst (value : List ℕ) (all others : Option (List (List ℕ))) : Type 0 where
  pub some : is_some others ≡ true
  pub bytes : all_bytes all ≡ value ++ all_bytes others

onto_first_value : (value : List ℕ) (others : Option (List (List ℕ))) → is_some (onto (Some value) others) ≡ true
    → HasFirst value (onto (Some value) others) others
onto_first_value value None some = cc
onto_first_value value (Some values) some = record { some = refl; bytes = refl }

first_value : (kind : Argument) (text value : List ℕ) (before others : List (List ℕ)) → before ≡ text ∷ others
    → bytes_in kind text ≡ Some value → is_some (repeated_values kind before) ≡ true
    → HasFirst value (repeated_values kind before) (repeated_values kind others)
first_value kind text value before others is read some =
    let whole : repeated_values kind before ≡ onto (Some value) (repeated_values kind others) =
    ap (repeated_values kind) is ∙ ap (λ o. onto o (repeated_values kind others)) read in
    let first = onto_first_value value (repeated_values kind others) (sym (ap is_some whole) ∙ some) in
    record { some = first.some; bytes = ap all_bytes whole ∙ first.bytes }

pub length-put_at : (offset : ℕ) (part bytes : List ℕ) → offset + length part ≤ length bytes
    → length (put_at offset part bytes) ≡ length bytes
length-put_at offset part bytes within = grind (arith, common_steps)

-- After one more value is written.
pub next_put : (kind : Argument) (before others : List (List ℕ)) (text value : List ℕ) (end size : ℕ)
    (whole old now : List ℕ) → before ≡ text ∷ others → bytes_in kind text ≡ Some value → size ≡ length value
    → is_some (repeated_values kind before) ≡ true
    → put_at end (all_bytes (repeated_values kind before)) old ≡ whole
    → end + length (all_bytes (repeated_values kind before)) ≤ length old → now ≡ put_at end value old
    → (is_some (repeated_values kind others) ≡ true)
    × (put_at (end + size) (all_bytes (repeated_values kind others)) now ≡ whole)
    × (end + size + length (all_bytes (repeated_values kind others)) ≤ length now)
next_put kind before others text value end size whole old now is read sized some rest room first =
    let parts = first_value kind text value before others is read some in
    let more : List ℕ = all_bytes (repeated_values kind others) in
    let long : length (all_bytes (repeated_values kind before)) ≡ length value + length more =
    ap length parts.bytes ∙ length-append value more in
    let within : end + length value ≤ length old = omega arith in
    let kept : length now ≡ length old = ap length first ∙ length-put_at end value old within in (
      parts.some,
      ap (λ n. put_at (end + n) more now) sized ∙ ap (λ b. put_at (end + length value) more b) first
          ∙ put_next end value more old within ∙ ap (λ b. put_at end b old) (sym parts.bytes) ∙ rest,
      omega arith,
    )

-- The values of one text or more are those of the texts.
unless_none : {A : Type 0} (b : Bool) (o : Option A) → is_some (cond b None o) ≡ true → cond b None o ≡ o
unless_none true o some = cc
unless_none false o some = refl

pub repeated_same : (prefix : List ℕ) (kind : Argument) (texts : List (List ℕ))
    → is_some (values_in (repeated prefix kind) texts) ≡ true
    → values_in (repeated prefix kind) texts ≡ repeated_values kind texts
repeated_same prefix kind texts some = unless_none (length texts == 0) (repeated_values kind texts) some

-- The data of such a node are the prefix and the values.
pub repeated_data : (arguments : Arguments) (prefix : List ℕ) (kind : Argument) (texts : List (List ℕ))
    → arguments ≡ repeated prefix kind → is_some (values_in arguments texts) ≡ true
    → arguments_data arguments (unwrap_or (values_in arguments texts) []) ≡ prefix ++ all_bytes (repeated_values kind texts)
repeated_data arguments prefix kind texts is some =
    let P : Arguments → Type 0 = λ a. is_some (values_in a texts) ≡ true
    → arguments_data a (unwrap_or (values_in a texts) []) ≡ prefix ++ all_bytes (repeated_values kind texts) in
    subst P (sym is) (λ each. ap (λ o. prefix ++ all_bytes o) (repeated_same prefix kind texts each)) some

-- The length of the prefix and the values.
pub prefix_length : (prefix values bytes : List ℕ) (size others : Option ℕ) → bytes ≡ prefix ++ values
    → IfSome size (λ n. IsSomeAnd others (λ m. n ≡ length prefix + m)) → IfSome others (λ m. m ≡ length values)
    → IfSome size (λ n. n ≡ length bytes)
prefix_length prefix values bytes None others is sum one = tt
prefix_length prefix values bytes (Some n) None is sum one = absurd sum
prefix_length prefix values bytes (Some n) (Some m) is sum one = omega (arith, ap length is, length-append prefix values)

-- The prefix and then the values are put.
pub prefix_put : (prefix values bytes old now next : List ℕ) (offset : ℕ) → bytes ≡ prefix ++ values
    → offset + length bytes ≤ length old → now ≡ put_at offset prefix old
    → next ≡ put_at (offset + length prefix) values now → next ≡ put_at offset bytes old
prefix_put prefix values bytes old now next offset is room first others =
    let within : offset + length prefix ≤ length old = omega (arith, ap length is, length-append prefix values) in
    others ∙ ap (λ b. put_at (offset + length prefix) values b) first ∙ put_next offset prefix values old within
    ∙ ap (λ b. put_at offset b old) (sym is)
