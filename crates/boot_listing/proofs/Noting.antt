-- What is found of a variable once one more file is noted.
use Rattle.std.proofs.Common.{◌≡◌, ◌↔◌, ◌∙◌, ℕ, ◌+◌, ◌<◌, Bool, true, false, List, [], ◌∷◌, ◌++◌, length, get_or, set, take, replicate, flat_map, Vec, Option, Some, None, IsTrue, sym, ap, refl, subst, string_bytes, if◌then◌else◌, ⊎_elim}
use Rattle.std.proofs.lemmas.List.{append-nil, flat_map_more, get_or-replicate, get_or-set_same, get_or-set_other, length-replicate, take_more}
use Rattle.std.proofs.lemmas.Bool.Decides.{eqb_tells}
use Rattle.std.specs.Vec.{with_item}
use Rattle.boot_listing.specs.Variables.{IsVariable, bytes_if, files_of, is_file_of}
use Rattle.boot_listing.specs.private.Found.{Finds, IsFound, found_of}
use Rattle.boot_listing.specs.declared.variables.BootVariable.{BootVariable}
use Rattle.boot_listing.specs.declared.variables.BootVariable.TheVariants.{BootCurrent, BootOrder, BootOption}
use Rattle.boot_listing.specs.declared.variables.Found.{Found}
use Rattle.boot_listing.specs.declared.variables.Found.TheVariants.{Nothing}
use Rattle.boot_listing.specs.declared.variables.BootVariables.{BootVariables}
use Rattle.boot_listing.specs.declared.variables.VariableFile.{VariableFile}

-- The file is the variable that was read from its name.
abbrev pub IsRead : VariableFile → Option BootVariable → BootVariable → Type 0
IsRead file read variable = IsTrue (is_file_of variable (string_bytes file.name)) ↔ (read ≡ Some variable)

nothing_if_not : {X : Type 0} (b : Bool) (xs : List X) → (b ≡ true → ⊥) → (if b then xs else []) ≡ []
nothing_if_not true xs none = absurd (none refl)
nothing_if_not false xs none = refl

-- A file of another variable changes nothing.
pub keeps : (variable : BootVariable) (file : VariableFile) (read : Option BootVariable) (files : List (List ℕ)) (found : Found)
    → IsRead file read variable → (read ≡ Some variable → ⊥) → IsFound files found
    → IsFound (files ++ bytes_if variable file) found
keeps variable file read files found is other before =
    let none : bytes_if variable file ≡ [] = nothing_if_not _ _ (λ so. other (is.0 so)) in
    subst (λ (more : List (List ℕ)). IsFound (files ++ more) found) (sym none)
    (subst (λ (same : List (List ℕ)). IsFound same found) (sym (append-nil files)) before)

-- A file of the variable is one more.
pub grows : (variable : BootVariable) (file : VariableFile) (read : Option BootVariable) (files : List (List ℕ)) (next : Found)
    → IsRead file read variable → read ≡ Some variable → IsFound (files ++ file.bytes.items ∷ []) next
    → IsFound (files ++ bytes_if variable file) next
grows variable file read files next is same after =
    let one : bytes_if variable file ≡ file.bytes.items ∷ [] =
    ap (λ (b : Bool). if b then file.bytes.items ∷ [] else []) (is.1 same) in
    subst (λ (more : List (List ℕ)). IsFound (files ++ more) next) (sym one) after

number_in : Option BootVariable → ℕ
number_in (Some (BootOption n)) = n
number_in (Some BootCurrent) = 0
number_in (Some BootOrder) = 0
number_in None = 0

-- After a file of `BootCurrent`.
pub current_noted : {A : Type 0} (old : BootVariables A) (file : VariableFile) (read : Option BootVariable) (next : Found)
    (variable : BootVariable) (files : List (List ℕ))
    → IsRead file read variable → read ≡ Some BootCurrent → IsFound files (found_of old variable)
    → ((files : List (List ℕ)) → IsFound files old.current → IsFound (files ++ file.bytes.items ∷ []) next)
    → IsFound (files ++ bytes_if variable file)
    (found_of {A = A} record { current = next; order = old.order; options = old.options } variable)
current_noted old file read next BootCurrent files is read_so before more = grows BootCurrent file read files next is read_so (more files before)
current_noted old file read next BootOrder files is read_so before more = keeps BootOrder file read files old.order is (λ same. let both = sym read_so ∙ same in cc) before
current_noted old file read next (BootOption n) files is read_so before more = keeps (BootOption n) file read files _ is (λ same. let both = sym read_so ∙ same in cc) before

-- After a file of `BootOrder`.
pub order_noted : {A : Type 0} (old : BootVariables A) (file : VariableFile) (read : Option BootVariable) (next : Found)
    (variable : BootVariable) (files : List (List ℕ))
    → IsRead file read variable → read ≡ Some BootOrder → IsFound files (found_of old variable)
    → ((files : List (List ℕ)) → IsFound files old.order → IsFound (files ++ file.bytes.items ∷ []) next)
    → IsFound (files ++ bytes_if variable file)
    (found_of {A = A} record { current = old.current; order = next; options = old.options } variable)
order_noted old file read next BootCurrent files is read_so before more = keeps BootCurrent file read files old.current is (λ same. let both = sym read_so ∙ same in cc) before
order_noted old file read next BootOrder files is read_so before more = grows BootOrder file read files next is read_so (more files before)
order_noted old file read next (BootOption n) files is read_so before more = keeps (BootOption n) file read files _ is (λ same. let both = sym read_so ∙ same in cc) before

same_number : (n m : ℕ) → Some (BootOption n) ≡ Some (BootOption m) → n ≡ m
unfolding number_in
same_number n m same = ap (λ (o : Option BootVariable). number_in o) same

-- After a file of a boot option.
pub option_noted : {A : Type 0} (old : BootVariables A) (file : VariableFile) (read : Option BootVariable) (k : ℕ) (next : Found)
    (variable : BootVariable) (files : List (List ℕ))
    → IsRead file read variable → read ≡ Some (BootOption k) → k < length old.options.items → IsFound files (found_of old variable)
    → ((files : List (List ℕ)) → IsFound files (get_or old.options.items k Nothing) → IsFound (files ++ file.bytes.items ∷ []) next)
    → IsFound (files ++ bytes_if variable file)
    (found_of {A = A} record { current = old.current; order = old.order; options = with_item old.options k next } variable)
option_noted old file read k next BootCurrent files is read_so within before more = keeps BootCurrent file read files old.current is (λ same. let both = sym read_so ∙ same in cc) before
option_noted old file read k next BootOrder files is read_so within before more = keeps BootOrder file read files old.order is (λ same. let both = sym read_so ∙ same in cc) before
option_noted old file read k next (BootOption n) files is read_so within before more = ⊎_elim
    (λ eq.
    let number : n ≡ k = eq.1 in
    let stored : get_or (set old.options.items k next) n Nothing ≡ next = ap (λ (m : ℕ). get_or (set old.options.items k next) m Nothing) number ∙ get_or-set_same old.options.items k next Nothing within in
    let found : IsFound files (get_or old.options.items k Nothing) = subst (λ (m : ℕ). IsFound files (get_or old.options.items m Nothing)) number before in
    subst (IsFound (files ++ bytes_if (BootOption n) file)) (sym stored) (grows (BootOption n) file read files next is (read_so ∙ ap (λ (m : ℕ). Some (BootOption m)) (sym number)) (more files found)))
    (λ ne.
    let other = ne.1 in
    let stored : get_or (set old.options.items k next) n Nothing ≡ get_or old.options.items n Nothing = get_or-set_other old.options.items k n next Nothing other in
    subst (IsFound (files ++ bytes_if (BootOption n) file)) (sym stored) (keeps (BootOption n) file read files _ is (λ same. other (same_number n k (sym same ∙ read_so))) before))
    (eqb_tells n k)

-- The files of a variable, with one file more.
pub files_more : (variable : BootVariable) (files : List VariableFile) (i : ℕ) (file : VariableFile) → i < length files
    → file ≡ get_or files i file
    → files_of variable (take (i + 1) files) ≡ files_of variable (take i files) ++ bytes_if variable file
unfolding files_of
files_more variable files i file within is =
    ap (flat_map (bytes_if variable)) (take_more files i file within ∙ ap (λ (it : VariableFile). take i files ++ it ∷ []) (sym is))
    ∙ sym (flat_map_more (bytes_if variable) [] (take i files) file)

found_nothing : {A : Type 0} (variable : BootVariable) (options : Vec Found A) → options.items ≡ replicate 65536 Nothing
    → IsVariable variable
    → IsFound [] (found_of {A = A} record { current = Nothing; order = Nothing; options = options } variable)
found_nothing BootCurrent options all valid = refl
found_nothing BootOrder options all valid = refl
found_nothing (BootOption n) options all valid =
    subst (IsFound []) (sym (ap (λ (items : List Found). get_or items n Nothing) all ∙ get_or-replicate 65536 n Nothing Nothing valid)) refl

-- Before the first file.
pub finds_nothing : {A : Type 0} (options : Vec Found A) → options.items ≡ replicate 65536 Nothing
    → Finds {A = A} [] record { current = Nothing; order = Nothing; options = options }
unfolding files_of
finds_nothing options all = record {
  count = ap length all ∙ length-replicate 65536 Nothing;
  each = λ variable valid. found_nothing variable options all valid;
}

-- With one file more.
pub finds_more : {A : Type 0} (files : List VariableFile) (i : ℕ) (file : VariableFile) (old new : BootVariables A)
    → i < length files → file ≡ get_or files i file → Finds (take i files) old → length new.options.items ≡ 65536
    → ((variable : BootVariable) → IsVariable variable → (bytes : List (List ℕ)) → IsFound bytes (found_of old variable)
    → IsFound (bytes ++ bytes_if variable file) (found_of new variable))
    → Finds (take (i + 1) files) new
finds_more files i file old new within is before count more = record {
  count = count;
  each = λ variable valid. subst (λ (bytes : List (List ℕ)). IsFound bytes (found_of new variable))
      (sym (files_more variable files i file within is)) (more variable valid _ (before.each variable valid));
}
