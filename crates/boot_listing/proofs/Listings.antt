-- Lines of variables, by what was found.
use Rattle.std.proofs.Common.{◌≡◌, ◌∙◌, ℕ, suc, ◌+◌, ◌<◌, ◌≤◌, ◌==◌, Bool, true, false, ⊎_elim, drop, get_or, List, [], ◌∷◌, ◌++◌, length, codes, refl, sym, ap, subst, arith, append_assoc, append-nil}
use Rattle.std.proofs.lemmas.Grind.{common_steps}
use Rattle.std.proofs.Math.Seq.{drop-cons}
use Rattle.std.proofs.lemmas.Bool.Decides.{eqb_tells}
use Rattle.boot_listing.specs.List.{TellsOption, TellsOptions, TellsVariables, fault_line}
use Rattle.boot_listing.specs.Variables.{files_of}
use Rattle.boot_listing.specs.declared.variables.BootVariable.TheVariants.{BootOption}
use Rattle.boot_listing.specs.declared.command.Form.{Form}
use Rattle.boot_listing.specs.declared.variables.VariableFile.{VariableFile}

-- What is said of a boot option with two files.
pub tells_twice : (form : Form) (number : ℕ) (files : List (List ℕ)) (text : List ℕ) → 2 ≤ length files
    → text ≡ fault_line form (BootOption number) (codes "twice") → TellsOption form number files text
tells_twice form number [] text two is = absurd (omega (arith, two))
tells_twice form number (bytes ∷ []) text two is = absurd (omega (arith, two))
tells_twice form number (bytes ∷ other ∷ more) text two is = is

-- What is appended of boot options, of which some are left: whatever tells of those, behind it tells of all.
abbrev pub LeavesOptions : Form → List VariableFile → List ℕ → List ℕ → List ℕ → List ℕ → Type 0
LeavesOptions form files numbers left start now =
    (rest : List ℕ) → TellsOptions form files left rest
    → (text : List ℕ) × TellsOptions form files numbers text × (now ++ rest ≡ start ++ text)

-- After one option more.
pub one_option_more : (form : Form) (files : List VariableFile) (numbers left rest_left : List ℕ) (number : ℕ) (start now next first : List ℕ)
    → left ≡ number ∷ rest_left → TellsOption form number (files_of (BootOption number) files) first → next ≡ now ++ first
    → LeavesOptions form files numbers left start now → LeavesOptions form files numbers rest_left start next
one_option_more form files numbers left rest_left number start now next first is tells grown before rest more =
    let behind = before (first ++ rest)
    (subst (λ (all : List ℕ). TellsOptions form files all (first ++ rest)) (sym is) (first, rest, tells, more, refl)) in (
      behind.0,
      behind.1,
      ap (λ (t : List ℕ). t ++ rest) grown ∙ append_assoc now first rest ∙ behind.2,
    )

-- After the last one.
pub no_option_left : (form : Form) (files : List VariableFile) (numbers left start now : List ℕ) → left ≡ []
    → LeavesOptions form files numbers left start now
    → (text : List ℕ) × TellsOptions form files numbers text × (now ≡ start ++ text)
no_option_left form files numbers left start now none before =
    let behind = before [] (subst (λ (all : List ℕ). TellsOptions form files all []) (sym none) refl) in
    (behind.0, behind.1, sym (append-nil now) ∙ behind.2)

-- Three texts, one after another.
pub three_parts : (old first second new one two three : List ℕ) → first ≡ old ++ one → second ≡ first ++ two → new ≡ second ++ three
    → new ≡ old ++ (one ++ two ++ three)
three_parts old first second new one two three a b c = grind (arith, common_steps)

-- The options that are left, with the next one.
pub option_at : (numbers : List ℕ) (i : ℕ) → i < length numbers → drop i numbers ≡ get_or numbers i 0 ∷ drop (i + 1) numbers
option_at numbers i within =
    let next : suc i ≡ i + 1 = omega arith in
    drop-cons numbers i 0 within ∙ ap (λ (k : ℕ). get_or numbers i 0 ∷ drop k numbers) next

no_items : (xs : List ℕ) → length xs ≡ 0 → xs ≡ []
no_items [] none = refl
no_items (x ∷ xs) none = absurd (omega (arith, none))

-- A text that grew from nothing, of which it is known whether it is empty.
pub nothing_told : (form : Form) (files : List VariableFile) (old new text : List ℕ) (len : ℕ) (empty : Bool) → old ≡ [] → len ≡ length new
    → empty ≡ (len == 0) → empty ≡ true → TellsVariables form files text → new ≡ old ++ text → TellsVariables form files [] × (new ≡ [])
nothing_told form files old new text len empty none is tested so tells grown =
    let zero_len : len ≡ 0 = ⊎_elim (λ eq. eq.1) (λ ne. let both = sym so ∙ tested ∙ ne.0 in absurd cc) (eqb_tells len 0) in
    let nothing : new ≡ [] = no_items new (sym is ∙ zero_len) in
    let same : text ≡ [] = sym (ap (λ (t : List ℕ). t ++ text) none) ∙ sym grown ∙ nothing in
    (subst (TellsVariables form files) same tells, nothing)

pub something_told : (form : Form) (files : List VariableFile) (old new text : List ℕ) (len : ℕ) (empty : Bool) → old ≡ [] → len ≡ length new
    → empty ≡ (len == 0) → empty ≡ false → TellsVariables form files text → new ≡ old ++ text
    → TellsVariables form files new × (new ≡ [] → ⊥)
something_told form files old new text len empty none is tested so tells grown =
    let same : text ≡ new = sym (grown ∙ ap (λ (t : List ℕ). t ++ text) none) in (
      subst (TellsVariables form files) same tells,
      λ nothing. ⊎_elim (λ eq. let both = sym so ∙ tested ∙ eq.0 in absurd cc) (λ ne. absurd (ne.1 (is ∙ ap length nothing))) (eqb_tells len 0),
    )
