-- The commands in the data of events.
use Rattle.std.proofs.Common.{IsTrue, ◌↔◌, ◌≡◌, ◌∙◌, ℕ, zero, suc, List, [], ◌∷◌, ◌++◌, get_or, ap, sym, refl, subst, arith, Bor}
use Rattle.std.specs.Prelude.{Bool, true, false, not, is_some, ◌≢◌, ◌==◌, MatchOption, Option, None, Some, codes, if◌then◌else◌}
use Rattle.std.specs.List.{Contains}
use Rattle.std.proofs.lemmas.List.{append_cancel_left, append_cancel_right}
use Rattle.std.proofs.lemmas.Bool.{true≢false}
use Rattle.tcg_event.specs.Text.{prompts}
use Rattle.uefi_tcg.specs.v2.Event.{Event}
use Rattle.uefi_audits.specs.Check.{IsCommand, MayNameFile}

-- What follows a prompt is a command.
pub after_prompt : (bytes text prompt command : List ℕ) → Contains prompts prompt → bytes ≡ text ++ 0 ∷ []
    → text ≡ prompt ++ command → IsCommand bytes command
after_prompt bytes text prompt command here closed is = (prompt, here, closed ∙ ap (λ it. it ++ 0 ∷ []) is)

-- A text that begins with none of the prompts.
without_prompt : (text prompt command : List ℕ) → ((rest : List ℕ) → text ≢ codes "grub_cmd: " ++ rest)
    → ((rest : List ℕ) → text ≢ codes "kernel_cmdline: " ++ rest)
    → ((rest : List ℕ) → text ≢ codes "module_cmdline: " ++ rest)
    → Contains prompts prompt → text ≡ prompt ++ command → ⊥
without_prompt text prompt command first second third (zero, within, here) is =
    first command (is ∙ ap (λ it. it ++ command) (sym here))
without_prompt text prompt command first second third (suc zero, within, here) is =
    second command (is ∙ ap (λ it. it ++ command) (sym here))
without_prompt text prompt command first second third (suc (suc zero), within, here) is =
    third command (is ∙ ap (λ it. it ++ command) (sym here))
without_prompt text prompt command first second third (suc (suc (suc k)), within, here) is = absurd (omega (arith, within))

pub last_prompt : (bytes text : List ℕ) (found : Option (Bor (List ℕ))) → bytes ≡ text ++ 0 ∷ []
    → ((rest : List ℕ) → text ≢ codes "grub_cmd: " ++ rest)
    → ((rest : List ℕ) → text ≢ codes "kernel_cmdline: " ++ rest)
    → MatchOption found ((rest : List ℕ) → text ≢ codes "module_cmdline: " ++ rest)
    (λ command. text ≡ codes "module_cmdline: " ++ command.now)
    → MatchOption found ((command : List ℕ) → IsCommand bytes command → ⊥) (λ command. IsCommand bytes command.now)
last_prompt bytes text None closed first second third = λ command is.
    without_prompt text is.0 command first second third is.1
    (append_cancel_right text (is.0 ++ command) (0 ∷ []) (sym closed ∙ is.2))
last_prompt bytes text (Some command) closed first second third =
    after_prompt bytes text (codes "module_cmdline: ") command.now (2, omega arith, refl) closed third

-- Data that end in no NUL have no command.
pub unclosed : (bytes : List ℕ) → ((text : List ℕ) → bytes ≡ text ++ 0 ∷ [] → ⊥) → (command : List ℕ) → IsCommand bytes command → ⊥
unclosed bytes none command is = none (is.0 ++ command) is.2

-- The prompt that a text begins with, by its first byte.
prompt_for : ℕ → List ℕ
prompt_for first =
    if first == 103 then codes "grub_cmd: " else if first == 107 then codes "kernel_cmdline: " else codes "module_cmdline: "

begins : (prompt command : List ℕ) → Contains prompts prompt → prompt ≡ prompt_for (get_or (prompt ++ command) 0 0)
unfolding prompt_for
begins prompt command (zero, within, here) = subst (λ it. it ≡ prompt_for (get_or (it ++ command) 0 0)) here refl
begins prompt command (suc zero, within, here) = subst (λ it. it ≡ prompt_for (get_or (it ++ command) 0 0)) here refl
begins prompt command (suc (suc zero), within, here) = subst (λ it. it ≡ prompt_for (get_or (it ++ command) 0 0)) here refl
begins prompt command (suc (suc (suc k)), within, here) = absurd (omega (arith, within))

-- Data have one command.
pub one_command : (bytes command other : List ℕ) → IsCommand bytes command → IsCommand bytes other → other ≡ command
one_command bytes command other is also =
    let same : also.0 ++ other ≡ is.0 ++ command = append_cancel_right _ _ (0 ∷ []) (sym also.2 ∙ is.2) in
    let prompt : also.0 ≡ is.0 = begins also.0 other also.1 ∙ ap (λ it. prompt_for (get_or it 0 0)) same
    ∙ sym (begins is.0 command is.1) in
    append_cancel_left is.0 other command (ap (λ it. it ++ other) (sym prompt) ∙ same)

-- An event whose data are a text, by whether that is a command.
pub names_file : (event : Event) (number : ℕ) (whole : List ℕ) (found : Option (Bor (List ℕ))) (none : Bool)
    → number ≡ event.event_type → (number == 13) ≡ true → whole ≡ event.event_data
    → MatchOption found ((command : List ℕ) → IsCommand whole command → ⊥) (λ command. IsCommand whole command.now)
    → is_some found ≡ not none → IsTrue none ↔ MayNameFile event
names_file event number whole None true same is_text as_data command is = (
  (λ yes_is. (
    subst (λ (it : ℕ). (it == 13) ≡ true) same is_text,
    λ other here. command other (subst (λ (it : List ℕ). IsCommand it other) (sym as_data) here),
  )),
  λ may. refl,
)
names_file event number whole None false same is_text as_data command is = absurd (true≢false (sym is))
names_file event number whole (Some found) true same is_text as_data command is = absurd (true≢false is)
names_file event number whole (Some found) false same is_text as_data command is = (
  (λ wrong. absurd (true≢false (sym wrong))),
  λ may. absurd (may.1 found.now (subst (λ (it : List ℕ). IsCommand it found.now) as_data command)),
)
