-- The banks that a quote is over, replayed one after another.
use Rattle.std.proofs.Common.{◌≡◌, ℕ, ◌+◌, ◌<◌, ◌≤◌, Bool, true, false, cond, List, [], ◌∷◌, ◌++◌, length, map, take, get_or, sym, ap, ◌∙◌}
use Rattle.std.specs.Prelude.{slice_set}
use Rattle.std.specs.List.{filter}
use Rattle.std.proofs.lemmas.List.{append-nil, map-append, take_all, take_more, take_more_set}
use Rattle.std.proofs.lemmas.List.Elements.{filter-append}
use Rattle.pcr_replay.specs.Banks.{all_banks}
use Rattle.pcr_replay.specs.BankReplays.{BankOutcomes}
use Rattle.pcr_replay.specs.declared.bank.Bank.{Bank}
use Rattle.pcr_replay.specs.declared.bank.Bank.TheVariants.{Sha1}
use Rattle.uefi_c.specs.Workspace.{bank_seen}
use Rattle.uefi_c.specs.declared.workspace.UefiBank.{UefiBank}

-- The bank of an index, of which there are five.
abbrev pub bank_at : ℕ → Bank
bank_at index = get_or all_banks index Sha1

module _ (test : Bank → Bool) (replay : Bank → BankOutcomes) where
  -- The first ones in memory are the replays of those that pass among the first banks.
  abbrev pub AreReplayed : List UefiBank → ℕ → ℕ → Type 0
  AreReplayed banks count index = map bank_seen (take count banks) ≡ map replay (filter test (take index all_banks))

  one_bank : (index : ℕ) → index < 5
      → filter test (take (index + 1) all_banks) ≡ filter test (take index all_banks) ++ cond (test (bank_at index)) (bank_at index ∷ []) []
  one_bank index within =
      ap (filter test) (take_more all_banks index Sha1 within)
      ∙ filter-append test (take index all_banks) (bank_at index ∷ [])

  pub one_passes : (banks : List UefiBank) (count index : ℕ) (new : UefiBank) → count < length banks → index < 5
      → test (bank_at index) ≡ true → bank_seen new ≡ replay (bank_at index)
      → AreReplayed banks count index → AreReplayed (slice_set banks count new) (count + 1) (index + 1)
  one_passes banks count index new room within passes same so_far =
      let before : List Bank = filter test (take index all_banks) in
      ap (map bank_seen) (take_more_set banks count new room)
      ∙ map-append bank_seen (take count banks) (new ∷ [])
      ∙ ap (λ front. front ++ bank_seen new ∷ []) so_far
      ∙ ap (λ last. map replay before ++ last ∷ []) same
      ∙ sym (map-append replay before (bank_at index ∷ []))
      ∙ ap (map replay) (sym (one_bank index within ∙ ap (λ t. before ++ cond t (bank_at index ∷ []) []) passes))

  pub one_fails : (banks : List UefiBank) (count index : ℕ) → index < 5
      → test (bank_at index) ≡ false → AreReplayed banks count index → AreReplayed banks count (index + 1)
  one_fails banks count index within fails so_far =
      let before : List Bank = filter test (take index all_banks) in
      so_far
      ∙ ap (map replay) (sym (one_bank index within ∙ ap (λ t. before ++ cond t (bank_at index ∷ []) []) fails ∙ append-nil before))

  pub all_replayed : (banks : List UefiBank) (count index : ℕ) → 5 ≤ index → AreReplayed banks count index
      → map bank_seen (take count banks) ≡ map replay (filter test all_banks)
  all_replayed banks count index past so_far = so_far ∙ ap (λ all. map replay (filter test all)) (take_all index all_banks past)
