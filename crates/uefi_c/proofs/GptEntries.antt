-- The entries of a partition table.
use Rattle.std.proofs.Common.{◌≡◌, ℕ, zero, suc, ◌+◌, ◌<◌, ◌≤◌, List, [], ◌∷◌, ◌++◌, length, take, get_or, Option, Some, None}
use Rattle.std.proofs.Common.{◌⊎◌, inl, inr, refl, sym, ap, subst, ◌∙◌}
use Rattle.std.specs.Prelude.{IfSome, IfNone, slice_get, slice_set, unwrap_or}
use Rattle.std.specs.List.{AllByRecursion}
use Rattle.std.specs.Option.{option_map}
use Rattle.std.proofs.lemmas.List.{take_all, take_more, take_more_set}
use Rattle.std.proofs.lemmas.Option.{slice_get_cases, unwrap_or-slice_get}
use Rattle.uefi_base.specs.Views.{slice_units}
use Rattle.tcg_event.specs.Gpt.{Entry, GptData, HasEntrySize, IsGptData, ReadsGptData, gpt_bytes}
use Rattle.tcg_event.specs.GptViews.{entry_of}
use Rattle.tcg_event.specs.Reading.{Reads}
use Rattle.tcg_event.specs.declared.gpt.gpt_entry.GptEntry.{GptEntry}
use Rattle.uefi_tcg.specs.declared.uintn_size.UintnSize.{UintnSize}
use Rattle.tcg_event.proofs.GptBytes.{one_gpt_data}
use Rattle.uefi_c.specs.Gpt.{HasEntry, HasHeader}

pub has_header : (size : UintnSize) (bytes : List ℕ) (gpt : GptData) → ReadsGptData size bytes (Some gpt)
    → HasHeader size bytes gpt.header
unfolding Reads
has_header size bytes gpt reads = (gpt, reads.0, reads.1, refl)

pub no_table : (size : UintnSize) (bytes : List ℕ) (index : ℕ) → ReadsGptData size bytes None → (gpt : GptData)
    → IsGptData size gpt → bytes ≡ gpt_bytes size gpt → length gpt.entries ≤ index
unfolding Reads
no_table size bytes index none gpt is same = absurd (none gpt is same)

each : {A : Type 0} (P : A → Type 0) (xs : List A) (i : ℕ) (x : A) → AllByRecursion P xs → slice_get xs i ≡ Some x → P x
each P [] i x all is = absurd cc
each P (y ∷ xs) zero x all is = subst P (some_same is) all.0
  where
    some_same : {A : Type 0} {a b : A} → Some a ≡ Some b → a ≡ b
    some_same e = cc
each P (y ∷ xs) (suc i) x all is = each P xs i x all.1 is

module _ (size : UintnSize) (bytes : List ℕ) (gpt : GptData) (index : ℕ) (reads : ReadsGptData size bytes (Some gpt)) where
  pub found : (entry : Option GptEntry) → option_map entry_of entry ≡ slice_get gpt.entries index
      → IfSome entry (λ e. HasEntry size bytes index (entry_of e))
  unfolding Reads
  found None is = tt
  found (Some e) is = (gpt, reads.0, reads.1, sym is)

  pub named : (entry : Option GptEntry) → option_map entry_of entry ≡ slice_get gpt.entries index
      → IfSome entry (λ e. length (slice_units e.name) ≡ 36)
  unfolding Reads
  named None is = tt
  named (Some e) is =
      (each (HasEntrySize gpt.header.entry_size) gpt.entries index (entry_of e) reads.0.entries (sym is)).name

  pub none : (entry : Option GptEntry) → option_map entry_of entry ≡ slice_get gpt.entries index
      → IfNone entry ((other : GptData) → IsGptData size other → bytes ≡ gpt_bytes size other
      → length other.entries ≤ index)
  unfolding Reads
  none (Some e) is = tt
  none None is = λ other are same.
      let one : gpt ≡ other = one_gpt_data size gpt other reads.0 are (sym reads.1 ∙ same) in
      subst (λ (g : GptData). length g.entries ≤ index) one (past (slice_get_cases gpt.entries index).1 is)
    where
      past : ((x : Entry) × (index < length gpt.entries) × (slice_get gpt.entries index ≡ Some x) × (get_or gpt.entries index x ≡ x))
          ⊎ ((length gpt.entries ≤ index) × (slice_get gpt.entries index ≡ None)) → None ≡ slice_get gpt.entries index
          → length gpt.entries ≤ index
      past (inl there) no_entry = let some : None ≡ Some there.0 = no_entry ∙ there.2 in absurd cc
      past (inr beyond) no_entry = beyond.0

-- The units of a name, one after another.
pub one_unit : (now units : List ℕ) (i : ℕ) (unit : ℕ) → i < length now → i < length units
    → unit ≡ unwrap_or (slice_get units i) 0 → take i now ≡ take i units
    → take (i + 1) (slice_set now i unit) ≡ take (i + 1) units
one_unit now units i unit room there is so_far =
    take_more_set now i unit room ∙ ap (λ front. front ++ unit ∷ []) so_far
    ∙ ap (λ last. take i units ++ last ∷ []) (is ∙ unwrap_or-slice_get units i 0) ∙ sym (take_more units i 0 there)

pub all_units : (now units : List ℕ) (i : ℕ) → length now ≤ i → length units ≤ i → take i now ≡ take i units → now ≡ units
all_units now units i none left same = sym (take_all i now none) ∙ same ∙ take_all i units left
