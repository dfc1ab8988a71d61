-- The numbers of boot options, as they are put together.
use Rattle.std.proofs.Common.{◌≡◌, ◌∙◌, ◌&&◌, ℕ, ◌+◌, not, Bool, true, false, cond, List, [], ◌∷◌, ◌++◌, length, filter, map-id, nat_lt, sym, ap, refl, arith, append_assoc, append-nil, Option, None, Some, unwrap_or, option_map}
use Rattle.std.proofs.lemmas.List.FromFn.{filter_of_map_range_with_len_more}
use Rattle.std.specs.List.{range_with_len}
use Rattle.uefi_base.specs.declared.unaligned.UnalignedSlice.{UnalignedSlice}
use Rattle.uefi_base.specs.Views.{slice_units}
use Rattle.boot_listing.specs.Variables.{distinct_after, files_of, has_number, is_other, numbers_of, ordered}
use Rattle.boot_listing.specs.declared.variables.BootVariable.TheVariants.{BootOption, BootOrder}
use Rattle.boot_listing.specs.declared.variables.VariableFile.{VariableFile}

-- A number that the order hasn't is another one if there is a file.
pub other_by_file : (files : List VariableFile) (order : List ℕ) (number : ℕ) (is_there : Bool) → has_number order number ≡ false
    → is_there ≡ nat_lt 0 (length (files_of (BootOption number) files)) → is_there ≡ is_other files order number
other_by_file files order number is_there none is =
    is ∙ ap (λ (b : Bool). not b && nat_lt 0 (length (files_of (BootOption number) files))) (sym none)

-- One number more is looked at.
filter_more : (p : ℕ → Bool) (n : ℕ)
    → filter p (range_with_len 0 (n + 1)) ≡ filter p (range_with_len 0 n) ++ cond (p n) (n ∷ []) []
filter_more p n =
    ap (filter p) (sym (map-id (range_with_len 0 (n + 1)))) ∙ filter_of_map_range_with_len_more p (λ k. k) 0 n n (omega arith)
    ∙ ap (λ (t : List ℕ). filter p t ++ cond (p n) (n ∷ []) []) (map-id (range_with_len 0 n))

pub other_pushed : (p : ℕ → Bool) (start now next : List ℕ) (n : ℕ) → p n ≡ true
    → now ≡ start ++ filter p (range_with_len 0 n) → next ≡ now ++ n ∷ [] → next ≡ start ++ filter p (range_with_len 0 (n + 1))
other_pushed p start now next n so before is =
    is ∙ ap (λ (t : List ℕ). t ++ n ∷ []) before ∙ append_assoc start (filter p (range_with_len 0 n)) (n ∷ [])
    ∙ ap (λ (t : List ℕ). start ++ t)
    (ap (λ (b : Bool). filter p (range_with_len 0 n) ++ cond b (n ∷ []) []) (sym so) ∙ sym (filter_more p n))

pub other_passed : (p : ℕ → Bool) (start now : List ℕ) (n : ℕ) → p n ≡ false
    → now ≡ start ++ filter p (range_with_len 0 n) → now ≡ start ++ filter p (range_with_len 0 (n + 1))
other_passed p start now n no_other before =
    before ∙ ap (λ (t : List ℕ). start ++ t)
    (sym (append-nil (filter p (range_with_len 0 n)))
    ∙ ap (λ (b : Bool). filter p (range_with_len 0 n) ++ cond b (n ∷ []) []) (sym no_other) ∙ sym (filter_more p n))

-- The units of an order that may not be there.
pub units_or_none : (found : Option UnalignedSlice) (empty : UnalignedSlice) → slice_units empty ≡ []
    → slice_units (unwrap_or found empty) ≡ unwrap_or (option_map slice_units found) []
units_or_none None empty none = none
units_or_none (Some order) empty none = refl

-- All numbers, once all of 65,536 were looked at.
pub all_numbers : (files : List VariableFile) (order first all : List ℕ) (n : ℕ) → order ≡ ordered (files_of BootOrder files)
    → first ≡ distinct_after [] order → n ≡ 65536 → all ≡ first ++ filter (is_other files order) (range_with_len 0 n)
    → all ≡ numbers_of files
all_numbers files order first all n is distinct end whole =
    whole
    ∙ ap (λ (k : ℕ). first ++ filter (is_other files order) (range_with_len 0 k)) end
    ∙ ap (λ (t : List ℕ). t ++ filter (is_other files order) (range_with_len 0 65536)) distinct
    ∙ ap (λ (o : List ℕ). distinct_after [] o ++ filter (is_other files o) (range_with_len 0 65536)) is
