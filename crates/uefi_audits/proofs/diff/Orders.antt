-- Keys that the order doesn't tell apart are the same.
use Rattle.std.proofs.Common.{◌≡◌, ◌∙◌, ℕ, List, [], ◌∷◌, ap, ap₂, refl, sym}
use Rattle.std.specs.Prelude.{true}
use Rattle.std.specs.declared.cmp.Ordering.{Ordering}
use Rattle.std.specs.declared.cmp.Ordering.TheVariants.{Less, Equal, Greater}
use Rattle.std.specs.Ordering.{is_eq, nat_cmp, ordering_then}
use Rattle.std.specs.Cmp.{tied_itself}
use Rattle.std.specs.Cmp.Lexicographic.{slice_cmp}
use Rattle.std.proofs.lemmas.Cmp.{ranked}
use Rattle.uefi_audits.specs.diff.Counterparts.{Key, is_key, key_cmp}
use Rattle.uefi_audits.specs.private.diff.Keys.{Ranked, key_cmp_total, ranked_cmp, ranked_cmp_total}
use Rattle.uefi_audits.specs.private.diff.Ranks.{is_ranked}

both_equal : (one other : Ordering) → ordering_then one other ≡ Equal → (one ≡ Equal) × (other ≡ Equal)
both_equal Less other is = cc
both_equal Equal other is = (refl, is)
both_equal Greater other is = cc

same_numbers : (one other : ℕ) → nat_cmp one other ≡ Equal → one ≡ other
same_numbers one other is = let so = ranked one other Equal (sym is) in so

same_lists : (ones others : List ℕ) → slice_cmp nat_cmp ones others ≡ Equal → ones ≡ others
same_lists [] [] is = refl
same_lists [] (other ∷ others) is = cc
same_lists (one ∷ ones) [] is = cc
same_lists (one ∷ ones) (other ∷ others) is =
    let so = both_equal (nat_cmp one other) (slice_cmp nat_cmp ones others) is in
    ap₂ (λ x xs. x ∷ xs) (same_numbers one other so.0) (same_lists ones others so.1)

told : (order : Ordering) → is_eq order ≡ true → order ≡ Equal
told Less so = cc
told Equal so = refl
told Greater so = cc

made : ℕ → ℕ → List ℕ → List ℕ → Key
made pcr kind namespace name =
    record { pcr_index = pcr; event_type = kind; namespace = namespace; name = name }

equal_keys : (one other : Key) → key_cmp one other ≡ Equal → one ≡ other
unfolding key_cmp made
equal_keys one other is =
    let both = both_equal (ordering_then (nat_cmp one.pcr_index other.pcr_index) (nat_cmp one.event_type other.event_type))
    (ordering_then (slice_cmp nat_cmp one.namespace other.namespace) (slice_cmp nat_cmp one.name other.name)) is in
    let kinds = both_equal (nat_cmp one.pcr_index other.pcr_index) (nat_cmp one.event_type other.event_type) both.0 in
    let names = both_equal (slice_cmp nat_cmp one.namespace other.namespace) (slice_cmp nat_cmp one.name other.name) both.1 in
    ap₂ (λ p k. made p k one.namespace one.name) (same_numbers one.pcr_index other.pcr_index kinds.0)
    (same_numbers one.event_type other.event_type kinds.1)
    ∙ ap₂ (λ s n. made other.pcr_index other.event_type s n) (same_lists one.namespace other.namespace names.0)
    (same_lists one.name other.name names.1)

-- Two keys are one exactly if they are the same.
pub same_key : (key other : Key) → is_key key other ≡ true → key ≡ other
same_key key other is = sym (equal_keys other key (told (key_cmp other key) is))

pub key_itself : (key : Key) → is_key key key ≡ true
key_itself key = ap is_eq (tied_itself key_cmp_total key)

-- The same of keys with their ranks.
with_rank : Key → ℕ → Ranked
with_rank key rank = record { key = key; rank = rank }

equal_ranked : (one other : Ranked) → ranked_cmp one other ≡ Equal → one ≡ other
unfolding ranked_cmp with_rank
equal_ranked one other is =
    let both = both_equal (key_cmp one.key other.key) (nat_cmp one.rank other.rank) is in
    ap₂ with_rank (equal_keys one.key other.key both.0) (same_numbers one.rank other.rank both.1)

pub same_ranked : (key other : Ranked) → is_ranked key other ≡ true → key ≡ other
same_ranked key other is = sym (equal_ranked other key (told (ranked_cmp other key) is))

pub ranked_itself : (key : Ranked) → is_ranked key key ≡ true
ranked_itself key = ap is_eq (tied_itself ranked_cmp_total key)
