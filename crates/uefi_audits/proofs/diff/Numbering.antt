-- The entries of a log, each with its index and what its data say.
use Rattle.std.proofs.Common.{◌≡◌, ℕ, suc, ◌+◌, ◌<◌, ◌≤◌, List, [], ◌∷◌, ◌++◌, append-nil, append_assoc, ap, arith, drop, drop-cons, get_or, length, map}
use Rattle.std.proofs.Common.{refl, subst, sym, ◌∙◌}
use Rattle.std.proofs.Math.ListN.{drop_of_length-le}
use Rattle.std.proofs.lemmas.List.{map-append}
use Rattle.uefi_tcg.specs.declared.uintn_size.UintnSize.{UintnSize}
use Rattle.uefi_tcg.specs.Entries.{Entry}
use Rattle.uefi_tcg.specs.LogViews.{entry_of}
use Rattle.uefi_tcg.specs.declared.log_entries.LogEntry.{LogEntry}
use Rattle.uefi_audits.specs.content.Content.{Content, Says}
use Rattle.uefi_audits.specs.content.Form.{form}
use Rattle.uefi_audits.specs.declared.diff.pcr.NumberedEntry.{NumberedEntry}
use Rattle.uefi_audits.specs.diff.Numbered.{AreNumbered, Numbered}
use Rattle.uefi_audits.specs.diff.Views.{numbered_of}

-- Whatever those to come are, with those so far they are all.
abbrev pub NumberedSoFar : UintnSize → List Numbered → ℕ → List Entry → List Entry → Type 0
NumberedSoFar size now index left all = (rest : List Numbered) → AreNumbered size index left rest → AreNumbered size 0 all (now ++ rest)

pub none_yet : (size : UintnSize) (now : List Numbered) (all : List Entry) → now ≡ [] → NumberedSoFar size now 0 all all
none_yet size now all none = λ rest are. subst (AreNumbered size 0 all) (ap (λ it. it ++ rest) (sym none)) are

-- One more.
pub one_pushed : (old new : List NumberedEntry) (item : NumberedEntry) → new ≡ old ++ item ∷ []
    → map numbered_of new ≡ map numbered_of old ++ numbered_of item ∷ []
one_pushed old new item pushed = ap (map numbered_of) pushed ∙ map-append numbered_of old (item ∷ [])

pub one_more : (size : UintnSize) (now next : List Numbered) (index : ℕ) (entry : Entry) (content : Content) (left rest all : List Entry)
    → left ≡ entry ∷ rest → next ≡ now ++ record { index = index; entry = entry; content = content } ∷ []
    → Says size (form entry.event.event_type) entry.event.event_data content
    → NumberedSoFar size now index left all → NumberedSoFar size next (index + 1) rest all
one_more size now next index entry content left rest all is more says before = λ others are.
    let found : Numbered = record { index = index; entry = entry; content = content } in
    subst (AreNumbered size 0 all) (sym (ap (λ it. it ++ others) more ∙ append_assoc now (found ∷ []) others))
    (before (found ∷ others) (subst (λ es. AreNumbered size index es (found ∷ others)) (sym is)
    (content, others, says, are, refl)))

-- After the last one.
pub all_numbered : (size : UintnSize) (now : List Numbered) (index : ℕ) (left all : List Entry) → left ≡ []
    → NumberedSoFar size now index left all → AreNumbered size 0 all now
all_numbered size now index left all none before =
    subst (AreNumbered size 0 all) (append-nil now) (before [] (subst (λ es. AreNumbered size index es []) (sym none) refl))

-- What is left of a slice begins with the item at the index; past the last one nothing is left.
pub next_left : (entries : List LogEntry) (index : ℕ) (item : LogEntry) → index < length entries → item ≡ get_or entries index item
    → map entry_of (drop index entries) ≡ entry_of item ∷ map entry_of (drop (index + 1) entries)
next_left entries index item within is =
    let after : suc index ≡ index + 1 = omega arith in
    ap (map entry_of) (drop-cons entries index item within)
    ∙ ap (λ (first : LogEntry). entry_of first ∷ map entry_of (drop (suc index) entries)) (sym is)
    ∙ ap (λ n. entry_of item ∷ map entry_of (drop n entries)) after

pub none_left : (entries : List LogEntry) (index : ℕ) → length entries ≤ index → map entry_of (drop index entries) ≡ []
none_left entries index past = ap (map entry_of) (drop_of_length-le entries {i = index} past)
