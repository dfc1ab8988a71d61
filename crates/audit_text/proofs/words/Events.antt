-- What is shown of events, one after another.
use Rattle.std.proofs.Common.{◌≡◌, ◌∙◌, ℕ, suc, ◌+◌, ◌<◌, ◌≤◌, List, [], ◌∷◌, ◌++◌, length, map, drop, drop-cons, get_or}
use Rattle.std.proofs.Common.{ap, sym, refl, subst, append_assoc, append-nil, arith}
use Rattle.std.proofs.Math.ListN.{drop_of_length-le}
use Rattle.std.proofs.lemmas.List.{get_or-map, length-map}
use Rattle.uefi_tcg.specs.Entries.{Entry}
use Rattle.uefi_tcg.specs.LogViews.{entry_of}
use Rattle.uefi_tcg.specs.declared.log_entries.LogEntry.{LogEntry}
use Rattle.audit_text.specs.words.Events.{AreShown}

-- Whatever is shown of the events to come, the text with it is the old one with what is shown of all events.
abbrev pub ShownSoFar : (ℕ → Entry → List ℕ → Type 0) → List ℕ → List ℕ → ℕ → List Entry → Type 0
ShownSoFar IsOne old now index all =
    (rest : List ℕ) → AreShown IsOne index (drop index all) rest
    → (text : List ℕ) × AreShown IsOne 0 all text × (now ++ rest ≡ old ++ text)

pub none_yet : (IsOne : ℕ → Entry → List ℕ → Type 0) (old : List ℕ) (all : List Entry) → ShownSoFar IsOne old old 0 all
none_yet IsOne old all = λ rest are. (rest, are, refl)

-- The events to come begin with the one at the index.
next_one : (found : List LogEntry) (index : ℕ) (item : LogEntry) → index < length found → item ≡ get_or found index item
    → drop index (map entry_of found) ≡ entry_of item ∷ drop (index + 1) (map entry_of found)
next_one found index item within is =
    let size = length-map found entry_of in
    let after : suc index ≡ index + 1 = omega arith in
    let here : get_or (map entry_of found) index (entry_of item) ≡ entry_of item =
    get_or-map entry_of found index item (entry_of item) within ∙ ap entry_of (sym is) in
    drop-cons (map entry_of found) index (entry_of item) (omega (arith, within, size))
    ∙ ap (λ it. it ∷ drop (suc index) (map entry_of found)) here
    ∙ ap (λ n. entry_of item ∷ drop n (map entry_of found)) after

-- After one more.
pub one_more : (IsOne : ℕ → Entry → List ℕ → Type 0) (found : List LogEntry) (old now next : List ℕ) (index : ℕ) (item : LogEntry)
    → index < length found → item ≡ get_or found index item
    → ((one : List ℕ) × IsOne index (entry_of item) one × (next ≡ now ++ one))
    → ShownSoFar IsOne old now index (map entry_of found) → ShownSoFar IsOne old next (index + 1) (map entry_of found)
one_more IsOne found old now next index item within is more before = λ others are.
    let after = before (more.0 ++ others) (subst (λ es. AreShown IsOne index es (more.0 ++ others))
    (sym (next_one found index item within is)) (more.0, others, more.1, are, refl)) in
    (after.0, after.1, ap (λ t. t ++ others) more.2 ∙ append_assoc now more.0 others ∙ after.2)

-- After the last one.
pub all_shown : (IsOne : ℕ → Entry → List ℕ → Type 0) (found : List LogEntry) (old now : List ℕ) (index : ℕ) → length found ≤ index
    → ShownSoFar IsOne old now index (map entry_of found)
    → (text : List ℕ) × AreShown IsOne 0 (map entry_of found) text × (now ≡ old ++ text)
all_shown IsOne found old now index past before =
    let size = length-map found entry_of in
    let none : drop index (map entry_of found) ≡ [] =
    drop_of_length-le (map entry_of found) {i = index} (omega (arith, past, size)) in
    let after = before [] (subst (λ es. AreShown IsOne index es []) (sym none) refl) in
    (after.0, after.1, sym (append-nil now) ∙ after.2)
