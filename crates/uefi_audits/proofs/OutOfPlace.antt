-- What is found of the places of the events so far.
use Rattle.std.proofs.Common.{◌≡◌, ◌∙◌, ℕ, ◌+◌, ◌<◌, List, [], ◌∷◌, ◌++◌, length, map, drop, take, get_or, ap, refl, sym}
use Rattle.std.specs.Prelude.{Bool, false, ◌||◌}
use Rattle.std.proofs.Math.Bool.{or-false}
use Rattle.std.proofs.lemmas.List.{get_or-map, length-map, take_more}
use Rattle.std.proofs.lemmas.List.Folds.{list_any-append}
use Rattle.std.specs.List.{list_any}
use Rattle.uefi_audits.specs.Numbered.{numbered}
use Rattle.uefi_audits.specs.OutOfPlace.{Misplaced, if_broken, if_misplaced, is_separated, rule_at, separates}
use Rattle.uefi_audits.specs.declared.check.result.CheckedEntry.{CheckedEntry}
use Rattle.uefi_audits.specs.private.Counting.{finding_of}
use Rattle.uefi_audits.proofs.Numbered.{text_appended}

-- Whether one of the events so far is the separator, with one more.
pub separated_more : (pcr : ℕ) (all : List CheckedEntry) (index : ℕ) (item : CheckedEntry) (before : Bool) → index < length all
    → item ≡ get_or all index item → before ≡ is_separated pcr (map finding_of all) index
    → (before || separates pcr (finding_of item)) ≡ is_separated pcr (map finding_of all) (index + 1)
separated_more pcr all index item before within is so =
    let findings = map finding_of all in
    let size : index < length findings = rw (length-map all finding_of) within in
    let same : get_or findings index (finding_of item) ≡ finding_of item =
    get_or-map finding_of all index item (finding_of item) within ∙ ap finding_of (sym is) in
    sym (ap (list_any (separates pcr)) (take_more findings index (finding_of item) size)
    ∙ list_any-append (separates pcr) (take index findings) (get_or findings index (finding_of item) ∷ [])
    ∙ (λ i. sym so i || (separates pcr (same i) || false)) ∙ ap (λ it. before || it) (or-false (separates pcr (finding_of item))))

-- One more event is judged.
pub one_judged : (pcr : ℕ) (bios : Bool) (all : List CheckedEntry) (index : ℕ) (item : CheckedEntry) (separated : Bool)
    (old now next : List Misplaced) → index < length all → item ≡ get_or all index item
    → separated ≡ is_separated pcr (map finding_of all) index
    → now ++ numbered (if_misplaced pcr bios (map finding_of all)) index (drop index (map finding_of all)) ≡ old
    → next ≡ now ++ if_broken index (finding_of item).entry (rule_at pcr bios separated (finding_of item))
    → next ++ numbered (if_misplaced pcr bios (map finding_of all)) (index + 1) (drop (index + 1) (map finding_of all)) ≡ old
one_judged pcr bios all index item separated old now next within is so before more =
    let findings = map finding_of all in
    text_appended (if_misplaced pcr bios findings) finding_of all findings index item old now next refl within is before
    (more ∙ ap (λ it. now ++ if_broken index (finding_of item).entry (rule_at pcr bios it (finding_of item))) so)
