-- What is said of the events so far.
use Rattle.std.proofs.Common.{◌≡◌, ◌∙◌, ℕ, ◌+◌, ◌<◌, List, [], ◌∷◌, ◌++◌, length, map, take, get_or, ap, refl, subst, sym}
use Rattle.std.specs.List.{All}
use Rattle.std.proofs.lemmas.List.{map-append}
use Rattle.std.proofs.lemmas.List.Elements.{All-push}
use Rattle.uefi_tcg.specs.LogViews.{entry_of}
use Rattle.uefi_tcg.specs.declared.log_entries.LogEntry.{LogEntry}
use Rattle.std.specs.Prelude.{Option}
use Rattle.uefi_audits.specs.Findings.{AreFindings, Finding, IsFound, is_covered}
use Rattle.uefi_audits.specs.declared.check.result.CheckedEntry.{CheckedEntry}
use Rattle.uefi_audits.specs.declared.verify.named.NamedPcr.{NamedPcr}
use Rattle.uefi_audits.specs.private.Counting.{finding_of}
use Rattle.uefi_audits.proofs.FirstOnes.{one_mapped}

-- What is said of one more event.
pub one_found : (covered : Option (List NamedPcr)) (entries : List LogEntry) (old new : List CheckedEntry)
    (item : CheckedEntry) (index : ℕ) → index < length entries
    → AreFindings covered (map entry_of (take index entries)) (map finding_of old)
    → item.entry ≡ get_or entries index item.entry
    → IsFound (is_covered covered (entry_of item.entry).event) (entry_of item.entry).event item.checked
    → new ≡ old ++ item ∷ [] → AreFindings covered (map entry_of (take (index + 1) entries)) (map finding_of new)
one_found covered entries old new item index within before is checked pushed =
    let grown : map finding_of new ≡ map finding_of old ++ finding_of item ∷ [] =
    ap (map finding_of) pushed ∙ map-append finding_of old (item ∷ []) in record {
      of_each = each_entry new
          ∙ one_mapped (λ (it : CheckedEntry). entry_of it.entry) entry_of entries old new item index item.entry within
          (sym (each_entry old) ∙ before.of_each) (ap entry_of is) pushed;
      each_is = subst (All is_found) (sym grown)
          (All-push is_found (map finding_of old) (finding_of item) before.each_is checked);
    }
  where
    is_found : Finding → Type 0
    is_found it = IsFound (is_covered covered it.entry.event) it.entry.event it.checked

    each_entry : (all : List CheckedEntry) → map (λ (it : Finding). it.entry) (map finding_of all) ≡ map (λ (it : CheckedEntry). entry_of it.entry) all
    each_entry [] = refl
    each_entry (it ∷ others) = ap (λ them. entry_of it.entry ∷ them) (each_entry others)
