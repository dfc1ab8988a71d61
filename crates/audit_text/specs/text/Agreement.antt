-- What `uefi_audit verify` prints of PCRs that all agree: each bank with its PCRs, those that follow one another as a range.
use Rattle.std.specs.Prelude.{ℕ, ◌+◌, ◌==◌, ◌&&◌, Bool, false, List, [], ◌∷◌, ◌++◌, codes, slice_get, Option, None, Some, if◌then◌else◌}
use Rattle.std.specs.Fmt.{decimal}
use Rattle.uefi_audits.specs.Naming.{bank_name}
use Rattle.uefi_audits.specs.declared.verify.named.NamedPcr.{NamedPcr}
use Rattle.uefi_audits.specs.verify.Banks.{is_same_bank}
use Rattle.shown.specs.Name.{shown_name}

-- Whether a PCR is the next one of the bank of the one before it.
unfoldable pub is_next : Option NamedPcr → NamedPcr → Bool
is_next None named = false
is_next (Some before) named = is_same_bank before.bank named.bank && (named.pcr == before.pcr + 1)

-- Whether the PCR after one is the next one.
unfoldable pub goes_on : NamedPcr → Option NamedPcr → Bool
goes_on named None = false
goes_on named (Some after) = is_next (Some named) after

-- What is before a PCR that begins a range: the name of its bank, unless the one before is of that bank.
unfoldable pub opening : Option NamedPcr → NamedPcr → List ℕ
opening None named = bank_name named.bank ++ codes ": "
opening (Some before) named =
    if is_same_bank before.bank named.bank then codes ", " else codes "; " ++ (bank_name named.bank ++ codes ": ")

-- What is printed of a PCR, by those before and after it: the first and the last one of a range.
unfoldable pub pcr_text : Option NamedPcr → NamedPcr → Option NamedPcr → List ℕ
pcr_text before named after =
    if is_next before named then (if goes_on named after then [] else codes "-" ++ decimal named.pcr)
    else opening before named ++ decimal named.pcr

-- What is printed of PCRs in order, by the one before them.
unfoldable pub ranges_after : Option NamedPcr → List NamedPcr → List ℕ
ranges_after before [] = []
ranges_after before (named ∷ others) = pcr_text before named (slice_get others 0) ++ ranges_after (Some named) others

-- The line of PCRs that all agree, and the locality of the start.
unfoldable pub agree_line : List ℕ → List NamedPcr → ℕ → List ℕ
agree_line name pcrs locality =
    shown_name name ++ (codes ": agrees: " ++ (ranges_after None pcrs ++ (codes " (PCR 0 starts at locality " ++ (decimal locality ++ codes ")\n"))))
