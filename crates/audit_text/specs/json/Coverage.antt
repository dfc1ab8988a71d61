-- Of which PCRs a verdict speaks, as JSON.
use Rattle.std.specs.Prelude.{ℕ, ◌==◌, Bool, List, [], ◌∷◌, ◌++◌, codes, filter, flat_map, length, map, if◌then◌else◌}
use Rattle.audit_text.specs.json.Json.{Json, null, number, string, array, object}
use Rattle.pcr_replay.specs.Banks.{all_banks}
use Rattle.pcr_replay.specs.declared.bank.Bank.{Bank}
use Rattle.uefi_audits.specs.Naming.{bank_name}
use Rattle.uefi_audits.specs.declared.verify.named.NamedPcr.{NamedPcr}
use Rattle.uefi_audits.specs.verify.Banks.{is_same_bank}
use Rattle.uefi_audits.specs.verify.Coverage.{Covering}

-- The number of a PCR.
abbrev pub pcr_number : ℕ → Json
pcr_number pcr = number pcr

-- PCRs of a bank: its name, and their numbers; nothing, if there are none.
unfoldable pub if_any : Json → List ℕ → List Json
if_any bank pcrs =
    if length pcrs == 0 then []
    else object ((codes "bank", bank) ∷ (codes "pcrs", array (map pcr_number pcrs)) ∷ []) ∷ []

-- Those PCRs that are of a bank, and all by banks.
abbrev pub numbers_in : List NamedPcr → Bank → List ℕ
numbers_in pcrs bank = map (λ it. it.pcr) (filter (λ it. is_same_bank it.bank bank) pcrs)

abbrev pub of_bank : List NamedPcr → Bank → List Json
of_bank pcrs bank = if_any (string (bank_name bank)) (numbers_in pcrs bank)

abbrev pub by_banks : List NamedPcr → List Json
by_banks pcrs = flat_map (of_bank pcrs) all_banks

-- The PCRs that are covered; and those that aren't: by banks those that are asked for, and of no bank those that events extend.
unfoldable pub covered_json : List NamedPcr → Json
covered_json covered = array (by_banks covered)

unfoldable pub not_covered_json : Covering → Json
not_covered_json covering = array (by_banks covering.missing ++ if_any null covering.extended)

-- The name of what doesn't agree.
unfoldable pub unless : Bool → List ℕ → List Json
unless agrees name = if agrees then [] else string name ∷ []
