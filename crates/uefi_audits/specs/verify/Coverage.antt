-- Of which PCRs a verdict speaks, and of which it doesn't.
use Rattle.std.specs.Prelude.{ℕ, ◌==◌, ◌&&◌, not, Bool, List, length}
use Rattle.uefi_tcg.specs.Entries.{Entry}
use Rattle.uefi_audits.specs.declared.verify.coverage.Coverage.{Coverage}
use Rattle.uefi_audits.specs.declared.verify.named.NamedPcr.{NamedPcr}
use Rattle.uefi_audits.specs.verify.Uncompared.{uncompared_pcrs}

-- The PCRs that are covered; those that are asked for and aren't; and those that events extend and of which no bank is covered.
pub record Covering : Type 0 where
  pub covered : List NamedPcr
  pub missing : List NamedPcr
  pub extended : List ℕ

abbrev pub covering : List Entry → List NamedPcr → List NamedPcr → Covering
covering entries covered missing = record { covered = covered; missing = missing; extended = uncompared_pcrs entries covered }

-- A PCR is covered, and none that is asked for is missing.
abbrev pub is_whole : Covering → Bool
is_whole covering = not (length covering.covered == 0) && (length covering.missing == 0)

-- What a value of the code stands for.
abbrev pub covering_of : {A : Type 0} → Coverage A → Covering
covering_of coverage = record {
  covered = coverage.covered.items;
  missing = coverage.missing.items;
  extended = coverage.extended.items;
}
