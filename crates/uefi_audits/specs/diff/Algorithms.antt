-- The algorithms whose digests two logs have.
use Rattle.std.specs.Prelude.{ℕ, ◌==◌, ◌&&◌, Bool, true, List, [], ◌∷◌, map, Option, None, Some}
use Rattle.std.specs.List.{filter}
use Rattle.pcr_replay.specs.Banks.{algorithm_of}
use Rattle.pcr_replay.specs.declared.bank.Bank.{Bank}
use Rattle.uefi_tcg.specs.declared.algorithm_id.TheConstants.AlgorithmId.{SHA1}
use Rattle.uefi_tcg.specs.v2.Header.{Header}
use Rattle.uefi_audits.specs.Check.{is_one_of}

-- The algorithms whose digests the events of a log have, by its header: those of the table's rows, or SHA-1 alone.
abbrev pub algorithms_of : Option Header → List ℕ
algorithms_of None = SHA1.0 ∷ []
algorithms_of (Some header) = map (λ row. row.0) header.table

-- Those of the old log that the new one has as well, and that are asked for: that of a bank, or all.
abbrev pub is_asked : Option Bank → ℕ → Bool
is_asked None number = true
is_asked (Some bank) number = algorithm_of bank == number

abbrev pub is_compared : Option Bank → List ℕ → ℕ → Bool
is_compared bank news number = is_one_of news number && is_asked bank number

abbrev pub compared_algorithms : Option Bank → Option Header → Option Header → List ℕ
compared_algorithms bank old new = filter (is_compared bank (algorithms_of new)) (algorithms_of old)
