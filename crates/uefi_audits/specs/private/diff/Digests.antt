-- The digests of an event, as they are kept while it is compared.
use Rattle.std.specs.Prelude.{ℕ, List, map}
use Rattle.std.specs.Borrow.{Bor}
use Rattle.uefi_tcg.specs.v2.Event.{Digest}
use Rattle.uefi_tcg.specs.v2.Views.{digest_of}
use Rattle.uefi_tcg.specs.declared.algorithm_id.AlgorithmId.{AlgorithmId}

-- Digests with their algorithms.
abbrev pub digests_of : List (AlgorithmId × Bor (List ℕ)) → List Digest
digests_of digests = map digest_of digests
