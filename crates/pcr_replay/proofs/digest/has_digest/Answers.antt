use Rattle.std.proofs.Common.{◌∙◌, ap₂, rules, tests}
use Rattle.std.specs.Prelude.{ℕ, ◌==◌, List}
use Rattle.std.specs.List.{list_any}
use Rattle.std.proofs.lemmas.Iterator.Consumers.{YieldsList-from_first}
use Rattle.std.proofs.lemmas.Iterator.Search.{any_from_yields_List}
use Rattle.uefi_tcg.specs.v2.Event.{Digest}
use Rattle.uefi_tcg.specs.v2.Views.{digest_of}
use Rattle.pcr_replay.proofs.digest.has_digest.Goals as goal

pub returns-in-V2 : goal.returns-in-V2
returns-in-V2 c =
    rw c.in-V2.is
    (any_from_yields_List (λ (digest : Digest). digest.algorithm == c.algorithm-algorithm.result.0) _ _
    c.any.result c.any.ensures.ran
    (YieldsList-from_first digest_of (λ digests. digests) _ c.into_iter.ensures.into_iter_gives)
    (λ x b q k. search (rules, tests))
    ∙ ap₂ (λ (algorithm : ℕ) (digests : List Digest). list_any (λ (digest : Digest). digest.algorithm == algorithm) digests)
    c.algorithm-algorithm.ensures c.digests.ensures)
