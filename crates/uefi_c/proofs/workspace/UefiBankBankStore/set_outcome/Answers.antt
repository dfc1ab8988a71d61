use Rattle.std.proofs.Common.{◌∙◌, ap, map}
use Rattle.std.specs.Prelude.{slice_set}
use Rattle.std.proofs.lemmas.List.{map-set}
use Rattle.uefi_c.specs.Replay.{IsPcr, outcome_seen}
use Rattle.uefi_c.proofs.SetPcrs.{set_here, set_others}
use Rattle.uefi_c.proofs.workspace.UefiBankBankStore.set_outcome.Goals as goal

pub returns-clause-outcome : goal.returns-clause-outcome
returns-clause-outcome c =
    map-set outcome_seen c.args.self.now.pcrs c.args.pcr.0 c.seen.result
    ∙ ap (slice_set (map outcome_seen c.args.self.now.pcrs) c.args.pcr.0) c.seen.ensures.outcome

pub returns-clause-set : goal.returns-clause-set
returns-clause-set c = set_here IsPcr c.seen.result c.seen.ensures.known c.args.self.now.pcrs c.args.pcr.0

pub returns-clause-still_set : goal.returns-clause-still_set
returns-clause-still_set c = λ other.
    set_others IsPcr c.seen.result c.seen.ensures.known c.args.self.now.pcrs c.args.pcr.0 other
