use Rattle.std.proofs.Common.{refl}
use Rattle.sm3.specs.Sm3.{rounds}
use Rattle.sm3.proofs.Compressing.{rounds_more}
use Rattle.sm3.proofs.compression.compress.Goals as goal

pub rounds-init : goal.rounds-init
unfolding rounds
rounds-init c = refl

pub rounds-preserved : goal.rounds-preserved
rounds-preserved c =
    rounds_more c.args.value c.expand-words.result _ _ c.rounds.j c.rounds.invariant c.round-registers.ensures
