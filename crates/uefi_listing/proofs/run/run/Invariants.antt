use Rattle.std.proofs.Common.{◌-◌, ◌≤◌, take, vec_len}
use Rattle.std.specs.Io.KnownBytes.{Appends}
use Rattle.uefi_listing.proofs.run.run.Given as goal

abbrev pub invariant-loop-sent : goal.invariant-loop-sent
invariant-loop-sent g l = record {
  within : l.sent ≤ vec_len l.text;
  taken : Appends (g.W.Write.contents l.initial.out) (g.W.Write.contents l.out) (take l.sent l.text.items);
}

abbrev pub decreases-loop-sent : goal.decreases-loop-sent
decreases-loop-sent g l = vec_len l.text - l.sent
