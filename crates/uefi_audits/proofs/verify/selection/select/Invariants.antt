use Rattle.std.proofs.Common.{◌≡◌, ℕ, get_or, length}
use Rattle.std.specs.Prelude.{◌||◌, ◌&&◌, false, nat_le, nat_lt}
use Rattle.uefi_audits.proofs.verify.selection.select.Given as goal

-- Those of the range before this one are selected.
abbrev pub invariant-loop-pcr : goal.invariant-loop-pcr
invariant-loop-pcr l = record {
  count : length l.pcrs ≡ 24;
  marked : (k : ℕ) → get_or l.pcrs k false ≡ (get_or l.initial.pcrs k false || (nat_le l.range.first k && nat_lt k l.pcr));
}
