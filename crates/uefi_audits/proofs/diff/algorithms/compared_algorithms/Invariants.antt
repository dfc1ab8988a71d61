use Rattle.std.proofs.Common.{◌≡◌, take}
use Rattle.std.specs.List.{filter}
use Rattle.uefi_audits.specs.diff.Algorithms.{is_compared}
use Rattle.uefi_audits.specs.diff.Views.{numbers_of}
use Rattle.uefi_audits.proofs.diff.algorithms.compared_algorithms.Given as goal

-- They are those so far that are compared.
abbrev pub invariant-loop-number : goal.invariant-loop-number
invariant-loop-number l = numbers_of l.found.items ≡ filter (is_compared l.bank l.news.items) (take l.number-index l.number-items)
