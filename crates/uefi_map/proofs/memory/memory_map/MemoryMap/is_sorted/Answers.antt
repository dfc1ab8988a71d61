use Rattle.std.proofs.Common.{rules, ap, ◌∙◌}
use borrow.Author.Tests.{tests}
use Rattle.uefi_map.specs.memory.Views.{entries_left}
use Rattle.uefi_map.proofs.memory.Sorted.{sorted_run}
use Rattle.uefi_map.proofs.memory.memory_map.MemoryMap.is_sorted.Goals as goal

pub returns : goal.returns
returns g c =
    let map = g.Self.MemoryMap in
    let run = c.is_sorted_by_key.ensures.runs in
    sorted_run (map.bytes c.args.self.now) (map.meta c.args.self.now) run.0
    (ap entries_left run.1 ∙ c.entries.ensures.entries)
    c.is_sorted_by_key.result run.2.0 (run.2.1 (λ entry. entry.phys_start) (λ x r q k. search (rules, tests)))
