use Rattle.std.proofs.lemmas.Iterator.{items_from_collect}
use Rattle.std.proofs.lemmas.Iterator.Consumers.{YieldsList-from_first}
use Rattle.uefi_map.specs.memory.Views.{entries_left}
use Rattle.uefi_examples.proofs.map.all_entries.Goals as goal

pub returns : goal.returns
returns c = items_from_collect _ c.collect.ensures.ran
    (YieldsList-from_first (λ d. d) entries_left _ c.entries.ensures.entries)
