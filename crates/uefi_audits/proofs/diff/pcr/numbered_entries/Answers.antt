use Rattle.std.proofs.Common.{map, subst, List, arith}
use Rattle.uefi_tcg.specs.Entries.{Entry}
use Rattle.uefi_tcg.specs.LogViews.{entry_of}
use Rattle.uefi_tcg.specs.declared.uintn_size.UintnSize.{UintnSize}
use Rattle.pcr_replay.specs.ReadLogs.{uintn_size_in}
use Rattle.uefi_audits.specs.content.Views.{content_of}
use Rattle.uefi_audits.specs.diff.Numbered.{AreNumbered}
use Rattle.uefi_audits.specs.diff.Views.{numbered_of}
use Rattle.uefi_audits.proofs.diff.Numbering.{all_numbered, next_left, none_left, one_more, one_pushed}
use Rattle.uefi_audits.proofs.diff.pcr.numbered_entries.Goals as goal

pub loop-index-preserved : goal.loop-index-preserved
loop-index-preserved c =
    let entries = c.entries-entries.result.now in
    one_more c.uintn_size-uintn_size.result (map numbered_of c.loop-index.found.items) _ c.loop-index.index
    (entry_of c.index-entries-index.result) (content_of c.read_content-content.result) _ _ _
    (next_left entries c.loop-index.index c.index-entries-index.result c.loop-index-test.true c.index-entries-index.is)
    (one_pushed c.loop-index.found.items c.push.new.self.items _ c.in_ok-push.ensures.items)
    c.read_content-content.ensures c.loop-index.invariant

pub returns : goal.returns
returns c =
    let entries = c.entries-entries.result.now in
    let found = map numbered_of c.loop-index.found.items in
    subst (λ (all : List Entry). AreNumbered (uintn_size_in c.args.read.now) 0 all found) c.entries-entries.ensures
    (subst (λ (size : UintnSize). AreNumbered size 0 (map entry_of entries) found) c.uintn_size-uintn_size.ensures
    (all_numbered c.uintn_size-uintn_size.result found c.loop-index.index _ (map entry_of entries)
    (none_left entries c.loop-index.index (omega (arith, c.loop-index-test.false))) c.loop-index.invariant))
