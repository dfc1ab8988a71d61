use Rattle.std.proofs.Common.{◌∙◌, subst, sym}
use Rattle.tcg_event.specs.GptViews.{gpt_of}
use Rattle.uefi_c.specs.Gpt.{HasHeader, header_seen}
use Rattle.uefi_c.proofs.GptEntries.{has_header}
use Rattle.uefi_c.proofs.event_data.gpt.uefi_gpt_header.Goals as goal

pub returns-clause-header : goal.returns-clause-header
returns-clause-header c = λ _.
    subst (λ size. HasHeader size c.args.event_data.now (header_seen c.seen_header.result)) c.from_header.ensures
    (subst (HasHeader c.from_header.result c.args.event_data.now) (sym (c.seen_header.ensures ∙ c.header.ensures))
    (has_header c.from_header.result c.args.event_data.now (gpt_of c.in-Some.gpt) c.in-Some.ensures))
