use Rattle.std.proofs.Common.{◌∙◌, ap, rules, sym, tests}
use Rattle.std.proofs.lemmas.Iterator.{YieldsList-from_slice}
use Rattle.std.proofs.lemmas.Iterator.Search.{any_from_yields_List}
use Rattle.std.specs.Option.{option_map}
use Rattle.uefi_tcg.specs.LogViews.{event_of}
use Rattle.uefi_audits.specs.Findings.{is_covered, is_covered_by}
use Rattle.uefi_audits.proofs.check.result.is_covered.Goals as goal

pub returns-in-Some : goal.returns-in-Some
unfolding is_covered
returns-in-Some c =
    any_from_yields_List (is_covered_by (event_of c.args.event.now)) _ _ c.any.result c.any.ensures.ran
    (YieldsList-from_slice c.in-Some.pcrs.now c.iter.ensures.rest) (λ x b q k. search (rules, tests))
    ∙ sym (ap (λ it. is_covered (option_map (λ pcrs. pcrs.now) it) (event_of c.args.event.now)) c.in-Some.is)
