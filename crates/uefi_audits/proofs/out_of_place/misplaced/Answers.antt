use Rattle.std.proofs.Common.{◌≡◌, ◌∙◌, ap, arith, map, rules, tests}
use Rattle.std.specs.List.{flat_map, range_with_len}
use Rattle.std.specs.Prelude.{not}
use Rattle.std.proofs.lemmas.Iterator.{YieldsList-from_slice}
use Rattle.std.proofs.lemmas.Iterator.Search.{any_from_yields_List}
use Rattle.pcr_replay.proofs.Viewed.{any_view}
use Rattle.uefi_audits.specs.OutOfPlace.{is_of_bios, is_of_uefi, judged_pcrs, misplaced_in}
use Rattle.uefi_audits.specs.declared.check.result.CheckedEntry.{CheckedEntry}
use Rattle.uefi_audits.specs.private.Counting.{finding_of}
use Rattle.uefi_audits.proofs.FirstOnes.{one_number_joined}
use Rattle.uefi_audits.proofs.out_of_place.misplaced.Goals as goal

pub loop-pcr-preserved : goal.loop-pcr-preserved
loop-pcr-preserved g c =
    one_number_joined (misplaced_in (not c.any-is_of_bios.result) (map finding_of c.args.all.now)) c.loop-pcr.pcr _ _
    c.loop-pcr.invariant c.in_ok-push_misplaced.ensures

pub returns : goal.returns
returns g c =
    let findings = map finding_of c.args.all.now in
    let bios : not c.any-is_of_bios.result ≡ is_of_bios findings =
    ap not (any_from_yields_List (λ (it : CheckedEntry). is_of_uefi (finding_of it)) _ _ c.any-is_of_bios.result c.any-is_of_bios.ensures.ran
    (YieldsList-from_slice c.args.all.now c.iter.ensures.rest) (λ x b q k. search (rules, tests))
    ∙ any_view is_of_uefi finding_of c.args.all.now) in
    let all : c.loop-pcr.pcr ≡ judged_pcrs = omega (arith, c.loop-pcr-test.false) in
    c.loop-pcr.invariant ∙ (λ i. flat_map (misplaced_in (bios i) findings) (range_with_len 0 (all i)))
