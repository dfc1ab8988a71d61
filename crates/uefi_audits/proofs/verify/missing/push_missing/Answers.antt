use Rattle.std.proofs.Common.{◌≡◌, ◌++◌, ℕ, ◌∙◌, ap, arith, map, sym}
use Rattle.std.specs.List.{filter, range_with_len}
use Rattle.pcr_replay.specs.Replay.{pcr_count}
use Rattle.uefi_audits.specs.declared.verify.named.NamedPcr.{NamedPcr}
use Rattle.uefi_audits.specs.verify.Missing.{is_missing}
use Rattle.uefi_audits.proofs.FirstOnes.{number_left_out, number_passes}
use Rattle.uefi_audits.proofs.verify.missing.push_missing.Goals as goal
use Rattle.uefi_audits.proofs.verify.missing.push_missing.Goals.{then-is_missing+in_ok-push, else-is_missing}

pub loop-pcr-preserved : goal.loop-pcr-preserved
loop-pcr-preserved g c =
    let missing : ℕ → NamedPcr = λ pcr. record { bank = c.args.bank; pcr = pcr } in
    let passes = is_missing c.args.selections.now c.args.stated.now c.args.bank in
    elim c.if-is_missing.branch [
      | then-is_missing+in_ok-push w ↦ rw w.missing-is (number_passes missing passes c.loop-pcr.pcr
          c.args.missing.now.items c.loop-pcr.missing.items _ c.loop-pcr.invariant
          (sym c.is_missing.ensures ∙ w.if-is_missing.true) w.in_ok-push.ensures.items)
      | else-is_missing w ↦ rw w.missing-is (number_left_out missing passes c.loop-pcr.pcr
          c.args.missing.now.items c.loop-pcr.missing.items c.loop-pcr.invariant
          (sym c.is_missing.ensures ∙ w.if-is_missing.false))
    ]

pub returns : goal.returns
returns g c =
    let all : c.loop-pcr.pcr ≡ pcr_count = omega (arith, c.loop-pcr-test.false) in
    c.loop-pcr.invariant ∙ ap (λ count. c.args.missing.now.items
    ++ map (λ pcr. record { bank = c.args.bank; pcr = pcr })
    (filter (is_missing c.args.selections.now c.args.stated.now c.args.bank) (range_with_len 0 count))) all
