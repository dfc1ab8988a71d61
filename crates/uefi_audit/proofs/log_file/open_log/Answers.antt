use Rattle.std.proofs.Common.{◌≡◌, refl, rules, subst, sym, tests}
use Rattle.uefi_tcg.specs.WholeLogs.{HasFewRows, log_given}
use Rattle.pcr_replay.proofs.OnlyReading.{few_rows}
use Rattle.uefi_audit.specs.Opened.{IsOpened}
use Rattle.uefi_audit.proofs.WholeLogs.{few_unless, whole_or_fault}
use Rattle.uefi_audit.proofs.log_file.open_log.Goals as goal

pub returns : goal.returns
unfolding IsOpened
returns c =
    let most = c.args.reading.max_rows in
    let log = log_given c.args.bytes c.args.reading.last_entry in
    let whole = c.read_with-whole in
    let is : c.in_ok-read.read.log ≡ log = search rules in
    let few : HasFewRows most log =
    few_unless most log whole.result whole.ensures.verdict whole.ensures.log (λ rows many. search (rules, tests)) in record {
      named = refl;
      log = is;
      few_rows = few_rows c.in_ok-read.read most (subst (HasFewRows most) (sym is) few);
      whole = rw is (whole_or_fault most log whole.result c.err-fault.result c.err-fault.ensures.value whole.ensures.verdict
          whole.ensures.log);
    }
