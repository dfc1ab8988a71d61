-- Whether a log is whole, by what reading it returned.
use Rattle.std.proofs.Common.{◌≡◌, ℕ, refl, subst}
use Rattle.std.specs.Prelude.{MatchOption, MatchResult, IfOk, Option, Result, Ok, Err}
use Rattle.std.specs.Result.{result_err}
use Rattle.uefi_tcg.specs.WholeLogs.{HasFewRows, IsFault, IsWhole}
use Rattle.uefi_tcg.specs.declared.log.Log.{Log}
use Rattle.uefi_tcg.specs.declared.log_error.LogError.{LogError}
use Rattle.uefi_tcg.specs.declared.log_error.LogError.TheVariants.{TooManyAlgorithms, Empty, LeftOver}

-- It is, or its fault is that which was returned.
pub whole_or_fault : (most : ℕ) (log : Log) (read : Result Log LogError) (fault : Option LogError) → fault ≡ result_err read
    → MatchResult read (IsWhole most) (IsFault most log) → IfOk read (λ it. it ≡ log)
    → MatchOption fault (IsWhole most log) (IsFault most log)
whole_or_fault most log (Ok it) fault is whole same = rw is (subst (IsWhole most) same whole)
whole_or_fault most log (Err error) fault is whole same = rw is whole

-- Its header has few rows, unless the fault is that it has more.
pub few_unless : (most : ℕ) (log : Log) (read : Result Log LogError) → MatchResult read (IsWhole most) (IsFault most log)
    → IfOk read (λ it. it ≡ log) → ((rows : ℕ) → read ≡ Err (TooManyAlgorithms rows) → ⊥) → HasFewRows most log
few_unless most log (Ok it) whole same few = subst (HasFewRows most) same whole.0
few_unless most log (Err (TooManyAlgorithms rows)) whole same few = absurd (few rows refl)
few_unless most log (Err Empty) whole same few = whole.0
few_unless most log (Err (LeftOver offset)) whole same few = whole.0
