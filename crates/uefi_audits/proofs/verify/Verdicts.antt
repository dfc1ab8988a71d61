-- The verdict, by what was replayed.
use Rattle.std.proofs.Common.{◌≡◌, ◌∙◌, ℕ, ◌+◌, ◌<◌, List, [], ◌∷◌, ◌++◌, length, get_or, map, take, ap, subst, sym}
use Rattle.std.specs.Prelude.{true, false, cond, Option}
use Rattle.pcr_replay.specs.declared.bank.Bank.{Bank}
use Rattle.pcr_replay.specs.declared.start.Start.{Start}
use Rattle.uefi_tcg.specs.Entries.{Entry}
use Rattle.pcr_replay.specs.BankReplays.{BankOutcomes, bank_outcomes_of, replayed}
use Rattle.pcr_replay.specs.declared.bank_pcrs.BankPcrs.{BankPcrs}
use Rattle.uefi_audits.specs.KnownStart.{assumed_start, is_stated, known_start}
use Rattle.uefi_audits.specs.declared.known_start.KnownStart.{KnownStart}
use Rattle.uefi_audits.specs.declared.verify.held.HeldPcr.{HeldPcr}
use Rattle.uefi_audits.specs.verify.Banks.{held_banks}
use Rattle.uefi_audits.specs.verify.Verdict.{Comparison, compared, compared_at, nearer, nearest, verdict_of}
use Rattle.uefi_audits.proofs.FirstOnes.{as_many, one_mapped, same_at}

-- One more bank was restarted.
pub one_restarted : (start other : Start) (entries : List Entry) (replays found new : List BankPcrs) (banks : List Bank)
    (replay item : BankPcrs) (index : ℕ) → index < length replays → replay ≡ get_or replays index replay
    → map bank_outcomes_of replays ≡ map (replayed other entries) banks
    → map bank_outcomes_of found ≡ map (replayed start entries) (take index banks)
    → ((it : Start) → bank_outcomes_of replay ≡ replayed it entries replay.bank
    → bank_outcomes_of item ≡ replayed start entries replay.bank)
    → new ≡ found ++ item ∷ [] → map bank_outcomes_of new ≡ map (replayed start entries) (take (index + 1) banks)
one_restarted start other entries replays found new banks replay item index within is same before restarts pushed =
    let here : bank_outcomes_of replay ≡ replayed other entries (get_or banks index replay.bank) =
    ap bank_outcomes_of is ∙ same_at bank_outcomes_of (replayed other entries) replays banks index replay replay.bank same within in
    let bank : replay.bank ≡ get_or banks index replay.bank = ap (λ it. it.bank) here in
    one_mapped bank_outcomes_of (replayed start entries) banks found new item index replay.bank
    (subst (λ n. index < n) (as_many bank_outcomes_of (replayed other entries) replays banks same) within) before
    (restarts other (here ∙ ap (replayed other entries) (sym bank)) ∙ ap (replayed start entries) bank) pushed

-- A comparison with what the events lead to in the held banks.
pub compared_is : (entries : List Entry) (held : List HeldPcr) (start : KnownStart) (replays : List BankOutcomes)
    (comparison : Comparison) → replays ≡ map (replayed start.start entries) (held_banks held)
    → comparison ≡ compared held replays start → comparison ≡ compared_at entries held start
compared_is entries held start replays comparison are is = is ∙ ap (λ all. compared held all start) are

-- The verdict at the start that is stated, and the nearest of three.
pub stated_is : (locality : Option ℕ) (entries : List Entry) (held : List HeldPcr) (start : KnownStart)
    (comparison : Comparison) → start ≡ known_start locality entries → start.is_stated ≡ true
    → comparison ≡ compared_at entries held start → comparison ≡ verdict_of locality entries held
unfolding verdict_of
stated_is locality entries held start comparison known stated is =
    let so : is_stated locality entries ≡ true = sym (ap (λ it. it.is_stated) known) ∙ stated in
    is ∙ ap (compared_at entries held) known
    ∙ sym (ap (λ it. cond it (compared_at entries held (known_start locality entries)) (nearest entries held)) so)

pub nearest_is : (locality : Option ℕ) (entries : List Entry) (held : List HeldPcr) (start : KnownStart)
    (first second third two comparison : Comparison) → start ≡ known_start locality entries → start.is_stated ≡ false
    → first ≡ compared_at entries held (assumed_start 0) → second ≡ compared_at entries held (assumed_start 3)
    → third ≡ compared_at entries held (assumed_start 4) → two ≡ nearer held first second
    → comparison ≡ nearer held two third → comparison ≡ verdict_of locality entries held
unfolding verdict_of
nearest_is locality entries held start first second third two comparison known unstated at_0 at_3 at_4 are is =
    let so : is_stated locality entries ≡ false = sym (ap (λ it. it.is_stated) known) ∙ unstated in
    is ∙ (λ i. nearer held ((are ∙ (λ j. nearer held (at_0 j) (at_3 j))) i) (at_4 i))
    ∙ sym (ap (λ it. cond it (compared_at entries held (known_start locality entries)) (nearest entries held)) so)
