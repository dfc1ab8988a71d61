-- The header event of a log of version 2.
use Rattle.std.proofs.Common.{◌≡◌, ℕ, ◌+◌, ◌-◌, ◌/◌, ◌<◌, ◌≤◌, List, [], length, refl, ap, subst, arith}
use Rattle.std.specs.Prelude.{Option, None, Some}
use Rattle.uefi_tcg.specs.v2.Event.{Event}
use Rattle.uefi_tcg.specs.v2.Header.{HeaderEvent, IsHeaderEvent, after_event, after_header, start_of, header_bytes}
use Rattle.uefi_tcg.specs.v2.Laws.{OneLog, IsBounded, least_length, least_start}
use Rattle.uefi_tcg.specs.v2.Log.{IsLog}
use Rattle.uefi_examples.proofs.DigestSteps.{log_of}

-- What is said of a header event is said of the one that a log has.
pub bound_after_event : OneLog → IsBounded
    → (bytes : List ℕ) (last_entry : ℕ) (also : Option HeaderEvent) (log : List Event)
    → IsLog after_event bytes last_entry also log
    → (found : HeaderEvent) → IsHeaderEvent bytes last_entry found.event found.header
    → (last_entry < start_of after_event found → log ≡ [])
    × (length log ≤ (last_entry - start_of after_event found) / 16 + 1)
bound_after_event one law bytes last_entry None log is found has = absurd (is.0 found.header (found.event, has))
bound_after_event one law bytes last_entry (Some also) log is found has =
    let same : also ≡ found = one.header_event bytes last_entry also found is.0 has in
    let there : IsLog after_event bytes last_entry (Some found) log =
    subst (λ (f : HeaderEvent). IsLog after_event bytes last_entry (Some f) log) same is in
    let logged = log_of after_event bytes last_entry log (Some found, there) in
    (law.none after_event logged found refl, law.few after_event logged found refl)

-- After the header's own bytes the start is 61 at least.
pub bound_after_header : IsBounded → (bytes : List ℕ) (last_entry : ℕ) (found : Option HeaderEvent) (log : List Event)
    → IsLog after_header bytes last_entry found log
    → (last_entry < least_start → log ≡ []) × (length log ≤ (last_entry - least_start) / least_length + 1)
bound_after_header law bytes last_entry None log is = (λ below. is.1, omega (arith, ap length is.1))
bound_after_header law bytes last_entry (Some found) log is =
    let logged = log_of after_header bytes last_entry log (Some found, is) in
    let start = law.start found.header in
    let few = law.few after_header logged found refl in
    (λ below. law.none after_header logged found refl (omega arith), omega (arith, few))

-- If each header event has nothing but the header, so has that of a log.
pub nothing_follows : (bytes : List ℕ) (last_entry : ℕ)
    → ((found : HeaderEvent) → IsHeaderEvent bytes last_entry found.event found.header
    → found.event.event_data ≡ header_bytes found.header)
    → (found : Option HeaderEvent) (log : List Event) → IsLog after_header bytes last_entry found log
    → (only : HeaderEvent) → found ≡ Some only → only.event.event_data ≡ header_bytes only.header
nothing_follows bytes last_entry exact found log is only same =
    exact only (subst (λ (o : Option HeaderEvent). IsLog after_header bytes last_entry o log) same is).0
