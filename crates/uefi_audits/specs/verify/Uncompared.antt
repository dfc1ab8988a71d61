-- The PCRs that a log extends, and that aren't compared with those that a TPM held.
use Rattle.std.specs.Prelude.{ℕ, ◌==◌, ◌&&◌, not, Bool, List}
use Rattle.std.specs.List.{filter, list_any, range_with_len}
use Rattle.uefi_tcg.specs.Entries.{Entry}
use Rattle.uefi_tcg.specs.v2.Event.{Event}
use Rattle.uefi_tcg.specs.v2.Header.{no_action}
use Rattle.pcr_replay.specs.Replay.{pcr_count}
use Rattle.uefi_audits.specs.declared.verify.named.NamedPcr.{NamedPcr}

-- An event extends the PCR; one of the log does; and the PCR is among those that are compared, in some bank.
abbrev pub extends : ℕ → Event → Bool
extends pcr event = not (event.event_type == no_action) && (event.pcr_index == pcr)

abbrev pub is_extended : List Entry → ℕ → Bool
is_extended entries pcr = list_any (λ entry. extends pcr entry.event) entries

abbrev pub is_compared : List NamedPcr → ℕ → Bool
is_compared compared pcr = list_any (λ it. it.pcr == pcr) compared

-- Those that are extended and aren't compared, in order.
abbrev pub is_uncompared : List Entry → List NamedPcr → ℕ → Bool
is_uncompared entries compared pcr = is_extended entries pcr && not (is_compared compared pcr)

unfoldable pub uncompared_pcrs : List Entry → List NamedPcr → List ℕ
uncompared_pcrs entries compared = filter (is_uncompared entries compared) (range_with_len 0 pcr_count)
