-- PCRs as `tpm2_pcrread` of tpm2-tools 5.4 prints them.
use Rattle.std.specs.Prelude.{ℕ, List, [], ◌++◌, nat_lt, codes, Ok, Err, if◌then◌else◌}
use Rattle.std.specs.Fmt.{decimal}
use Rattle.hex.specs.Hex.{encode_upper}
use Rattle.pcr_replay.specs.Replay.{Outcome}
use Rattle.pcr_replay.specs.BankReplays.{BankOutcomes}
use Rattle.uefi_audits.specs.Naming.{bank_name}
use Rattle.uefi_audits.specs.Numbered.{numbered}

-- A space after a number of one digit.
unfoldable pub padding : ℕ → List ℕ
padding number = if nat_lt number 10 then codes " " else []

-- Four spaces, the PCR's number as wide as two digits, and its value in hex, in upper case.
unfoldable pub pcr_line : ℕ → Outcome → List ℕ
pcr_line number (Ok value) = codes "    " ++ decimal number ++ padding number ++ codes ": 0x" ++ encode_upper value ++ codes "\n"
pcr_line number (Err at) = codes "    " ++ decimal number ++ padding number ++ codes ": undetermined\n"

-- Two spaces, the bank's name and a colon; and its PCRs from the first on.
unfoldable pub bank_lines : BankOutcomes → List ℕ
bank_lines bank = (codes "  " ++ bank_name bank.bank ++ codes ":\n") ++ numbered pcr_line 0 bank.outcomes
