-- The texts that Display writes for a fault of an event, and for errors.
use Rattle.std.specs.Prelude.{ℕ, List, ◌++◌, codes, false}
use Rattle.std.specs.Fmt.{decimal, digits}
use Rattle.pcr_replay.specs.declared.fault.Fault.{Fault}
use Rattle.pcr_replay.specs.declared.fault.Fault.TheVariants.{NoDigest, TwoDigests, OtherLength, UnknownLocality, OtherLocality, LateLocality}
use Rattle.pcr_replay.specs.declared.fault.Undetermined.{Undetermined}
use Rattle.pcr_replay.specs.declared.quote.NoQuoteDigest.{NoQuoteDigest}
use Rattle.pcr_replay.specs.declared.quote.NoQuoteDigest.TheVariants.{NoBank, Undetermined as UndeterminedPcr}

-- What is wrong with an event by which a PCR is undetermined.
abbrev pub fault_text : Fault → List ℕ
fault_text NoDigest = codes "has no digest of the bank"
fault_text TwoDigests = codes "has two digests of the bank or more"
fault_text OtherLength = codes "has a digest of another length"
fault_text UnknownLocality = codes "states a locality other than 0, 3 and 4"
fault_text OtherLocality = codes "states another locality than PCR 0 starts at"
fault_text LateLocality = codes "states the locality after PCR 0 was extended"

-- Which event it is, and what is wrong with it.
unfoldable pub undetermined_text : Undetermined → List ℕ
undetermined_text at = codes "event " ++ decimal at.index ++ codes " at offset " ++ decimal at.offset ++ codes " " ++ fault_text at.fault

-- Why a log leads to no digest that a quote could have.
abbrev pub no_quote_digest_text : NoQuoteDigest → List ℕ
no_quote_digest_text (NoBank algorithm) = codes "no bank of algorithm 0x" ++ digits 16 false algorithm.0
no_quote_digest_text (UndeterminedPcr algorithm pcr at) =
    codes "PCR " ++ (decimal pcr.0 ++ (codes " of algorithm 0x" ++ (digits 16 false algorithm.0 ++ (codes " is undetermined: " ++ undetermined_text at))))
