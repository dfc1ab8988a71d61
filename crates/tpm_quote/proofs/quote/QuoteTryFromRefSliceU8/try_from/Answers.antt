use Rattle.std.proofs.Common.{arith}
use Rattle.tpm_quote.specs.Views.{quote_of}
use Rattle.tpm_quote.proofs.Verdicts.{reads_quote}
use Rattle.tpm_quote.proofs.quote.QuoteTryFromRefSliceU8.try_from.Goals as goal

-- The bytes are bytes.
pub returns : goal.returns
returns c =
    reads_quote quote_of c.args.bytes.now c.read.result (λ i. omega (arith, c.type_inv.bytes i)) c.read.ensures
