-- The worked rows hold.
use Rattle.std.proofs.Common.{refl}
use Rattle.tpm_quote.specs.BigEndian.{sized_bytes}
use Rattle.tpm_quote.specs.PcrSelection.{numbers, selection_bytes}
use Rattle.tpm_quote.specs.Quote.{before_safe, before_selections, quote_bytes}
use Rattle.tpm_quote.specs.rows.Quotes.{RowsHold}

pub rows_hold : RowsHold
unfolding sized_bytes numbers selection_bytes before_safe before_selections quote_bytes
rows_hold = record { selection = refl; pcrs = refl; quote = refl }
