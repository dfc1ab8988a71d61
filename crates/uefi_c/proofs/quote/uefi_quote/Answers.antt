use Rattle.uefi_c.proofs.QuoteRead.{none_read}
use Rattle.uefi_c.proofs.quote.uefi_quote.Goals as goal

pub returns-in-Err-clause-none : goal.returns-in-Err-clause-none
returns-in-Err-clause-none c = λ so. none_read c.args.message.now c.try_from.result c.in-Err.error c.try_from.ensures c.in-Err.is
