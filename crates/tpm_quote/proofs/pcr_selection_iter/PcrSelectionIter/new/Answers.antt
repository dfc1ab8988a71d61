use Rattle.std.proofs.Common.{arith}
use Rattle.tpm_quote.proofs.SelectionsLeft.{has_selections}
use Rattle.tpm_quote.proofs.pcr_selection_iter.PcrSelectionIter.new.Goals as goal

-- The bytes are bytes.
pub invariant_of-result : goal.invariant_of-result
invariant_of-result c = record {
  fits = c.ranges.count.fits;
  left = has_selections c.args.count c.args.rest.now (λ i. omega (arith, c.type_inv.rest i)) c.requires;
}
