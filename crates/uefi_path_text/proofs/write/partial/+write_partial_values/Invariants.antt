use Rattle.uefi_path_text.proofs.write.partial.+write_partial_values.Given as goal

abbrev pub decreases-write_partial_values : goal.decreases-write_partial_values
decreases-write_partial_values g l = l.count
