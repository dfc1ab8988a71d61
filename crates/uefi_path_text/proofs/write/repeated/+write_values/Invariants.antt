use Rattle.uefi_path_text.proofs.write.repeated.+write_values.Given as goal

abbrev pub decreases-write_values : goal.decreases-write_values
decreases-write_values g l = l.count
