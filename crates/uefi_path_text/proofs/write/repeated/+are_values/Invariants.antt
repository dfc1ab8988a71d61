use Rattle.uefi_path_text.proofs.write.repeated.+are_values.Given as goal

abbrev pub decreases-are_values : goal.decreases-are_values
decreases-are_values l = l.count
