use Rattle.uefi_audits.proofs.out_of_place.is_exit_in.Goals as goal

pub returns : goal.returns
returns c = c.is_hash_of.ensures
