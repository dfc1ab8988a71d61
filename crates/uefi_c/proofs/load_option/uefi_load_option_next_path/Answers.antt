use Rattle.uefi_c.proofs.PathFaults.{no_path_at_end}
use Rattle.uefi_c.proofs.load_option.uefi_load_option_next_path.Goals as goal

pub returns-then-offset-file_path_list-clause-found :
    goal.returns-then-offset-file_path_list-clause-found
returns-then-offset-file_path_list-clause-found c = (
  λ is_ok. absurd cc,
  λ has. absurd (no_path_at_end c.args.file_path_list.now c.args.offset.now c.if-offset-file_path_list.true has),
)
