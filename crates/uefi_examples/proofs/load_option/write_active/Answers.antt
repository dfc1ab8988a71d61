use Rattle.std.proofs.Common.{rules}
use Rattle.uefi_path.specs.LoadOptionViews.{load_option_of}
use Rattle.uefi_examples.proofs.WrittenOptions.{put_active}
use Rattle.uefi_examples.proofs.load_option.write_active.Goals as goal

pub returns : goal.returns
returns c =
    put_active c.written_options.ensures _ (load_option_of c.in-Ok.option) _ _ _ c.in-Ok.ensures.ok.0 c.in-Ok.ensures.ok.1
    (search rules) (search rules) (search rules) (search rules) c.in-Ok-write_load_option.ensures.written
