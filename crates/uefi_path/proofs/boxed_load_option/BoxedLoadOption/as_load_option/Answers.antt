use Rattle.std.proofs.Common.{◌∙◌}
use Rattle.uefi_path.specs.LoadOptionViews.{load_option_of}
use Rattle.uefi_path.proofs.OptionParts.{same_option}
use Rattle.uefi_path.proofs.boxed_load_option.BoxedLoadOption.as_load_option.Goals as goal

pub returns : goal.returns
returns g c =
    same_option (load_option_of c.new_unchecked.result) _ _ c.new_unchecked.ensures.option
    (c.new_unchecked.ensures.bytes ∙ c.as_slice.ensures.value) c.args.self.now.option.1
