use Rattle.std.proofs.Common.{length, ap, ◌∙◌}
use Rattle.uefi_path.specs.LoadOptionViews.{load_option_of}
use Rattle.uefi_c.proofs.LoadOptionParts.{description_within, description_there}
use Rattle.uefi_c.proofs.load_option.seen.Goals as goal

pub name_bytes-requires : goal.name_bytes-requires
name_bytes-requires c = description_within c.args.bytes.now (load_option_of c.args.option.now) c.requires
    c.len-units.result (c.len-units.ensures ∙ ap length c.description.ensures)

pub returns-clause-description : goal.returns-clause-description
returns-clause-description c = c.name_bytes.ensures
    ∙ description_there c.args.bytes.now (load_option_of c.args.option.now) c.requires c.len-units.result
    (c.len-units.ensures ∙ ap length c.description.ensures)
