use Rattle.std.proofs.Common.{◌∙◌, ap}
use Rattle.std.specs.Prelude.{nat_eq}
use Rattle.std.specs.Cmp.Lexicographic.{pointwise, nat_list_eq_equiv}
use Rattle.uefi_path.specs.LoadOptionViews.{load_option_of}
use Rattle.uefi_examples.proofs.WrittenOptions.{same_again}
use Rattle.uefi_examples.proofs.load_option.is_written_again.Goals as goal

pub returns-in-Ok-write_load_option : goal.returns-in-Ok-write_load_option
returns-in-Ok-write_load_option c =
    let bytes = c.args.bytes.now in
    let same = same_again c.written_options.ensures c.parts.result (load_option_of c.in-Ok.option)
    c.in-Ok-write_load_option.size bytes _ _ c.in-Ok.ensures.ok.0 c.in-Ok.ensures.ok.1 c.parts.ensures
    c.in-Ok-write_load_option.ensures.end c.in-Ok-write_load_option.ensures.written in
    c.eq.ensures ∙ ap (λ part. pointwise nat_eq part bytes) same ∙ nat_list_eq_equiv.refl bytes
