use Rattle.std.proofs.Common.{sym, ◌∙◌}
use Rattle.std.proofs.lemmas.Slice.Eq.{bytes_eq-Decides}
use Rattle.uefi_records.specs.file.Views.{file_info_key}
use Rattle.uefi_examples.proofs.records.is_same_file.Goals as goal

-- Equality compares keys, and keys are equal exactly if the accessors return the same.
pub returns : goal.returns
returns c =
    let one = c.args.info.now in
    let other = c.args.other.now in
    let keys = c.equal_files.ensures.keys one other in
    let tested = bytes_eq-Decides (file_info_key one) (file_info_key other) in
    (λ is_true. keys.0 (tested.0 (sym c.eq.ensures ∙ is_true)), λ same. c.eq.ensures ∙ tested.1 (keys.1 same))
