use Rattle.std.proofs.Common.{arith, ◌≡◌, ℕ, ◌==◌, Bool, List, length, position, None, not}
use Rattle.std.specs.List.{position_or_len}
use Rattle.std.proofs.lemmas.Grind.{common_steps}
use Rattle.std.proofs.lemmas.List.Sums.{prefix_len-le-length}
use Rattle.uefi_path_text.proofs.write.bytes.text_size.Goals as goal

-- If no byte passes, all are before the first that does.
none_passes : (p : ℕ → Bool) (bytes : List ℕ) → None ≡ position p bytes → length bytes ≡ position_or_len p bytes
none_passes p bytes none =
    let within = prefix_len-le-length (λ byte. not (p byte)) bytes in grind (arith, common_steps)

pub returns-in-None : goal.returns-in-None
returns-in-None c = none_passes (λ byte. byte == 0) c.args.bytes.now c.in-None.ensures
