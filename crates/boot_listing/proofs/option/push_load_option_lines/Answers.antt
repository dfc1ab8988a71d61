use Rattle.std.proofs.Common.{◌≡◌, ◌-◌, ◌++◌, ℕ, List, [], ◌∷◌, length, append_assoc, arith}
use Rattle.std.proofs.lemmas.List.{length_push, take_at}
use Rattle.uefi_base.specs.Ucs2.{characters_of}
use Rattle.uefi_path.specs.LoadOption.{with_nul}
use Rattle.boot_listing.specs.Option.{load_option_lines}
use Rattle.boot_listing.specs.Text.{nodes_as_text}
use Rattle.boot_listing.proofs.option.push_load_option_lines.Goals as goal

-- A description has the characters that come before its NUL.
characters_of-with_nul : (units : List ℕ) → characters_of (with_nul units) ≡ units
characters_of-with_nul units =
    let sized = length_push units 0 in take_at units (0 ∷ []) (length (units ++ 0 ∷ []) - 1) (omega arith)

pub returns : goal.returns
unfolding load_option_lines nodes_as_text
returns g c = simp append_assoc (simp (
  c.from.ensures,
  c.attributes.ensures,
  c.bits.ensures,
  c.description.ensures,
  characters_of-with_nul,
  c.file_path.ensures,
  c.to_text-path.ensures,
  c.optional_data.ensures,
  c.optional_data-2.ensures,
  c.gap_before-gap.ensures,
) at c.writeln.ensures.bytes)
