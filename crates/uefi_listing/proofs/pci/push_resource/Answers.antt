use Rattle.std.proofs.Common.{◌≡◌, ℕ, List, ◌++◌, append_assoc, codes, string_bytes}
use Rattle.std.specs.Fmt.{decimal}
use Rattle.std.proofs.lemmas.Result.{on_ok_weaker}
use Rattle.uefi_map.specs.declared.pci.resource.QwordAddressSpaceDescriptor.{QwordAddressSpaceDescriptor}
use Rattle.shown.specs.HexText.{hex_number}
use Rattle.uefi_listing.specs.Pci.{kind_text, resource_line}
use Rattle.uefi_listing.proofs.pci.push_resource.Goals as goal

-- The parts of the line, one after another, are the line.
joined : (range : QwordAddressSpaceDescriptor) (old new : List ℕ)
    → new ≡ old ++ (codes "resource " ++ (kind_text range.resource_range_type
    ++ (codes " " ++ (decimal range.general_flags ++ (codes " " ++ (decimal range.type_specific_flags
    ++ (codes " " ++ (hex_number range.granularity ++ (codes " " ++ (hex_number range.address_min
    ++ (codes " " ++ (hex_number range.address_max ++ (codes " " ++ (hex_number range.translation_offset
    ++ (codes " " ++ (hex_number range.address_length ++ codes "\n"))))))))))))))))
    → new ≡ old ++ resource_line range
unfolding resource_line
joined range old new is = simp append_assoc is

pub returns : goal.returns
returns g c = on_ok_weaker c.writeln.result
    (joined c.args.range.now (string_bytes c.args.text.now) (string_bytes c.writeln.new.self))
    (simp append_assoc at c.writeln.ensures.bytes)
