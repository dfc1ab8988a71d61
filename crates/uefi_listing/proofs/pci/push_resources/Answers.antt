use Rattle.std.proofs.Common.{◌≡◌, ℕ, ◌+◌, List, [], ◌++◌, ap, append_assoc, arith, codes, flat_map, length, string_bytes}
use Rattle.std.specs.Fmt.{decimal}
use Rattle.std.proofs.lemmas.Result.{on_ok_weaker}
use Rattle.shown.proofs.Appending.{appended_next, counted_last}
use Rattle.uefi_map.specs.declared.pci.resource.QwordAddressSpaceDescriptor.{QwordAddressSpaceDescriptor}
use Rattle.uefi_map.specs.pci.Views.{resources_left, resources_of}
use Rattle.uefi_listing.specs.Pci.{resource_line, resource_lines}
use Rattle.uefi_listing.proofs.pci.push_resources.Goals as goal

pub loop-range-preserved : goal.loop-range-preserved
loop-range-preserved g c =
    appended_next resource_line (resources_left c.loop-range.range-iterator)
    (resources_left c.next.new.self) c.in-Some.range _ _ _
    c.in-Some.ensures.steps c.in_ok-push_resource.ensures c.loop-range.invariant

-- The lines of the ranges, and then that of their count.
whole : (all left : List QwordAddressSpaceDescriptor) (old now new : List ℕ) (count : ℕ) → left ≡ []
    → now ++ flat_map resource_line left ≡ old ++ flat_map resource_line all → count + length left ≡ length all
    → new ≡ now ++ (codes "resources " ++ (decimal count ++ codes "\n")) → new ≡ old ++ resource_lines all
whole all left old now new count none lines counted last =
    simp append_assoc (counted_last resource_line all left old now new (codes "resources ") count none lines counted last)

pub returns : goal.returns
returns g c =
    let all = resources_of c.args.list.now in
    let left = resources_left c.loop-range.range-iterator in
    let none = c.in-None.ensures.steps.0 in
    let counted : c.len-count.result + length left ≡ length all =
    omega (arith, c.len-count.ensures.value, ap length c.iter.ensures.resources, ap length none) in
    on_ok_weaker c.writeln.result
    (whole all left (string_bytes c.args.text.now) (string_bytes c.loop-range.text) (string_bytes c.writeln.new.self)
    c.len-count.result none c.loop-range.invariant counted)
    c.writeln.ensures.bytes
