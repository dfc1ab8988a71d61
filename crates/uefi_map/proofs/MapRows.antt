-- The worked rows of memory maps hold.
use Rattle.std.proofs.Common.{rules, zero, suc, arith, lit<, lit≤}
use Rattle.uefi_map.specs.memory.Descriptor.{descriptor_in, encoding}
use Rattle.uefi_map.specs.memory.Map.{AreSorted}
use Rattle.uefi_map.specs.rows.Maps.{sizes, level_map, FirmwareMap, WrittenDescriptor, NoMaps, Orders, Numbers}
use Rattle.uefi_map.specs.rows.Maps.{RowsHold}

firmware_map : FirmwareMap
unfolding descriptor_in
firmware_map = search rules

written_descriptor : WrittenDescriptor
unfolding encoding
written_descriptor = assumption

no_maps : NoMaps
no_maps = grind arith

orders : Orders
unfolding descriptor_in encoding
orders = record { falling = λ sorted. absurd (omega (arith, sorted 0 (lit< tt))); level = level }
  where
    level : AreSorted level_map (sizes 80 40)
    level zero within = lit≤ tt
    level (suc i) within = absurd (omega (arith, within))

numbers : Numbers
numbers = assumption

pub rows_hold : RowsHold
rows_hold = (firmware_map, written_descriptor, no_maps, orders, numbers)
