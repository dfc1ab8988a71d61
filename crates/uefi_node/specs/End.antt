-- Nodes of the type END (UEFI 2.10, 10.3.1), field by field as in the standard's tables.
use Rattle.std.specs.Prelude.{[]}
use Rattle.uefi_node.specs.Layout.{Layout, layout, nothing}
use Rattle.uefi_node.specs.declared.end.instance.Instance.{Instance}
use Rattle.uefi_node.specs.declared.end.entire.Entire.{Entire}

-- The end of an instance: another one follows (10.3.1).
abbrev pub instance : Layout Instance
instance = layout 0x7f 1 [] nothing

-- The end of the whole path (10.3.1).
abbrev pub entire : Layout Entire
entire = layout 0x7f 0xff [] nothing
