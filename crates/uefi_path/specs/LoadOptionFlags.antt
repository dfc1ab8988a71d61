-- The attributes of load options (UEFI 2.10, 3.1.3 "Load Options", EFI_LOAD_OPTION).
use Rattle.std.specs.Prelude.{ℕ}
use Rattle.uefi_path.specs.declared.load_option_attributes.LoadOptionAttributes.{LoadOptionAttributes}

-- The bits that have a name: ACTIVE, FORCE_RECONNECT, HIDDEN and the five of the category.
abbrev pub named_attributes : ℕ
named_attributes = 0x1f0b

-- The bits of a set, as a number.
abbrev pub attribute_bits : LoadOptionAttributes → ℕ
attribute_bits set = set.0
