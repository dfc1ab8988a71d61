-- The bits of flag sets that have a name.
use Rattle.std.specs.Prelude.{ℕ}

-- Of daylight: EFI_TIME_ADJUST_DAYLIGHT and EFI_TIME_IN_DAYLIGHT (UEFI 2.10, 8.3 "GetTime()").
abbrev pub named_daylight : ℕ
named_daylight = 0x03

-- Of file attributes: EFI_FILE_VALID_ATTR (UEFI 2.10, 13.5 "EFI_FILE_PROTOCOL.Open()").
abbrev pub named_attributes : ℕ
named_attributes = 0x37

-- The attribute of a directory, EFI_FILE_DIRECTORY.
abbrev pub directory_attribute : ℕ
directory_attribute = 0x10
