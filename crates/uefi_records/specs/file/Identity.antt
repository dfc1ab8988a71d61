-- The GUIDs of the three records (UEFI 2.10, 13.5 "EFI_FILE_PROTOCOL.GetInfo()", EFI_FILE_INFO_ID,
-- EFI_FILE_SYSTEM_INFO_ID and EFI_FILE_SYSTEM_VOLUME_LABEL_ID).
use Rattle.std.specs.Prelude.{[], ◌∷◌}
use Rattle.uefi_base.specs.declared.guid.Guid.{Guid}

-- 09576e92-6d3f-11d2-8e39-00a0c969723b
abbrev pub file_info_guid : Guid
file_info_guid = record {
  0 =
      0x92 ∷ 0x6e ∷ 0x57 ∷ 0x09 ∷ 0x3f ∷ 0x6d ∷ 0xd2 ∷ 0x11
      ∷ 0x8e ∷ 0x39 ∷ 0x00 ∷ 0xa0 ∷ 0xc9 ∷ 0x69 ∷ 0x72 ∷ 0x3b ∷ [];
}

-- 09576e93-6d3f-11d2-8e39-00a0c969723b
abbrev pub file_system_info_guid : Guid
file_system_info_guid = record {
  0 =
      0x93 ∷ 0x6e ∷ 0x57 ∷ 0x09 ∷ 0x3f ∷ 0x6d ∷ 0xd2 ∷ 0x11
      ∷ 0x8e ∷ 0x39 ∷ 0x00 ∷ 0xa0 ∷ 0xc9 ∷ 0x69 ∷ 0x72 ∷ 0x3b ∷ [];
}

-- db47d7d3-fe81-11d3-9a35-0090273fc14d
abbrev pub volume_label_guid : Guid
volume_label_guid = record {
  0 =
      0xd3 ∷ 0xd7 ∷ 0x47 ∷ 0xdb ∷ 0x81 ∷ 0xfe ∷ 0xd3 ∷ 0x11
      ∷ 0x9a ∷ 0x35 ∷ 0x00 ∷ 0x90 ∷ 0x27 ∷ 0x3f ∷ 0xc1 ∷ 0x4d ∷ [];
}
