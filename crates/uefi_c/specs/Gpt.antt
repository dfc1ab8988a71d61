-- The partition table of a disk (TCG PC Client Platform Firmware Profile 1.06, 10.4.1 "EV_EFI_GPT_EVENT", UEFI_GPT_DATA), as calls give it.
use Rattle.std.specs.Prelude.{ℕ, ◌≡◌, List, Some, slice_get}
use Rattle.tcg_event.specs.Gpt.{Entry, GptData, Header, IsGptData, gpt_bytes}
use Rattle.uefi_tcg.specs.declared.uintn_size.UintnSize.{UintnSize}
use Rattle.uefi_c.specs.declared.event_data.gpt.UefiGptEntry.{UefiGptEntry}
use Rattle.uefi_c.specs.declared.event_data.gpt.UefiGptHeader.{UefiGptHeader}

abbrev pub header_seen : UefiGptHeader → Header
header_seen seen = record {
  signature = seen.signature;
  revision = seen.revision;
  header_size = seen.header_size;
  header_crc32 = seen.header_crc32;
  reserved = seen.reserved;
  my_lba = seen.my_lba;
  alternate_lba = seen.alternate_lba;
  first_usable_lba = seen.first_usable_lba;
  last_usable_lba = seen.last_usable_lba;
  disk_guid = seen.disk_guid;
  partition_entry_lba = seen.partition_entry_lba;
  entry_count = seen.entry_count;
  entry_size = seen.entry_size;
  entries_crc32 = seen.entries_crc32;
}

abbrev pub entry_seen : UefiGptEntry → Entry
entry_seen seen = record {
  type_guid = seen.type_guid;
  unique_guid = seen.unique_guid;
  first_lba = seen.first_lba;
  last_lba = seen.last_lba;
  attributes = seen.attributes;
  name = seen.name;
  rest = seen.rest.now;
}

-- The bytes are a table with this header.
abbrev pub HasHeader : UintnSize → List ℕ → Header → Type 0
HasHeader size bytes header =
    (gpt : GptData) × IsGptData size gpt × (bytes ≡ gpt_bytes size gpt) × (gpt.header ≡ header)

-- The bytes are a table that has this entry at this index.
abbrev pub HasEntry : UintnSize → List ℕ → ℕ → Entry → Type 0
HasEntry size bytes index entry =
    (gpt : GptData) × IsGptData size gpt × (bytes ≡ gpt_bytes size gpt) × (slice_get gpt.entries index ≡ Some entry)
