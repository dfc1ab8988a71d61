-- The bits of flag sets that have a name.
use Rattle.std.specs.Prelude.{ℕ}
use Rattle.uefi_node.specs.declared.messaging.infiniband_resource_flags.InfinibandResourceFlags.{InfinibandResourceFlags}
use Rattle.uefi_node.specs.declared.messaging.iscsi_login_options.IscsiLoginOptions.{IscsiLoginOptions}

-- SERVICE, EXTENDED_BOOT_ENVIRONMENT, CONSOLE_PROTOCOL, STORAGE_PROTOCOL and NETWORK_PROTOCOL (UEFI 2.10, 10.3.4.15).
abbrev pub named_infiniband_resource_flags : ℕ
named_infiniband_resource_flags = 0x1f

-- The bits of a set, as a number.
abbrev pub infiniband_resource_flags_bits : InfinibandResourceFlags → ℕ
infiniband_resource_flags_bits set = set.0

-- HEADER_DIGEST_USING_CRC32C, DATA_DIGEST_USING_CRC32C, AUTH_METHOD_NONE and CHAP_UNI (UEFI 2.10, 10.3.4.21).
abbrev pub named_iscsi_login_options : ℕ
named_iscsi_login_options = 0x180a

-- The bits of a set, as a number.
abbrev pub iscsi_login_options_bits : IscsiLoginOptions → ℕ
iscsi_login_options_bits set = set.0
