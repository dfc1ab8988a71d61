-- What contracts see of views of addresses.
use Rattle.std.specs.Prelude.{ℕ, List}
use Rattle.uefi_node.specs.declared.acpi.adr_list.AdrList.{AdrList}
use Rattle.uefi_node.specs.declared.messaging.dns_addresses.DnsAddresses.{DnsAddresses}

-- The bytes of the addresses of ACPI objects.
abbrev pub adr_bytes : AdrList → List ℕ
adr_bytes list = list.bytes.now

-- The bytes of the addresses of DNS servers.
abbrev pub address_bytes : DnsAddresses → List ℕ
address_bytes list = list.bytes.now
