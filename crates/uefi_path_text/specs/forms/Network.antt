-- The forms of nodes of networks and serial ports (UEFI 2.10, 10.6.1.6).
use Rattle.std.specs.Prelude.{[], ◌∷◌, List, codes, replicate}
use Rattle.uefi_path_text.specs.form.NodeForm.{NodeForm, form, displaying, reserving, known, listed, repeated, bytes, argument, padded}
use Rattle.uefi_path_text.specs.form.Parameters.{address, decimal_u16, guid, ipv4, ipv6, optional, optional_ipv4, optional_ipv6, protocol, required, u32, u64, u8}
use Rattle.uefi_path_text.specs.declared.form.argument.Argument.TheVariants.{Number, HardwareAddress, Ipv4Server, Ipv6, Text, Word}
use Rattle.uefi_path_text.specs.declared.form.argument.Base.TheVariants as Base
use Rattle.uefi_path_text.specs.declared.form.words.Words.TheVariants as Words
use Rattle.uefi_path_text.specs.declared.form.size.Size.TheVariants as Size

abbrev pub network_forms : List NodeForm
network_forms =
    form (codes "MAC") (known 3) (known 11) (listed (required (HardwareAddress) ∷ u8 ∷ []) (padded 0 ∷ argument 1 ∷
    []))
    ∷ reserving 2 (displaying 0 1 (form (codes "IPv4") (known 3) (known 12) (listed (ipv4 ∷ protocol ∷ optional (Word Words.Ipv4Origin Size.One) (codes "DHCP") ∷ optional_ipv4 ∷ optional_ipv4
    ∷ optional_ipv4 ∷ []) (argument 3 ∷ argument 0 ∷ bytes (replicate 4 0) ∷ argument 1 ∷ argument 2 ∷ argument 4 ∷
    argument 5 ∷ []))))
    ∷ reserving 2 (displaying 0 1 (form (codes "IPv6") (known 3) (known 13) (listed (ipv6 ∷ protocol ∷ optional (Word Words.Ipv6Origin Size.One) (codes "StatefulAutoConfigure") ∷
    optional_ipv6 ∷ u8 ∷ optional_ipv6 ∷ []) (argument 3 ∷ argument 0 ∷ bytes (replicate 4 0) ∷ argument 1 ∷
    argument 2 ∷ argument 4 ∷ argument 5 ∷ []))))
    ∷ form (codes "Vlan") (known 3) (known 20) (listed (decimal_u16 ∷ []) (argument 0 ∷ []))
    ∷ form (codes "Infiniband") (known 3) (known 9) (listed (u32 ∷ guid ∷ u64 ∷ u64 ∷ u64 ∷ []) (argument 0 ∷
    argument 1 ∷ argument 2 ∷ argument 3 ∷ argument 4 ∷ []))
    ∷ reserving 0 (form (codes "Uart") (known 3) (known 14) (listed (optional (Word Words.Default Size.Eight) (codes "DEFAULT") ∷
    optional (Word Words.Default Size.One) (codes "DEFAULT") ∷ optional (Word Words.Parity Size.One) (codes "D") ∷
    optional (Word Words.StopBits Size.One) (codes "D") ∷ []) (bytes (replicate 4 0) ∷ argument 0 ∷ argument 1 ∷
    argument 2 ∷ argument 3 ∷ [])))
    ∷ form (codes "Uri") (known 3) (known 24) (listed (required (Text 65531) ∷ []) (argument 0 ∷ []))
    ∷ form (codes "Bluetooth") (known 3) (known 27) (listed (address ∷ []) (argument 0 ∷
    []))
    ∷ form (codes "BluetoothLE") (known 3) (known 30) (listed (address ∷ optional (Number
    Size.One Base.LongHex) (codes "0") ∷ []) (argument 0 ∷ argument 1 ∷ []))
    ∷ form (codes "Wi-Fi") (known 3) (known 28) (listed (required (Text 32) ∷ []) (padded 0 ∷ []))
    ∷ form (codes "Dns") (known 3) (known 31) (repeated (0 ∷ []) (Ipv4Server))
    ∷ form (codes "Dns") (known 3) (known 31) (repeated (1 ∷ []) (Ipv6))
    ∷ []
