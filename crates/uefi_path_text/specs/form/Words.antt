-- The words that an argument can be, each with the number that it stands for (UEFI 2.10, 10.6.1.6).
use Rattle.std.specs.Prelude.{ℕ, List, [], ◌∷◌, codes, Bool, true, false}
use Rattle.uefi_path_text.specs.declared.form.words.Words.{Words}
use Rattle.uefi_path_text.specs.declared.form.words.Words.TheVariants.{Channel, Drive, Protocol, Ipv4Origin, Ipv6Origin, Default, Parity, StopBits, HeaderDigest, DataDigest, Authentication, Tcp, NoTopology, SasInterface, SasLocation, SasConnection, FlowControl, Mbr, Gpt, Zero, BootDevice}

abbrev pub words : Words → List (List ℕ × ℕ)
words Channel = (codes "Primary", 0) ∷ (codes "Secondary", 1) ∷ []
words Drive = (codes "Master", 0) ∷ (codes "Slave", 1) ∷ []
words Protocol = (codes "TCP", 6) ∷ (codes "UDP", 17) ∷ []
words Ipv4Origin = (codes "DHCP", 0) ∷ (codes "Static", 1) ∷ []
words Ipv6Origin = (codes "Static", 0) ∷ (codes "StatelessAutoConfigure", 1) ∷ (codes "StatefulAutoConfigure", 2) ∷ []
words Default = (codes "DEFAULT", 0) ∷ []
words Parity = (codes "D", 0) ∷ (codes "N", 1) ∷ (codes "E", 2) ∷ (codes "O", 3) ∷ (codes "M", 4) ∷ (codes "S", 5) ∷ []
words StopBits = (codes "D", 0) ∷ (codes "1", 1) ∷ (codes "1.5", 2) ∷ (codes "2", 3) ∷ []
words HeaderDigest = (codes "None", 0) ∷ (codes "CRC32C", 0x2) ∷ []
words DataDigest = (codes "None", 0) ∷ (codes "CRC32C", 0x8) ∷ []
words Authentication = (codes "CHAP_BI", 0) ∷ (codes "None", 0x800) ∷ (codes "CHAP_UNI", 0x1000) ∷ []
words Tcp = (codes "TCP", 0) ∷ []
words NoTopology = (codes "NoTopology", 0) ∷ []
words SasInterface = (codes "SAS", 0) ∷ (codes "SATA", 0x10) ∷ []
words SasLocation = (codes "Internal", 0) ∷ (codes "External", 0x20) ∷ []
words SasConnection = (codes "Direct", 0) ∷ (codes "Expanded", 0x40) ∷ []
words FlowControl = (codes "None", 0) ∷ (codes "Hardware", 1) ∷ (codes "XonXoff", 2) ∷ []
words Mbr = (codes "MBR", 1) ∷ []
words Gpt = (codes "GPT", 2) ∷ []
words Zero = (codes "0", 0) ∷ []
words BootDevice =
    (codes "Floppy", 1) ∷ (codes "HD", 2) ∷ (codes "CDROM", 3) ∷ (codes "PCMCIA", 4) ∷ (codes "USB", 5)
    ∷ (codes "Network", 6) ∷ []

-- A number can be in the place of a word.
abbrev pub are_numbers : Words → Bool
are_numbers Channel = true
are_numbers Drive = true
are_numbers Protocol = true
are_numbers Default = true
are_numbers BootDevice = true
are_numbers _ = false
