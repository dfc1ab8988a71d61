-- The arguments that several forms have.
use Rattle.std.specs.Prelude.{ℕ, List, [], codes}
use Rattle.uefi_path_text.specs.form.NodeForm.{Parameter}
use Rattle.uefi_path_text.specs.declared.form.argument.Argument.{Argument}
use Rattle.uefi_path_text.specs.declared.form.argument.Argument.TheVariants.{Number, BigEndian, Word, Digits, Bytes, Ipv4, Ipv6, EisaId, EisaLetters, DriveBay, Text, Name}
use Rattle.uefi_path_text.specs.declared.form.words.Words.TheVariants as Words
use Rattle.uefi_path_text.specs.declared.form.shape.Shape.TheVariants as Shape
use Rattle.uefi_path_text.specs.declared.form.size.Size.TheVariants as Size
use Rattle.uefi_path_text.specs.declared.form.argument.Base.TheVariants as Base

-- An argument that can be left out, with the text that then stands for it; and one that can't.
abbrev pub optional : Argument → List ℕ → Parameter
optional argument default = record { argument = argument; default = default }

abbrev pub required : Argument → Parameter
required argument = optional argument []

abbrev pub u8 : Parameter
u8 = optional (Number Size.One Base.Hex) (codes "0")

abbrev pub u16 : Parameter
u16 = optional (Number Size.Two Base.Hex) (codes "0")

abbrev pub u32 : Parameter
u32 = optional (Number Size.Four Base.Hex) (codes "0")

abbrev pub u64 : Parameter
u64 = optional (Number Size.Eight Base.Hex) (codes "0")

abbrev pub class : Parameter
class = optional (Number Size.One Base.Hex) (codes "0xFF")

abbrev pub identifier : Parameter
identifier = optional (Number Size.Two Base.Hex) (codes "0xFFFF")

abbrev pub big_endian : Parameter
big_endian = optional (BigEndian) (codes "0")

abbrev pub guid : Parameter
guid = required (Digits Shape.Guid)

abbrev pub ipv4 : Parameter
ipv4 = required (Ipv4)

abbrev pub optional_ipv4 : Parameter
optional_ipv4 = optional (Ipv4) (codes "0.0.0.0")

abbrev pub ipv6 : Parameter
ipv6 = required (Ipv6)

abbrev pub optional_ipv6 : Parameter
optional_ipv6 = optional (Ipv6) (codes "::")

abbrev pub zero : Parameter
zero = optional (Word Words.Zero Size.One) (codes "0")

abbrev pub eisa_id : Parameter
eisa_id = required (EisaId)

abbrev pub decimal_u16 : Parameter
decimal_u16 = optional (Number Size.Two Base.Decimal) (codes "0")

abbrev pub decimal_u32 : Parameter
decimal_u32 = optional (Number Size.Four Base.Decimal) (codes "0")

abbrev pub node_data : Parameter
node_data = required (Bytes 65531)

abbrev pub vendor_data : Parameter
vendor_data = required (Bytes 65515)

abbrev pub string : Parameter
string = required (Text 65516)

abbrev pub some_string : Parameter
some_string = required (Name 65516)

abbrev pub sas_interface : Parameter
sas_interface = required (Word Words.SasInterface Size.Two)

abbrev pub sas_location : Parameter
sas_location = required (Word Words.SasLocation Size.Two)

abbrev pub sas_connection : Parameter
sas_connection = required (Word Words.SasConnection Size.Two)

abbrev pub drive_bay : Parameter
drive_bay = optional (DriveBay) (codes "0")

abbrev pub no_topology : Parameter
no_topology = required (Word Words.NoTopology Size.Two)

abbrev pub zero_u32 : Parameter
zero_u32 = optional (Word Words.Zero Size.Four) (codes "0")

abbrev pub eisa_letters : Parameter
eisa_letters = required EisaLetters

abbrev pub protocol : Parameter
protocol = optional (Word Words.Protocol Size.Two) (codes "0")

abbrev pub address : Parameter
address = required (Digits Shape.Address)
