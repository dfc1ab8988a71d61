-- How many bytes a text of an argument stands for.
use Rattle.std.specs.Prelude.{ℕ, ◌*◌, ◌-◌, ◌/◌, List, length}
use Rattle.uefi_path_text.specs.form.Pieces.{shape_size}
use Rattle.uefi_path_text.specs.parse.Values.{size_bytes}
use Rattle.uefi_path_text.specs.declared.form.argument.Argument.{Argument}
use Rattle.uefi_path_text.specs.declared.form.argument.Argument.TheVariants.{Number, BigEndian, Word, Digits, Bytes, HardwareAddress, Ipv4, Ipv4Server, Ipv6, EisaId, PnpId, EisaLetters, DriveBay, Text, Name, Quoted}

abbrev pub length_of_text : Argument → List ℕ → ℕ
length_of_text (Number size base) text = size_bytes size
length_of_text BigEndian text = 8
length_of_text (Word vocabulary size) text = size_bytes size
length_of_text (Digits shape) text = shape_size shape
length_of_text (Bytes most) text = length text / 2
length_of_text HardwareAddress text = length text / 2
length_of_text Ipv4 text = 4
length_of_text Ipv4Server text = 16
length_of_text Ipv6 text = 16
length_of_text EisaId text = 4
length_of_text PnpId text = 4
length_of_text EisaLetters text = 2
length_of_text DriveBay text = 2
length_of_text (Text most) text = length text
length_of_text (Name most) text = length text
length_of_text Quoted text = 2 * (length text - 2)
