-- The values of a form's arguments in the data of a node: each is where the parts have it. What is found is a guess,
-- where the data are no data of the form: that the data are the parts of the values is a test of its own.
use Rattle.std.specs.Prelude.{ℕ, zero, suc, ◌+◌, ◌*◌, ◌/◌, ◌%◌, ◌==◌, ◌&&◌, Bool, not, nat_le, nat_lt, List, [], ◌∷◌, length, take, drop, replicate, slice_index, false}
use Rattle.std.specs.Prelude.{Option, Some, None, if◌then◌else◌}
use Rattle.std.specs.List.{position_or_len}
use Rattle.uefi_path_text.specs.form.NodeForm.{Parameter, Part, bytes, argument, padded, sum}
use Rattle.uefi_path_text.specs.form.Pieces.{shape_size}
use Rattle.uefi_path_text.specs.form.Words.{words}
use Rattle.uefi_path_text.specs.parse.Values.{size_bytes, low_first}
use Rattle.uefi_path_text.specs.write.Values.{low_number}
use Rattle.uefi_path_text.specs.declared.form.argument.Argument.{Argument}
use Rattle.uefi_path_text.specs.declared.form.argument.Argument.TheVariants.{Number, BigEndian, Word, Digits, Bytes, HardwareAddress, Ipv4, Ipv4Server, Ipv6, EisaId, PnpId, EisaLetters, DriveBay, Text, Name, Quoted}

-- How many of the bytes are the value of an argument.
abbrev pub value_size : Argument → List ℕ → ℕ
value_size (Number size base) rest = size_bytes size
value_size BigEndian rest = 8
value_size (Word vocabulary size) rest = size_bytes size
value_size (Digits shape) rest = shape_size shape
value_size (Bytes most) rest = length rest
value_size Ipv4 rest = 4
value_size HardwareAddress rest = if nat_le (slice_index rest 32) 1 then 6 else 32
value_size Ipv4Server rest = 16
value_size Ipv6 rest = 16
value_size EisaId rest = 4
value_size PnpId rest = 4
value_size EisaLetters rest = 2
value_size DriveBay rest = 2
value_size (Text most) rest = position_or_len (λ b. b == 0) rest
value_size (Name most) rest = position_or_len (λ b. b == 0) rest
value_size Quoted rest = length rest

-- The argument of a parameter at an index, if there is one.
abbrev pub argument_at : List Parameter → ℕ → Option Argument
argument_at [] index = None
argument_at (parameter ∷ parameters) zero = Some parameter.argument
argument_at (parameter ∷ parameters) (suc index) = argument_at parameters index

abbrev pub size_of : Option Argument → List ℕ → ℕ
size_of None rest = 0
size_of (Some kind) rest = value_size kind rest

-- What an argument adds to a sum: the number of the first of its words whose bit the sum has, and what a drive bay has.
abbrev pub has_bit : ℕ → ℕ → Bool
has_bit number bit = not (bit == 0) && number / bit % 2 == 1

abbrev pub bit_word : ℕ → List (List ℕ × ℕ) → ℕ
bit_word number [] = 0
bit_word number (word ∷ others) = if has_bit number word.1 then word.1 else bit_word number others

abbrev pub addend : Option Argument → ℕ → ℕ
addend (Some (Word vocabulary size)) number = bit_word number (words vocabulary)
addend (Some DriveBay) number = number % 0x10 + number / 0x100 * 0x100
addend _ number = 0

-- How many bytes a part has, of those that the data have from there on.
abbrev pub part_size : List Parameter → Part → List ℕ → ℕ
part_size parameters (bytes b) rest = length b
part_size parameters (argument index) rest = size_of (argument_at parameters index) rest
part_size parameters (padded index) rest = 32
part_size parameters (sum first count) rest = 2

-- The part has the value of the argument at an index; and that value.
abbrev pub is_of : ℕ → Part → Bool
is_of index (bytes b) = false
is_of index (argument i) = i == index
is_of index (padded i) = i == index
is_of index (sum first count) = nat_le first index && nat_lt index (first + count)

abbrev pub value_of_part : Option Argument → Part → List ℕ → List ℕ
value_of_part kind (bytes b) rest = []
value_of_part kind (argument i) rest = take (size_of kind rest) rest
value_of_part kind (padded i) rest = take (size_of kind rest) (take 32 rest)
value_of_part kind (sum first count) rest = low_first 2 (addend kind (low_number (take 2 rest)))

-- An argument that is in no part is zero.
abbrev pub zero_value : Option Argument → List ℕ
zero_value (Some (Word vocabulary size)) = replicate (size_bytes size) 0
zero_value _ = []

abbrev pub value_found : List Parameter → List Part → ℕ → List ℕ → List ℕ
value_found parameters [] index rest = zero_value (argument_at parameters index)
value_found parameters (part ∷ parts) index rest =
    if is_of index part then value_of_part (argument_at parameters index) part rest
    else value_found parameters parts index (drop (part_size parameters part rest) rest)

-- The values of the parameters from an index on.
abbrev pub values_from : List Parameter → List Part → List Parameter → ℕ → List ℕ → List (List ℕ)
values_from parameters parts [] index d = []
values_from parameters parts (parameter ∷ others) index d =
    value_found parameters parts index d ∷ values_from parameters parts others (suc index) d

abbrev pub values_found : List Parameter → List Part → List ℕ → List (List ℕ)
values_found parameters parts d = values_from parameters parts parameters 0 d
