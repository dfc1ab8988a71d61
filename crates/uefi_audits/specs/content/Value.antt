-- What the value of a variable says, by the variable's GUID and name (UEFI 2.10, 3.3 "Globally Defined Variables" and 32.4.1 "Signature Database"; TCG PC Client Platform Firmware Profile 1.06, 10.4.1 "EV_EFI_VARIABLE_AUTHORITY").
use Rattle.std.specs.Prelude.{ℕ, ◌≡◌, ◌==◌, ◌&&◌, ◌||◌, nat_le, List, [], ◌∷◌, length, slice_get, codes, Option, Some, None, Bool, false, if◌then◌else◌}
use Rattle.std.specs.Option.{option_map_or}
use Rattle.std.specs.Str.{bytes_eq}
use Rattle.uefi_path.specs.LoadOption.{LoadOption, IsLoadOption, load_option_bytes}
use Rattle.tcg_event.specs.BootOrder.{ReadsBootOrder}
use Rattle.tcg_event.specs.Reading.{Reads}
use Rattle.tcg_event.specs.Signature.{Signature, SignatureList, ReadsSignature, ReadsSignatureLists}

-- What a value says: a boot option, the order of these, the lists of a signature database, a signature of one; or nothing that is read here.
pub data Value : Type 0 where
  unread : Value
  boot_option : LoadOption → Value
  boot_order : List ℕ → Value
  signature_lists : List SignatureList → Value
  signature : Signature → Value

-- The GUIDs of UEFI's own variables (`EFI_GLOBAL_VARIABLE`, 8be4df61-93ca-11d2-aa0d-00e098032b8c), of the databases `db` and `dbx` (`EFI_IMAGE_SECURITY_DATABASE_GUID`, d719b2cb-3d3a-4596-a3bc-dad00e67656f) and of shim's variables (605dab50-e046-4300-abb6-3dd810dd8b23).
abbrev pub global_variable : List ℕ
global_variable = 0x61 ∷ 0xdf ∷ 0xe4 ∷ 0x8b ∷ 0xca ∷ 0x93 ∷ 0xd2 ∷ 0x11 ∷ 0xaa ∷ 0x0d ∷ 0x00 ∷ 0xe0 ∷ 0x98 ∷ 0x03 ∷ 0x2b ∷ 0x8c ∷ []

abbrev pub image_security_database : List ℕ
image_security_database = 0xcb ∷ 0xb2 ∷ 0x19 ∷ 0xd7 ∷ 0x3a ∷ 0x3d ∷ 0x96 ∷ 0x45 ∷ 0xa3 ∷ 0xbc ∷ 0xda ∷ 0xd0 ∷ 0x0e ∷ 0x67 ∷ 0x65 ∷ 0x6f ∷ []

abbrev pub shim_lock : List ℕ
shim_lock = 0x50 ∷ 0xab ∷ 0x5d ∷ 0x60 ∷ 0x46 ∷ 0xe0 ∷ 0x00 ∷ 0x43 ∷ 0xab ∷ 0xb6 ∷ 0x3d ∷ 0xd8 ∷ 0x10 ∷ 0xdd ∷ 0x8b ∷ 0x23 ∷ []

-- The name of a boot option: `Boot` and four upper-case hex digits.
abbrev pub is_upper_hex_digit : ℕ → Bool
is_upper_hex_digit unit = (nat_le 0x30 unit && nat_le unit 0x39) || (nat_le 0x41 unit && nat_le unit 0x46)

abbrev pub has_unit : List ℕ → ℕ → ℕ → Bool
has_unit name index unit = option_map_or (λ found. found == unit) (slice_get name index) false

abbrev pub has_digit : List ℕ → ℕ → Bool
has_digit name index = option_map_or is_upper_hex_digit (slice_get name index) false

unfoldable pub is_boot_option_name : List ℕ → Bool
is_boot_option_name name =
    (length name == 8) && (has_unit name 0 0x42 && (has_unit name 1 0x6f && (has_unit name 2 0x6f && (has_unit name 3 0x74
    && (has_digit name 4 && (has_digit name 5 && (has_digit name 6 && has_digit name 7)))))))

-- The forms of values that are read: those that `Value` has; and any other form.
pub data ValueForm : Type 0 where
  OfBootOption : ValueForm
  OfBootOrder : ValueForm
  OfSignatureLists : ValueForm
  OfSignature : ValueForm
  OfNothing : ValueForm

-- The form that the value of one of UEFI's own variables has, by its name.
abbrev pub global_form : List ℕ → ValueForm
global_form name =
    if is_boot_option_name name then OfBootOption
    else if bytes_eq name (codes "BootOrder") then OfBootOrder
    else if bytes_eq name (codes "PK") || bytes_eq name (codes "KEK") then OfSignatureLists
    else OfNothing

-- That which the value of a variable has.
abbrev pub value_form : List ℕ → List ℕ → ValueForm
value_form guid name =
    if bytes_eq guid global_variable then global_form name
    else if bytes_eq guid image_security_database && (bytes_eq name (codes "db") || bytes_eq name (codes "dbx")) then OfSignatureLists
    else OfNothing

-- The same in an event of type `EV_EFI_VARIABLE_AUTHORITY`, which has the one signature by which an image was allowed: that of firmware's databases, and that of shim's list.
abbrev pub authority_form : List ℕ → List ℕ → ValueForm
authority_form guid name =
    if bytes_eq guid image_security_database || (bytes_eq guid shim_lock && bytes_eq name (codes "MokList")) then OfSignature
    else OfNothing

-- What is found, or nothing.
abbrev pub value_or_unread : {A : Type 0} → (A → Value) → Option A → Value
value_or_unread says (Some found) = says found
value_or_unread says None = unread

-- What a value of a form says.
unfoldable pub SaysValue : ValueForm → List ℕ → Value → Type 0
SaysValue OfBootOption bytes value =
    (found : Option LoadOption) × Reads IsLoadOption load_option_bytes bytes found × (value ≡ value_or_unread boot_option found)
SaysValue OfBootOrder bytes value =
    (found : Option (List ℕ)) × ReadsBootOrder bytes found × (value ≡ value_or_unread boot_order found)
SaysValue OfSignatureLists bytes value =
    (found : Option (List SignatureList)) × ReadsSignatureLists bytes found × (value ≡ value_or_unread signature_lists found)
SaysValue OfSignature bytes value =
    (found : Option Signature) × ReadsSignature bytes found × (value ≡ value_or_unread signature found)
SaysValue OfNothing bytes value = value ≡ unread
