-- The parts of load options: when some option has them, and its bytes.
use Rattle.std.proofs.Common.{◌≡◌, ℕ, ◌+◌, ◌<◌, ◌≤◌, ◌^◌, List, ◌++◌, length, take, refl, sym, ◌∙◌, ap, subst, arith, Bool, true}
use Rattle.std.proofs.lemmas.List.{length-append, append_assoc}
use Rattle.std.specs.Prelude.{Result, Ok, Err, IsTrue, MatchResult, ◌↔◌}
use Rattle.std.specs.Result.{is_ok}
use Rattle.uefi_base.specs.Buffer.{put_at, put_prefix}
use Rattle.uefi_base.specs.LittleEndian.{u16_bytes, u32_bytes}
use Rattle.uefi_base.specs.Prefix.{IsPrefix}
use Rattle.uefi_base.specs.Unaligned.{unit_bytes}
use Rattle.uefi_base.proofs.Filled.{filled}
use Rattle.uefi_base.proofs.Parts.{put_first, put_more}
use Rattle.uefi_base.proofs.UnitsBack.{units_read_back}
use Rattle.uefi_path.specs.Laws.{WrittenOptions}
use Rattle.uefi_path.specs.LoadOption.{LoadOption, IsLoadOption, ReadsLoadOption, load_option_bytes}
use Rattle.uefi_path.specs.LoadOptionViews.{load_option_of}
use Rattle.uefi_path.specs.declared.load_option.LoadOption.{LoadOption as LoadOptionView}
use Rattle.uefi_path.specs.declared.load_option_error.LoadOptionError.{LoadOptionError}
use Rattle.uefi_path.specs.LoadOptionFlags.{attribute_bits}
use Rattle.uefi_path.specs.LoadOptionParts.{HasParts, ArePartsOfOption, IsOptionPut, description_units, parts_size}
use Rattle.uefi_path.specs.Node.{Node, joined}
use Rattle.uefi_path.specs.Path.{IsPath}
use Rattle.uefi_path.specs.Reading.{ReadsPath}
use Rattle.uefi_path.specs.Views.{path_nodes}
use Rattle.uefi_path.specs.private.Description.{IsDescription}
use Rattle.uefi_path.specs.private.Encoding.{IsEncodingOfOption}
use Rattle.uefi_path.specs.private.OneLoadOption.{one_load_option}
use Rattle.uefi_path.specs.declared.load_option_parts.LoadOptionParts.{LoadOptionParts}
use Rattle.uefi_path.specs.declared.path.DevicePath.{DevicePath}

-- The option of parts whose file path list starts with this path.
abbrev option_with : LoadOptionParts → List ℕ → List Node → List ℕ → LoadOption
option_with parts description nodes rest = record {
  attributes = attribute_bits parts.attributes;
  description = description;
  file_path = nodes;
  other_paths = rest;
  optional_data = parts.optional_data.now;
}

are_parts : (parts : LoadOptionParts) (nodes : List Node) → attribute_bits parts.attributes < 2 ^ 32
    → IsDescription (description_units parts.description) → length parts.file_path_list.now ≤ 65535
    → IsPath nodes → IsPrefix (joined nodes) parts.file_path_list.now → ArePartsOfOption parts
are_parts parts nodes fits (description, nonzero, units) short path (rest, split) = (
  option_with parts description nodes rest,
  record {
    attributes = fits;
    description = nonzero;
    file_path = path;
    file_path_list = omega (arith, short, ap length split);
  },
  record { attributes = refl; description = sym units; file_path_list = sym split; optional_data = refl },
)

-- Whether a description and a list that isn't too long are parts of an option depends on the path.
pub path_decides : {E : Type 0} (parts : LoadOptionParts) → attribute_bits parts.attributes < 2 ^ 32
    → IsDescription (description_units parts.description) → length parts.file_path_list.now ≤ 65535
    → (read : Result DevicePath E) → ReadsPath path_nodes parts.file_path_list.now read
    → (result : Bool) → result ≡ is_ok read → IsTrue result ↔ ArePartsOfOption parts
path_decides parts fits is_description short (Ok path) reads result is =
    ((λ _. are_parts parts (path_nodes path) fits is_description short reads.ok.0 reads.ok.1), λ _. is)
path_decides parts fits is_description short (Err error) reads result is = (
  (λ so. let none : result ≡ true = so in absurd (cc)),
  λ (option, is_option, has).
      absurd (reads.err (option.file_path, is_option.file_path, (option.other_paths, sym has.file_path_list))),
)

-- The bytes of parts.
abbrev pub parts_bytes : LoadOptionParts → List ℕ
parts_bytes parts = u32_bytes (attribute_bits parts.attributes) ++ (u16_bytes (length parts.file_path_list.now)
    ++ (unit_bytes (description_units parts.description) ++ (parts.file_path_list.now ++ parts.optional_data.now)))

-- They are those of the option that has the parts.
same_layout : {a b : ℕ} {d e l m x y : List ℕ} → a ≡ b → d ≡ e → l ≡ m → x ≡ y
    → u32_bytes a ++ (u16_bytes (length l) ++ (unit_bytes d ++ (l ++ x)))
    ≡ u32_bytes b ++ (u16_bytes (length m) ++ (unit_bytes e ++ (m ++ y)))
same_layout attributes description list optional =
    λ i. u32_bytes (attributes i) ++ (u16_bytes (length (list i))
    ++ (unit_bytes (description i) ++ (list i ++ optional i)))

pub option_bytes : (parts : LoadOptionParts) (option : LoadOption) → HasParts parts option
    → load_option_bytes option ≡ parts_bytes parts
unfolding load_option_bytes
option_bytes parts option has = same_layout has.attributes has.description has.file_path_list has.optional_data

pub length-parts_bytes : (parts : LoadOptionParts) → length (parts_bytes parts) ≡ parts_size parts
length-parts_bytes parts =
    let units = unit_bytes (description_units parts.description) in
    let rest = parts.file_path_list.now ++ parts.optional_data.now in
    omega (
      arith,
      units_read_back.sized (description_units parts.description),
      length-append units rest,
      length-append parts.file_path_list.now parts.optional_data.now,
    )

sized : (parts : LoadOptionParts) (option : LoadOption) → HasParts parts option
    → length (load_option_bytes option) ≡ parts_size parts
sized parts option has = ap length (option_bytes parts option has) ∙ length-parts_bytes parts

-- Five parts that were put one after another are put as one.
pub five_put : (a b c d e old after_a after_b after_c after_d after_e : List ℕ) (from_b from_c from_d from_e : ℕ)
    → from_e ≤ length old → length a ≡ from_b → from_b + length b ≡ from_c → from_c + length c ≡ from_d
    → from_d + length d ≡ from_e → after_a ≡ put_at 0 a old → after_b ≡ put_at from_b b after_a
    → after_c ≡ put_at from_c c after_b → after_d ≡ put_at from_d d after_c → after_e ≡ put_at from_e e after_d
    → after_e ≡ put_prefix (a ++ (b ++ (c ++ (d ++ e)))) old
five_put a b c d e old after_a after_b after_c after_d after_e from_b from_c from_d from_e room sized_a sized_b sized_c
    sized_d put_a put_b put_c put_d put_e =
    let sized_ab = length-append a b ∙ ap (λ n. n + length b) sized_a ∙ sized_b in
    let sized_abc = length-append (a ++ b) c ∙ ap (λ n. n + length c) sized_ab ∙ sized_c in
    let sized_abcd = length-append (a ++ b ++ c) d ∙ ap (λ n. n + length d) sized_abc ∙ sized_d in
    let has_a = put_first a a old after_a refl put_a in
    let has_b = put_more from_b a b b old after_a after_b has_a sized_a (omega (arith, room)) refl put_b in
    let has_c = put_more from_c (a ++ b) c c old after_b after_c has_b sized_ab (omega (arith, room)) refl put_c in
    let has_d = put_more from_d (a ++ b ++ c) d d old after_c after_d has_c sized_abc (omega (arith, room)) refl put_d in
    let has_e = put_more from_e (a ++ b ++ c ++ d) e e old after_d after_e has_d sized_abcd room refl put_e in
    has_e ∙ ap (λ part. put_prefix part old)
    (append_assoc (a ++ b ++ c) d e ∙ append_assoc (a ++ b) c (d ++ e) ∙ append_assoc a b (c ++ (d ++ e)))

-- So are the parts of an option.
pub option_put : (parts : LoadOptionParts) (old new : List ℕ) → ArePartsOfOption parts
    → new ≡ put_prefix (parts_bytes parts) old → IsOptionPut parts old new
option_put parts old new (option, is, has) put =
    (option, is, has, put ∙ ap (λ part. put_prefix part old) (sym (option_bytes parts option has)))

-- An option with these parts, in memory of its length: these are its bytes.
pub option_filled : (parts : LoadOptionParts) (len : ℕ) (old new rest : List ℕ) → length old ≡ parts_size parts
    → len ≡ parts_size parts → IsOptionPut parts old new
    → (option : LoadOption) × IsEncodingOfOption (take len (new ++ rest)) option × HasParts parts option
option_filled parts len old new rest room long (option, is, has, put) =
    let whole = sized parts option has in
    (option, record { is = is; encoded = filled (parts_size parts) len _ old new rest whole room long put }, has)

-- An option with the bytes of one that has these parts has them as well.
pub same_parts : (parts : LoadOptionParts) (option other : LoadOption) → IsLoadOption option → IsLoadOption other
    → load_option_bytes other ≡ load_option_bytes option → HasParts parts option → HasParts parts other
same_parts parts option other is is_other same has =
    subst (HasParts parts) (one_load_option option other is is_other (sym same)) has

-- Equal bytes are one option.
pub same_option : (option other : LoadOption) (bytes : List ℕ) → IsLoadOption option → load_option_bytes option ≡ bytes
    → IsEncodingOfOption bytes other → option ≡ other
same_option option other bytes is encoded whole = one_load_option option other is whole.is (encoded ∙ whole.encoded)

-- Whatever is read of the bytes of an option is that option, and parts are those of one option.
reads_back : (option : LoadOption) → IsLoadOption option → (read : Result LoadOptionView LoadOptionError)
    → ReadsLoadOption load_option_of (load_option_bytes option) read
    → MatchResult read (λ view. load_option_of view ≡ option) (λ _. ⊥)
reads_back option is (Ok view) reads = one_load_option _ option reads.ok.0 is (sym reads.ok.1)
reads_back option is (Err error) reads = absurd (reads.none (option, is, refl))

one_option : (parts : LoadOptionParts) (option other : LoadOption) → IsLoadOption option → IsLoadOption other
    → HasParts parts option → HasParts parts other → option ≡ other
one_option parts option other is is_other has has_other =
    one_load_option option other is is_other (option_bytes parts option has ∙ sym (option_bytes parts other has_other))

pub written_options : WrittenOptions
written_options = record { reads_back = reads_back; one_option = one_option; sized = sized }
