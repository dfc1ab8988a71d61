-- Laws of paths and load options.
use Rattle.std.specs.Prelude.{◌≡◌, ℕ, List, [], ◌∷◌, ◌++◌, length, Result, MatchResult}
use Rattle.uefi_path.specs.LoadOption.{LoadOption, IsLoadOption, ReadsLoadOption, load_option_bytes}
use Rattle.uefi_path.specs.LoadOptionParts.{HasParts, parts_size}
use Rattle.uefi_path.specs.LoadOptionViews.{load_option_of}
use Rattle.uefi_path.specs.Node.{Node, joined, IsEndEntire, end_entire}
use Rattle.uefi_base.specs.Prefix.{IsPrefix}
use Rattle.uefi_path.specs.Path.{IsPath, AreBefore}
use Rattle.uefi_path.specs.declared.load_option.LoadOption.{LoadOption as LoadOptionView}
use Rattle.uefi_path.specs.declared.load_option_error.LoadOptionError.{LoadOptionError}
use Rattle.uefi_path.specs.declared.load_option_parts.LoadOptionParts.{LoadOptionParts}

-- No path is a proper prefix of another: paths that start the same bytes are equal, and so are the bytes after them.
abbrev pub NoProperPrefix : Type 0
NoProperPrefix =
    (p q : List Node) (x y : List ℕ) → IsPath p → IsPath q → joined p ++ x ≡ joined q ++ y → (p ≡ q) × (x ≡ y)

-- A path followed by any bytes starts with that path, and with no other.
abbrev pub ReadsBack : Type 0
ReadsBack = (p q : List Node) (x : List ℕ) → IsPath p → IsPath q → IsPrefix (joined q) (joined p ++ x) → q ≡ p

-- Both laws hold.
pub record OneFront : Type 0 where
  pub no_proper_prefix : NoProperPrefix
  pub reads_back : ReadsBack

-- Nodes none of which is end-entire, and then an end-entire node, are a path, and bytes that start with their encodings
-- start with this path, and with no other.
pub record IsBuiltPath (nodes : List Node) : Type 0 where
  pub path : IsPath (nodes ++ end_entire ∷ [])
  pub reads_back : (q : List Node) (x : List ℕ) → IsPath q → IsPrefix (joined q) (joined (nodes ++ end_entire ∷ []) ++ x)
      → q ≡ nodes ++ end_entire ∷ []

abbrev pub BuiltPaths : Type 0
BuiltPaths = (nodes : List Node) → AreBefore IsEndEntire nodes → IsBuiltPath nodes

-- The bytes of a load option are read, and as that option.
abbrev pub OptionsReadBack : Type 0
OptionsReadBack = (option : LoadOption) → IsLoadOption option → (read : Result LoadOptionView LoadOptionError)
    → ReadsLoadOption load_option_of (load_option_bytes option) read
    → MatchResult read (λ view. load_option_of view ≡ option) (λ _. ⊥)

-- Parts are those of at most one load option.
abbrev pub OneOptionOfParts : Type 0
OneOptionOfParts = (parts : LoadOptionParts) (option other : LoadOption) → IsLoadOption option → IsLoadOption other
    → HasParts parts option → HasParts parts other → option ≡ other

-- The length of an option is that of its parts.
abbrev pub PartsHaveSize : Type 0
PartsHaveSize = (parts : LoadOptionParts) (option : LoadOption) → HasParts parts option
    → length (load_option_bytes option) ≡ parts_size parts

-- All laws hold: so what is written is read back, and what was read is written again with the same bytes.
pub record WrittenOptions : Type 0 where
  pub reads_back : OptionsReadBack
  pub one_option : OneOptionOfParts
  pub sized : PartsHaveSize
