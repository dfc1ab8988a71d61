-- What is found of each variable among the files of a folder.
use Rattle.std.specs.Prelude.{◌≡◌, ◌≤◌, ◌^◌, ℕ, List, [], ◌∷◌, length, get_or}
use Rattle.boot_listing.specs.Variables.{IsVariable, files_of}
use Rattle.boot_listing.specs.declared.variables.BootVariable.{BootVariable}
use Rattle.boot_listing.specs.declared.variables.BootVariable.TheVariants.{BootCurrent, BootOrder, BootOption}
use Rattle.boot_listing.specs.declared.variables.BootVariables.{BootVariables}
use Rattle.boot_listing.specs.declared.variables.Found.{Found}
use Rattle.boot_listing.specs.declared.variables.Found.TheVariants.{Nothing, Once, Twice}
use Rattle.boot_listing.specs.declared.variables.VariableFile.{VariableFile}

-- What is found of a variable that has these files.
abbrev pub IsFound : List (List ℕ) → Found → Type 0
IsFound files Nothing = files ≡ []
IsFound files (Once bytes) = files ≡ bytes.now ∷ []
IsFound files Twice = 2 ≤ length files

-- What is found of a variable.
abbrev pub found_of : {A : Type 0} → BootVariables A → BootVariable → Found
found_of found BootCurrent = found.current
found_of found BootOrder = found.order
found_of found (BootOption number) = get_or found.options.items number Nothing

-- All is found that the files have.
pub record Finds {A : Type 0} (files : List VariableFile) (found : BootVariables A) : Type 0 where
  pub count : length found.options.items ≡ 2 ^ 16
  pub each : (variable : BootVariable) → IsVariable variable → IsFound (files_of variable files) (found_of found variable)
