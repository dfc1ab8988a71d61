-- What callers of `from_str` learn of the cut.
use Rattle.std.proofs.Common.{◌≡◌, List, [], ◌∷◌, sym, ap}
use Rattle.std.specs.Prelude.{Some, Ok, slice_get}
use Rattle.uefi_hii.specs.declared.configuration.ConfigurationString.{ConfigurationString}
use Rattle.uefi_hii.specs.Cut.{Part, results_of}
use Rattle.uefi_hii.specs.Reading.{IsFirstResult}
use Rattle.uefi_hii.specs.Views.{configuration_of}

-- The first result of the cut is the configuration that was returned.
pub first_is : {A : Type 0} (parts : List Part) (c : ConfigurationString A) → IsFirstResult {A = A} parts (Ok c)
    → slice_get (results_of parts) 0 ≡ Some (Ok (configuration_of c))
first_is [] c first = cc
first_is (part ∷ parts) c first = ap Some (sym first)
