-- What callers learn of configurations.
use Rattle.std.specs.Prelude.{◌≡◌, ◌≢◌, ◌==◌, ◌&&◌, ℕ, List, Option, Result, Err, option_map, length, filter, is_ok, is_err}
use Rattle.std.specs.List.{find}
use Rattle.uefi_hii.specs.declared.configuration.ConfigurationString.{ConfigurationString}
use Rattle.uefi_hii.specs.declared.error.ParseError.{ParseError}
use Rattle.uefi_hii.specs.declared.error.ParseError.TheVariants.{Memory}
use Rattle.uefi_hii.specs.Configuration.{Configuration}
use Rattle.uefi_hii.specs.Laws.{BeginsWith}
use Rattle.uefi_hii.specs.Pairs.{Pair}
use Rattle.uefi_hii.specs.Views.{result_of}

-- The bytes of the first element that has this offset and this width, if there is one.
abbrev pub value_at : ℕ → ℕ → Configuration → Option (List ℕ)
value_at offset width c = option_map (λ e. e.value) (find (λ e. e.offset == offset && e.width == width) c.elements)

-- How many of the results are configurations, and how many are errors.
abbrev pub AreCounts : ℕ × ℕ → List (Result Configuration ParseError) → Type 0
AreCounts counts results = (counts.0 ≡ length (filter is_ok results)) × (counts.1 ≡ length (filter is_err results))

-- Unless memory ran out, the item is the result of each group that the pairs begin with.
abbrev pub IsOnlyResult : {A : Type 0} → List Pair → Result (ConfigurationString A) ParseError → Type 0
IsOnlyResult pairs item =
    item ≢ Err Memory → (group : List Pair) (result : Result Configuration ParseError)
    → BeginsWith pairs group result → result_of item ≡ result
