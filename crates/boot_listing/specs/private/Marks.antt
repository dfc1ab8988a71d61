-- Marks of boot options, by their numbers.
use Rattle.std.specs.Prelude.{◌≡◌, ◌<◌, ◌^◌, ℕ, Bool, false, List, length, get_or}
use Rattle.boot_listing.specs.Variables.{has_number}

-- The options that are marked are those with the numbers.
pub record AreMarks (numbers : List ℕ) (marks : List Bool) : Type 0 where
  pub count : length marks ≡ 2 ^ 16
  pub each : (number : ℕ) → number < 2 ^ 16 → get_or marks number false ≡ has_number numbers number
