-- The line that says why the input was refused.
use Rattle.std.specs.Prelude.{ℕ, List, ◌++◌, codes}
use Rattle.boot_listing.specs.declared.command.Form.{Form}
use Rattle.boot_listing.specs.declared.command.Form.TheVariants.{Lines, Json}

-- A line with the fault alone, or an object with it.
unfoldable pub refusal_line : Form → List ℕ → List ℕ
refusal_line Lines fault = fault ++ codes "\n"
refusal_line Json fault = codes "{\"fault\":\"" ++ fault ++ codes "\"}\n"
