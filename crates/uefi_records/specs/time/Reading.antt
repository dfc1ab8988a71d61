-- What reading a time from bytes returns.
use Rattle.std.specs.Prelude.{◌≡◌, ◌≢◌, ℕ, ◌<◌, List, length, Result, IfOk, IfErr}
use Rattle.uefi_records.specs.declared.time.error.TimeByteConversionError.{TimeByteConversionError}
use Rattle.uefi_records.specs.declared.time.error.TimeByteConversionError.TheVariants.{InvalidFields, InvalidSize}
use Rattle.uefi_records.specs.time.Fields.{TimeFields, StandsIn, time_length, without_pads}
use Rattle.uefi_records.specs.time.Faults.{reading_faults, no_fault}

-- There are too few bytes; or the time in the first sixteen has faults, and the error names them.
abbrev pub RefusesTime : List ℕ → TimeByteConversionError → Type 0
RefusesTime bytes InvalidSize = length bytes < time_length
RefusesTime bytes (InvalidFields faults) = (time : TimeFields) × StandsIn time bytes × (faults ≡ reading_faults time)
    × (faults ≢ no_fault)

-- Ok has the time in the first sixteen bytes, with zeros in its padding, and it has no fault; Err says why there is
-- none.
pub record ReadsTime {V : Type 0} (time_of : V → TimeFields) (bytes : List ℕ)
    (read : Result V TimeByteConversionError) : Type 0 where
  pub ok : IfOk read (λ view. (time : TimeFields) × StandsIn time bytes × (time_of view ≡ without_pads time)
      × (reading_faults time ≡ no_fault))
  pub err : IfErr read (RefusesTime bytes)
