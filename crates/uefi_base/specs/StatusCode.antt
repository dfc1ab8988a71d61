-- The codes of statuses (UEFI 2.10, Appendix D).
use Rattle.std.specs.Prelude.{ℕ, ◌+◌, ◌^◌}
use Rattle.uefi_base.specs.declared.status.Status.{Status}
use Rattle.uefi_base.specs.declared.status.Status.TheVariants.{INVALID_PARAMETER, BAD_BUFFER_SIZE, BUFFER_TOO_SMALL, OUT_OF_RESOURCES}

-- The number of the error, with bit 63, which is set in the code of every error.
abbrev pub status_code : Status → ℕ
status_code INVALID_PARAMETER = 2 ^ 63 + 2
status_code BAD_BUFFER_SIZE = 2 ^ 63 + 4
status_code BUFFER_TOO_SMALL = 2 ^ 63 + 5
status_code OUT_OF_RESOURCES = 2 ^ 63 + 9
