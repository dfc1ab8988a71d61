-- What `{:02}` and its counterparts write of a number.
use Rattle.std.proofs.Common.{◌≡◌, ℕ, ◌-◌, ◌^◌, [], append-nil, false}
use Rattle.std.proofs.Math.Nat.{sub-zero}
use Rattle.std.specs.Fmt.{decimal, format_spec, padded_integral, char_count}
use Rattle.uefi_listing.specs.Time.{with_zeros}

-- Zeros up to the width, and the digits.
pub padded_integral-zeros : (width n : ℕ)
    → padded_integral (format_spec 32 0 4 width (2 ^ 64 - 1)) false [] (decimal n) ≡ with_zeros width n
unfolding padded_integral char_count
padded_integral-zeros width n = simp (append-nil, sub-zero)
