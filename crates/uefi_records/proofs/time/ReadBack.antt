-- Times and their bytes determine each other.
use Rattle.std.proofs.Common.{◌≡◌, ℕ, ℤ, ◌^◌, ◌<◌, ◌≤◌, List, ◌++◌, length, drop, refl, sym, ◌∙◌, ap, subst, arith}
use Rattle.std.specs.Prelude.{slice_index}
use Rattle.std.specs.Int.{w16, cast_signed, cast_unsigned}
use Rattle.std.proofs.lemmas.Int.{of_z-to_z}
use Rattle.std.proofs.lemmas.Nat.{from_le_bytes-to_le_bytes_2, from_le_bytes-to_le_bytes_4}
use Rattle.std.proofs.Math.Facts.{to_z-of_z, Fits-of_z, sfits_to_z}
use Rattle.uefi_base.specs.LittleEndian.{AreBytes, u16_at, u16_bytes, u32_at}
use Rattle.uefi_base.proofs.NumbersBack.{numbers_read_back}
use Rattle.uefi_base.proofs.Ranges.{items_from, drop-items_from}
use Rattle.uefi_records.specs.time.Fields.{TimeFields, Fits, StandsIn, time_bytes, time_in, time_length}
use Rattle.uefi_records.specs.Laws.{OneTime, TimesReadBack}

-- A time is read from its bytes, whatever follows them.
time_back : (time : TimeFields) (rest : List ℕ) → Fits time → time_in (time_bytes time ++ rest) ≡ time
unfolding time_bytes
time_back time rest fits =
    let year = from_le_bytes-to_le_bytes_2 time.year fits.year in
    let nanosecond = from_le_bytes-to_le_bytes_4 time.nanosecond fits.nanosecond in
    let zone = ap (cast_signed w16) (from_le_bytes-to_le_bytes_2 (cast_unsigned w16 time.zone)
    (Fits-of_z fits.zone).fits) ∙ to_z-of_z fits.zone in
    λ i. record time { year = year i; nanosecond = nanosecond i; zone = zone i }

-- Sixteen bytes, written out, are those of the time that is read from them.
sixteen_back : (bytes rest : List ℕ) → let whole = items_from 0 time_length bytes ++ rest in
    AreBytes whole → time_length ≤ length whole → StandsIn (time_in whole) whole
unfolding items_from time_bytes
sixteen_back bytes rest small long =
    let whole : List ℕ = items_from 0 time_length bytes ++ rest in
    let zone : ℕ = u16_at whole 12 in
    let zone_fits : zone < 2 ^ 16 = omega (arith, small 12, small 13) in
    let year_bytes = numbers_read_back.read.u16 whole 0 small (omega arith) in
    let nanosecond_bytes = numbers_read_back.read.u32 whole 8 small (omega arith) in
    let zone_bytes = ap u16_bytes (of_z-to_z w16 zone zone_fits)
    ∙ numbers_read_back.read.u16 whole 12 small (omega arith) in (
      record {
        year = omega (arith, small 0, small 1);
        month = small 2;
        day = small 3;
        hour = small 4;
        minute = small 5;
        second = small 6;
        first_pad = small 7;
        nanosecond = omega (arith, small 8, small 9, small 10, small 11);
        zone = sfits_to_z {w = w16} (record { fits = zone_fits });
        daylight = small 14;
        last_pad = small 15;
      },
      (
        rest,
        λ i. sym year_bytes i ++ items_from 2 6 bytes ++ sym nanosecond_bytes i ++ sym zone_bytes i
            ++ items_from 14 2 bytes ++ rest,
      ),
    )

pub stands_in : (bytes : List ℕ) → AreBytes bytes → time_length ≤ length bytes → StandsIn (time_in bytes) bytes
stands_in bytes small long =
    let whole : bytes ≡ items_from 0 time_length bytes ++ drop time_length bytes =
    drop-items_from 0 time_length time_length bytes refl long in
    subst (λ b. StandsIn (time_in b) b) (sym whole)
    (sixteen_back bytes (drop time_length bytes) (subst AreBytes whole small)
    (subst (λ b. time_length ≤ length b) whole long))

-- The same of a time whose fields are those, each by an equation.
pub made_stands_in : (bytes : List ℕ) (year nanosecond daylight : ℕ) (zone : ℤ) → AreBytes bytes
    → time_length ≤ length bytes → year ≡ u16_at bytes 0 → nanosecond ≡ u32_at bytes 8
    → zone ≡ cast_signed w16 (u16_at bytes 12) → daylight ≡ slice_index bytes 14
    → StandsIn (record (time_in bytes) { year = year; nanosecond = nanosecond; zone = zone; daylight = daylight }) bytes
made_stands_in bytes year nanosecond daylight zone small long year_is nanosecond_is zone_is daylight_is =
    rw (year_is, nanosecond_is, zone_is, daylight_is) (stands_in bytes small long)

pub times_read_back : TimesReadBack
times_read_back = record { written = time_back; read = stands_in }

pub one_time : OneTime
one_time one other bytes in_one in_other =
    sym (time_back one in_one.1.0 in_one.0) ∙ ap time_in (sym in_one.1.1 ∙ in_other.1.1)
    ∙ time_back other in_other.1.0 in_other.0
