use Rattle.std.proofs.Common.{rules, arith, ◌+◌, ◌*◌, ◌<◌}
use Rattle.uefi_hii.proofs.Numbers.{next_fits}
use Rattle.uefi_hii.proofs.values.ConfigurationString.parse_number_from_hex.Goals as goal

-- The number with another byte fits 64 bits.
fits : (c : goal.In-Some) → c.loop-byte.number * 256 + c.in-Some.byte < 18446744073709551616
fits c =
    next_fits c.args.text.now c.loop-byte.byte-iterator.rest.now _ c.loop-byte.number c.in-Some.byte (search rules)
    c.loop-byte.invariant c.in-Some.ensures.steps

pub overflow_mul-number : goal.overflow_mul-number
overflow_mul-number c = omega (arith, fits c)

pub overflow_add-number : goal.overflow_add-number
overflow_add-number c = record { fits = fits c }
