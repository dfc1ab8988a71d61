use Rattle.std.proofs.Common.{◌<◌, ◌^◌, length, arith, ap}
use Rattle.uefi_path_text.proofs.Found.{seven_bytes}
use Rattle.uefi_path_text.proofs.write.bytes.+number.Goals as goal

pub overflow_mul-result : goal.overflow_mul-result
overflow_mul-result t c =
    let few : length c.in-Some.others.now < 8 = omega (arith, c.requires, ap length c.in-Some.ensures.cases.0) in
    let small : c.number.result < 2 ^ 56 = seven_bytes c.number.result (length c.in-Some.others.now) c.number.ensures.small (omega arith) in
    omega (arith, small)

pub overflow_add-result : goal.overflow_add-result
overflow_add-result t c =
    let few : length c.in-Some.others.now < 8 = omega (arith, c.requires, ap length c.in-Some.ensures.cases.0) in
    let small : c.number.result < 2 ^ 56 = seven_bytes c.number.result (length c.in-Some.others.now) c.number.ensures.small (omega arith) in
    omega (arith, small)
