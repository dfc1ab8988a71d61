use Rattle.std.proofs.Common.{◌≡◌, ◌+◌, take, drop, add-one, ap, ◌∙◌, arith}
use Rattle.uefi_path_text.specs.parse.Arguments.{number_of, value_at, number_sum}
use Rattle.uefi_path_text.specs.private.Lists.{listed_of}
use Rattle.uefi_path_text.proofs.reading.ArgumentLists.{value_from, one_more_number}
use Rattle.uefi_path_text.proofs.parse.data.Listed.sum.Goals as goal

pub loop-i-preserved : goal.loop-i-preserved
loop-i-preserved c =
    let values = listed_of c.args.self.now in
    let more : number_sum (take (c.loop-i.i + 1) (drop c.args.index values))
    ≡ number_sum (take c.loop-i.i (drop c.args.index values)) + number_of (value_at c.loop-i.i (drop c.args.index values))
    = rw add-one (one_more_number c.loop-i.i (drop c.args.index values)) in
    let at = value_from c.args.index c.loop-i.i values in
    let place : c.from.result + c.from-in-loop-i.result ≡ c.args.index + c.loop-i.i = omega arith in
    let number : number_of (value_at (c.from.result + c.from-in-loop-i.result) values)
    ≡ number_of (value_at c.loop-i.i (drop c.args.index values)) =
    ap (λ n. number_of (value_at n values)) place ∙ ap number_of at in
    (omega (arith, more, number), omega arith)
