use Rattle.std.proofs.Common.{List, ℕ, subst}
use Rattle.std.specs.Fmt.{HasWritten}
use Rattle.std.specs.List.{flat_map}
use Rattle.std.proofs.lemmas.List.{take_all}
use Rattle.shown.specs.Name.{shown_byte}
use Rattle.shown.proofs.name.write_bytes.Goals as goal

pub returns : goal.returns
returns g c =
    λ plain ok. subst (λ (written : List ℕ). HasWritten g.W.Write.write_str_gives c.args.f.now (flat_map shown_byte written)
    c.loop-byte.f) (take_all c.loop-byte.byte-index c.args.bytes.now c.loop-byte-test.false) (c.loop-byte.invariant plain)
