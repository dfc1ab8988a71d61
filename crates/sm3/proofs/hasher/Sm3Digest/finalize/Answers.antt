use Rattle.std.proofs.Common.{◌≡◌, ◌*◌, ◌%◌, ◌^◌, ℕ, length, replicate, ap, arith, ◌∙◌}
use Rattle.std.proofs.lemmas.List.{take-replicate}
use Rattle.std.specs.Int.{to_be_bytes, w64}
use Rattle.sm3.proofs.Absorbing.{sm3_padded}
use Rattle.sm3.proofs.hasher.Sm3Digest.finalize.Goals as goal

pub returns : goal.returns
returns c = λ m held.
    let counted : c.args.self.total ≡ length m % 2 ^ 64 = held.counted in
    let padded = c.append-3.ensures _ (c.append-2.ensures _ (c.append.ensures m held)) in
    let count : c.args.self.total * 8 % 2 ^ 64 ≡ length m * 8 % 2 ^ 64 = omega arith in
    c.to_bytes.ensures ∙ sm3_padded c.append-3.new.self m _ _ padded
    (take-replicate _ 64 0 (omega arith) ∙ ap (λ (k : ℕ). replicate k 0) (omega arith))
    (c.to_be_bytes.ensures ∙ ap (to_be_bytes w64) count)
