use Rattle.std.proofs.Common.{◌≡◌, ◌%◌, ◌^◌, length, arith, refl, rules}
use Rattle.std.proofs.lemmas.Slice.{overwrites}
use Rattle.sm3.proofs.Absorbing.{Holds_full, Holds_short, take_filled}
use Rattle.sm3.proofs.hasher.Sm3.absorb.Goals as goal

pub returns-then-end-eq-BLOCK_LENGTH : goal.returns-then-end-eq-BLOCK_LENGTH
returns-then-end-eq-BLOCK_LENGTH c = λ m held.
    let counted : c.args.self.now.total ≡ length m % 2 ^ 64 = held.counted in
    Holds_full c.args.self.now _ m c.args.part.now _ held (omega arith) refl c.compress-self.ensures
    (search (rules, overwrites))
    (take_filled c.args.self.now.block c.args.part.now _ (length m % 64) _ _ (omega arith) (omega arith)
    c.copy_from_slice.ensures.after)

pub returns-else-end-eq-BLOCK_LENGTH : goal.returns-else-end-eq-BLOCK_LENGTH
returns-else-end-eq-BLOCK_LENGTH c = λ m held.
    let counted : c.args.self.now.total ≡ length m % 2 ^ 64 = held.counted in
    Holds_short c.args.self.now _ m c.args.part.now held (omega arith) refl refl
    (take_filled c.args.self.now.block c.args.part.now _ (length m % 64) _ _ (omega arith) (omega arith)
    c.copy_from_slice.ensures.after)
