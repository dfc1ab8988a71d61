-- The worked rows hold.
use Rattle.std.proofs.Common.{refl}
use Rattle.sm3.specs.Rows.{RowsHold}
use Rattle.sm3.specs.Sm3.{cf, rounds, sm3, value_after, words}

pub rows_hold : RowsHold
unfolding cf rounds sm3 value_after words
rows_hold = record { three_bytes = refl; one_block = refl; empty = refl }
