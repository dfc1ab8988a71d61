-- The pairs that are left, of which the next was cut.
use Rattle.std.proofs.Common.{◌≡◌, ℕ, List, [], ◌∷◌, sym}
use Rattle.std.specs.Prelude.{Option, Some, None, MatchOption}
use Rattle.std.specs.Borrow.{Bor}
use Rattle.uefi_hii.specs.Pairs.{Pair}
use Rattle.uefi_hii.specs.Views.{pair_view, pairs_from}

-- With the pair that was cut, the pairs are those before.
pub peeked_again : (next : Option (Bor (List ℕ) × Option (Bor (List ℕ)))) (before after : List Pair)
    → MatchOption next ((before ≡ []) × (after ≡ [])) (λ pair. before ≡ pair_view pair ∷ after)
    → pairs_from next after ≡ before
peeked_again None before after none = sym none.0
peeked_again (Some pair) before after first = sym first
