-- No float is in a value that is put together of values without one.
use Rattle.std.specs.Prelude.{◌≡◌, ◌||◌, ℕ, Bool, true, false, List, refl, if◌then◌else◌}
use Rattle.std.proofs.Common.{ap}
use Rattle.std.specs.Cmp.Lexicographic.{slice_cmp}
use Rattle.std.specs.Ordering.{match_ordering, nat_cmp}
use Rattle.std.specs.declared.cmp.Ordering.{Ordering}
use Rattle.std.specs.declared.cmp.Ordering.TheVariants.{Less, Equal, Greater}
use Rattle.serde_json.specs.Data.{Data, Members, no_members, member, put}
use Rattle.serde_json.specs.Written.{has_float, members_have_float}

pub neither : (one other : Bool) → one ≡ false → other ≡ false → (one || other) ≡ false
neither false other first second = second
neither true other first second = first

first_of : (one other : Bool) → (one || other) ≡ false → one ≡ false
first_of false other none = refl
first_of true other none = none

second_of : (one other : Bool) → (one || other) ≡ false → other ≡ false
second_of false other none = none
second_of true other none = ap (λ one. if one then other else false) none

by_order : (order : Ordering) (one other third : Members) → members_have_float one ≡ false → members_have_float other ≡ false
    → members_have_float third ≡ false → members_have_float (match_ordering order one other third) ≡ false
by_order Less one other third first second last = first
by_order Equal one other third first second last = second
by_order Greater one other third first second last = last

pub none_in_put : (key : List ℕ) (value : Data) (members : Members) → has_float value ≡ false → members_have_float members ≡ false
    → members_have_float (put key value members) ≡ false
none_in_put key value no_members none before = neither (has_float value) false none refl
none_in_put key value (member other it rest) none before =
    let first = first_of (has_float it) (members_have_float rest) before in
    let more = second_of (has_float it) (members_have_float rest) before in
    by_order (slice_cmp nat_cmp key other) (member key value (member other it rest)) (member other value rest)
    (member other it (put key value rest)) (neither (has_float value) _ none before) (neither (has_float value) _ none more)
    (neither (has_float it) _ first (none_in_put key value rest none more))
