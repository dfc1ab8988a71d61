-- Parts that are written into a buffer one after another.
use Rattle.std.proofs.Common.{◌≡◌, ℕ, ◌+◌, ◌≤◌, List, [], ◌++◌, length, take, drop, true, refl, ◌∙◌, ap, arith}
use Rattle.std.specs.Prelude.{nat_le}
use Rattle.std.proofs.lemmas.Bool.Decides.{nat_tests}
use Rattle.std.proofs.lemmas.Grind.{common_steps}
use Rattle.std.proofs.lemmas.List.{same_lists, places, length-append}
use Rattle.uefi_base.specs.Buffer.{put_at, put_prefix}

-- Writing a part and then one that starts at its end is writing both as one part.
pub put_next : (offset : ℕ) (part more bytes : List ℕ) → offset + length part ≤ length bytes
    → put_at (offset + length part) more (put_at offset part bytes) ≡ put_at offset (part ++ more) bytes
put_next offset part more bytes within =
    same_lists _ _ (grind (arith, common_steps)) (λ k d within_both. grind (arith, places))

-- Writing a part at offset 0 replaces the first bytes.
put_at-zero : (part bytes : List ℕ) → put_at 0 part bytes ≡ put_prefix part bytes
put_at-zero part bytes = let plain : 0 + length part ≡ length part = omega arith in ap (λ n. part ++ drop n bytes) plain

-- Writing the first part of a record, which equals the value.
pub put_first : (part value bytes next : List ℕ) → part ≡ value → next ≡ put_at 0 part bytes
    → next ≡ put_prefix value bytes
put_first part value bytes next known is = is ∙ put_at-zero part bytes ∙ ap (λ p. put_prefix p bytes) known

-- Writing the next part of a record after those that are done.
pub put_more : (offset : ℕ) (done part value bytes now next : List ℕ) → now ≡ put_prefix done bytes
    → length done ≡ offset → offset ≤ length bytes → part ≡ value → next ≡ put_at offset part now
    → next ≡ put_prefix (done ++ value) bytes
put_more offset done part value bytes now next so_far sized within known is =
    is ∙ (λ i. put_at offset (known i) (so_far i))
    ∙ same_lists _ _ (grind (arith, common_steps)) (λ k d within_both. grind (arith, places))

-- A buffer, whose room is tested once for all parts, with the first ones written; then one part more, or bytes that
-- are left as they were.
pub record HasPut (room offset : ℕ) (done old now : List ℕ) : Type 0 where
  pub within : room ≤ length old
  pub sized : length done ≡ offset
  pub is : now ≡ put_prefix done old

pub none_put : (room : ℕ) (old : List ℕ) → room ≤ length old → HasPut room 0 [] old old
none_put room old within = record { within = within; sized = refl; is = refl }

pub then_put : {room offset : ℕ} {done part value old now next : List ℕ} → HasPut room offset done old now
    → (n : ℕ) → length value ≡ n → nat_le offset room ≡ true → part ≡ value
    → next ≡ put_at offset part now → HasPut room (offset + n) (done ++ value) old next
then_put {room} {offset} {done} {part} {value} {old} {now} {next} so_far n sized before known is =
    let reaches : offset ≤ length old = grind (arith, nat_tests, before, so_far.within) in
    record {
      within = so_far.within;
      sized = length-append done value ∙ (λ i. so_far.sized i + sized i);
      is = put_more offset done part value old now next so_far.is so_far.sized reaches known is;
    }

pub then_kept : {room offset : ℕ} {done old now : List ℕ} → HasPut room offset done old now → (n : ℕ)
    → nat_le (offset + n) room ≡ true → HasPut room (offset + n) (done ++ take n (drop offset old)) old now
then_kept {room} {offset} {done} {old} {now} so_far n before =
    let reaches : offset + n ≤ length old = grind (arith, nat_tests, before, so_far.within) in
    let begun = so_far.sized in
    record {
      within = so_far.within;
      sized = grind (arith, common_steps);
      is = so_far.is ∙ same_lists _ _ (grind (arith, common_steps)) (λ k d within_both. grind (arith, places));
    }
