-- Parts that are written one after another.
use Rattle.std.proofs.Common.{◌≡◌, ℕ, ◌+◌, ◌<◌, ◌≤◌, List, [], ◌++◌, length, get_or, take, drop, replicate, sym, ◌∙◌, ap, arith, length-append, take-append-drop, Bor}
use Rattle.std.proofs.lemmas.Grind.{common_steps, flat_map-append}
use Rattle.std.proofs.lemmas.List.{flat_map_more, take_more, length-replicate}
use Rattle.std.specs.List.{flat_map}
use Rattle.uefi_base.specs.Buffer.{put_at}
use Rattle.uefi_base.proofs.Parts.{put_next}

-- The bytes of the first parts.
abbrev pub first_parts : ℕ → List (Bor (List ℕ)) → List ℕ
first_parts i parts = flat_map (λ part. part.now) (take i parts)

-- Those of one part more.
one_more : (i : ℕ) (parts : List (Bor (List ℕ))) (d : Bor (List ℕ)) → i < length parts
    → first_parts i parts ++ (get_or parts i d).now ≡ first_parts (i + 1) parts
one_more i parts d within =
    flat_map_more (λ part. part.now) [] (take i parts) (get_or parts i d)
    ∙ ap (λ some. flat_map (λ part. part.now) some) (sym (take_more parts i d within))

-- They are among the bytes of all.
first_within : (i : ℕ) (parts : List (Bor (List ℕ))) → length (first_parts i parts) ≤ length (flat_map (λ part. part.now) parts)
first_within i parts =
    let all : first_parts i parts ++ flat_map (λ part. part.now) (drop i parts) ≡ flat_map (λ part. part.now) parts =
    sym (flat_map-append (λ part. part.now) (take i parts) (drop i parts))
    ∙ ap (λ some. flat_map (λ part. part.now) some) (take-append-drop i parts) in
    omega (arith, ap length all, length-append (first_parts i parts) (flat_map (λ part. part.now) (drop i parts)))

-- There is room for the next part after the first ones.
pub next_fits : (i end n : ℕ) (parts : List (Bor (List ℕ))) (d : Bor (List ℕ)) (bytes : List ℕ) → i < length parts
    → length (flat_map (λ part. part.now) parts) ≡ n → end ≡ length (first_parts i parts)
    → bytes ≡ put_at 0 (first_parts i parts) (replicate n 0) → end + length (get_or parts i d).now ≤ length bytes
next_fits i end n parts d bytes within sized ends is =
    let more = ap length (one_more i parts d within) in
    let room = first_within (i + 1) parts in
    let long : length (put_at 0 (first_parts i parts) (replicate n 0)) ≡ n =
    let here = first_within i parts in grind (arith, common_steps) in
    omega (arith, ap length is, long, more, room, sized, ends, length-append (first_parts i parts) (get_or parts i d).now)

-- With it the parts are those of one more.
pub next_put : (i end n : ℕ) (parts : List (Bor (List ℕ))) (d : Bor (List ℕ)) (bytes next : List ℕ) → i < length parts
    → length (flat_map (λ part. part.now) parts) ≡ n → end ≡ length (first_parts i parts)
    → bytes ≡ put_at 0 (first_parts i parts) (replicate n 0) → next ≡ put_at end (get_or parts i d).now bytes
    → (end + length (get_or parts i d).now ≡ length (first_parts (i + 1) parts))
    × (next ≡ put_at 0 (first_parts (i + 1) parts) (replicate n 0))
next_put i end n parts d bytes next within sized ends is put =
    let part : List ℕ = (get_or parts i d).now in
    let more = one_more i parts d within in
    let here = first_within i parts in
    let room : 0 + length (first_parts i parts) ≤ length (replicate n 0) = omega (arith, here, sized, length-replicate {A = ℕ} n 0) in (
      omega (arith, ends, ap length more, length-append (first_parts i parts) part),
      put ∙ (λ k. put_at (ends k) part (is k))
          ∙ ap (λ at. put_at at part (put_at 0 (first_parts i parts) (replicate n 0))) (omega arith)
          ∙ put_next 0 (first_parts i parts) part (replicate n 0) room
          ∙ ap (λ joined. put_at 0 joined (replicate n 0)) more,
    )
