-- The bytes of the groups on one side of a `::`.
use Rattle.std.proofs.Common.{◌≡◌, ◌≤◌, ◌+◌, ◌-◌, ℕ, List, [], ◌++◌, length, take, drop, replicate, arith, sym, ap, ◌∙◌, length-append, length-drop, take-append-drop, append-nil, append_assoc}
use Rattle.std.proofs.lemmas.List.{length-take-le, take_at, drop_at, drop-drop, drop_all, drop-replicate, take-replicate}
use lib.Seq.{take-append-add}
use Rattle.uefi_base.specs.Buffer.{put_at}
use Rattle.uefi_path_text.specs.parse.Ipv6.{with_gap}

-- More bytes are put after the first ones.
pub record HasMore (bytes more new : List ℕ) (len : ℕ) : Type 0 where
  pub first : take (len + length more) new ≡ take len bytes ++ more
  pub zeros : drop (len + length more) new ≡ replicate (16 - (len + length more)) 0
  pub long : length new ≡ 16

pub more_put : (bytes more new : List ℕ) (len : ℕ) → length bytes ≡ 16 → drop len bytes ≡ replicate (16 - len) 0
    → len + length more ≤ 16 → new ≡ put_at len more bytes → HasMore bytes more new len
more_put bytes more new len long zeros room is =
    let end : ℕ = len + length more in
    let front : List ℕ = take len bytes ++ more in
    let first : length (take len bytes) ≡ len = length-take-le len bytes (omega (arith, long, room)) in
    let both : length front ≡ end = omega (arith, first, length-append (take len bytes) more) in
    let left : (16 - len) - length more ≡ 16 - end = omega arith in
    let rest : drop end bytes ≡ replicate (16 - end) 0 =
    sym (drop-drop (length more) len bytes) ∙ ap (drop (length more)) zeros
    ∙ drop-replicate (length more) (16 - len) 0 ∙ ap (λ n. replicate n 0) left in
    record {
      first = ap (take end) is ∙ take_at front (drop end bytes) end both;
      zeros = ap (drop end) is ∙ drop_at front (drop end bytes) end both ∙ rest;
      long = ap length is ∙ omega (arith, both, long, room, length-append front (drop end bytes), length-drop end bytes);
    }

-- The bytes of the other side are put at the end.
pub end_put : (front back new : List ℕ) (len : ℕ) → length front ≡ 16 → len + length back ≤ 16
    → drop len front ≡ replicate (16 - len) 0 → new ≡ put_at (16 - length back) back front
    → new ≡ with_gap (take len front) back
end_put front back new len long room zeros is =
    let at : ℕ = 16 - length back in
    let gap : ℕ = 16 - (len + length back) in
    let first : length (take len front) ≡ len = length-take-le len front (omega (arith, long, room)) in
    let end : at ≡ len + gap = omega (arith, room) in
    let few : gap ≤ 16 - len = omega arith in
    let middle : take at front ≡ take len front ++ replicate gap 0 =
    ap (take at) (sym (take-append-drop len front) ∙ ap (λ l. take len front ++ l) zeros)
    ∙ ap (λ n. take n (take len front ++ replicate (16 - len) 0)) (end ∙ ap (λ n. n + gap) (sym first))
    ∙ take-append-add (take len front) (replicate (16 - len) 0) gap
    ∙ ap (λ l. take len front ++ l) (take-replicate gap (16 - len) 0 few) in
    let none : drop (at + length back) front ≡ [] = drop_all (at + length back) front (omega (arith, long, room)) in
    is ∙ ap (λ l. take at front ++ back ++ l) none ∙ append-nil (take at front ++ back)
    ∙ ap (λ l. l ++ back) middle ∙ append_assoc (take len front) (replicate gap 0) back
    ∙ ap (λ n. take len front ++ (replicate (16 - (n + length back)) 0 ++ back)) (sym first)
