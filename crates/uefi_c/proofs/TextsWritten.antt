-- Texts that writers take in several calls.
use Rattle.std.proofs.Common.{◌≡◌, ℕ, ◌+◌, ◌≤◌, List, [], ◌∷◌, ◌++◌, length, refl, sym, ap, ◌∙◌, arith, subst, IfSome}
use Rattle.std.proofs.lemmas.List.{append-nil}
use Rattle.std.proofs.Common.{length-append, append_assoc}
use Rattle.std.specs.Prelude.{Option, Some, None}
use Rattle.std.specs.List.{FoldsTo, concat}
use Rattle.std.specs.Fmt.{WritesText}
use Rattle.uefi_base.specs.Buffer.{put_prefix}
use Rattle.uefi_base.proofs.Parts.{put_more}
use Rattle.uefi_c.specs.declared.text_writer.Count.{Count}
use Rattle.uefi_c.specs.declared.text_writer.Fill.{Fill}
use Rattle.uefi_c.specs.private.TextWriters.{Counts, Fills}
use Rattle.uefi_c.proofs.Utf8Puts.{HasText, same_length}

count_more : (old new : Count) (parts : List (List ℕ)) → FoldsTo Counts old parts new
    → new.length ≡ old.length + length (concat parts)
count_more old new [] same = omega (arith, ap (λ (c : Count). c.length) same)
count_more old new (part ∷ parts) more =
    omega (arith, more.1, count_more more.0 new parts more.2, length-append part (concat parts))

pub text_counted : (old new : Count) (text : Option (List ℕ)) → old.length ≡ 0 → WritesText Counts old text new
    → IfSome text (λ bytes. new.length ≡ length bytes)
text_counted old new None start writes = tt
text_counted old new (Some bytes) start writes =
    omega (arith, start, count_more old new writes.parts writes.calls, ap length writes.whole)

hold_more : (text start : List ℕ) (old new : Fill) (parts : List (List ℕ)) → FoldsTo Fills old parts new
    → HasText text start old.buffer.now old.length
    → HasText (text ++ concat parts) start new.buffer.now new.length
hold_more text start old new [] same has =
    subst (λ (t : List ℕ). HasText t start new.buffer.now new.length) (sym (append-nil text))
    (subst (λ (f : Fill). HasText text start f.buffer.now f.length) same has)
hold_more text start old new (part ∷ parts) more has =
    let next = more.0 in let fills = more.1 in
    let room : length (text ++ part) ≤ length start
    = omega (arith, length-append text part, has.sized, fills.room, same_length text start old.buffer.now old.length has) in
    let has_next : HasText (text ++ part) start next.buffer.now next.length = record {
      sized = length-append text part ∙ omega (arith, has.sized, fills.length);
      within = room;
      put = put_more old.length text part part start old.buffer.now next.buffer.now has.put has.sized
          (omega (arith, has.sized, has.within)) refl fills.put;
    } in
    subst (λ (t : List ℕ). HasText t start new.buffer.now new.length) (append_assoc text part (concat parts))
    (hold_more (text ++ part) start next new parts more.2 has_next)

same_buffers : (old new : Fill) (parts : List (List ℕ)) → FoldsTo Fills old parts new
    → new.buffer.ghost_name ≡ old.buffer.ghost_name
same_buffers old new [] same = ap (λ (f : Fill). f.buffer.ghost_name) (sym same)
same_buffers old new (part ∷ parts) more = same_buffers more.0 new parts more.2 ∙ more.1.same_buffer

pub text_filled : (old new : Fill) (last : List ℕ) (text : Option (List ℕ)) → old.length ≡ 0
    → (old.buffer.ghost_name ≡ new.buffer.ghost_name → last ≡ new.buffer.now)
    → WritesText Fills old text new → IfSome text (λ bytes. last ≡ put_prefix bytes old.buffer.now)
text_filled old new last None start back writes = tt
text_filled old new last (Some bytes) start back writes =
    let held = hold_more [] old.buffer.now old new writes.parts writes.calls
    (record { sized = sym start; within = omega arith; put = refl }) in
    back (sym (same_buffers old new writes.parts writes.calls))
    ∙ subst (λ (t : List ℕ). new.buffer.now ≡ put_prefix t old.buffer.now) writes.whole held.put
