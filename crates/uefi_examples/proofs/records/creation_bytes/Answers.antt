use Rattle.std.proofs.Common.{◌≡◌, ◌+◌, ◌<◌, ◌≤◌, ℕ, List, [], ◌∷◌, ◌++◌, length, take, drop, refl, sym, ap, ◌∙◌, arith}
use Rattle.std.specs.Prelude.{slice_range}
use Rattle.std.proofs.lemmas.Grind.{common_steps}
use Rattle.std.proofs.lemmas.List.{append-nil, length-append, length-drop, length-take}
use Rattle.uefi_base.specs.LittleEndian.{AreBytes}
use Rattle.uefi_base.specs.Unaligned.{units_of}
use Rattle.uefi_records.specs.time.Fields.{TimeFields, time_bytes, time_in}
use Rattle.uefi_records.specs.file.FileInfo.{file_info_verdict}
use Rattle.uefi_records.specs.file.Name.{first_zero}
use Rattle.uefi_records.specs.file.Verdict.{accepted, judged}
use Rattle.uefi_examples.proofs.NamedRecords.{has_name, has_none}
use Rattle.uefi_examples.proofs.Results.{ok_is}
use Rattle.uefi_examples.proofs.records.creation_bytes.Goals as goal

-- A time has sixteen bytes.
length-time : (time : TimeFields) → length (time_bytes time) ≡ 16
unfolding time_bytes
length-time time = refl

-- A list is a prefix of itself with nothing after it.
nothing_after : (whole part rest : List ℕ) → length part ≡ length whole → whole ≡ part ++ rest → part ≡ whole
nothing_after whole part [] sized split = sym (split ∙ append-nil part)
nothing_after whole part (x ∷ rest) sized split =
    absurd (omega (arith, sized, ap length split, length-append part (x ∷ rest)))

-- A name has bytes, so a record that was accepted has all fields before its name.
name_left : (rest name : List ℕ) (room : ℕ)
    → judged 80 8 (units_of rest) room (first_zero (units_of rest)) ≡ accepted name → 0 < length rest
name_left [] name room is = cc
name_left (x ∷ rest) name room is = omega arith

fields_within : (bytes name : List ℕ) (written : ℕ)
    → file_info_verdict (take written bytes) (length bytes) ≡ accepted name → 80 ≤ length bytes
fields_within bytes name written is =
    omega (
      arith,
      name_left (drop 80 (take written bytes)) name (length bytes) is,
      length-drop 80 (take written bytes),
      length-take written bytes,
    )

-- A range within bytes has its length, and is bytes.
length-range : (bytes : List ℕ) (offset n : ℕ) → offset + n ≤ length bytes
    → length (slice_range bytes offset (offset + n)) ≡ n
length-range bytes offset n within = grind (arith, common_steps)

AreBytes-range : (bytes : List ℕ) (offset n : ℕ) → AreBytes bytes → AreBytes (slice_range bytes offset n)
AreBytes-range bytes offset n each k = grind (arith, common_steps, each)

pub returns-clause-bytes : goal.returns-clause-bytes
returns-clause-bytes c =
    let bytes : List ℕ = c.args.buffer.now in
    let part : List ℕ = slice_range bytes 24 40 in
    let read = ok_is c.from_uefi.result c.in_ok-info.info c.in_ok-info.ensures.value in
    let verdict = rw read at c.from_uefi.ensures.verdict in
    let fields = rw read at c.from_uefi.ensures.fields in
    let sized : length part ≡ 16 = length-range bytes 24 16
    (omega (arith, fields_within bytes _ c.args.written verdict)) in
    let each : AreBytes bytes = λ i. omega (arith, c.type_inv.buffer i) in
    let stands = c.times_read_back.ensures.read part (AreBytes-range bytes 24 40 each) (omega (arith, sized)) in
    c.to_bytes.ensures.bytes ∙ ap time_bytes
    (c.create_time.ensures ∙ ap (λ all. all.create_time) fields)
    ∙ nothing_after part (time_bytes (time_in part)) stands.1.0 (length-time (time_in part) ∙ sym sized) stands.1.1

pub returns-clause-accepted : goal.returns-clause-accepted
returns-clause-accepted c = λ _. has_name _ _ c.from_uefi.result c.in_ok-info.info c.from_uefi.ensures.verdict
    c.in_ok-info.ensures.value

pub returns-in_err-info-clause-found : goal.returns-in_err-info-clause-found
returns-in_err-info-clause-found c =
    λ name is. absurd (has_none _ _ c.from_uefi.result name c.from_uefi.ensures.verdict c.in_err-info.ensures.value is)
