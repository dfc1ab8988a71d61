-- Lists of signatures and signatures, at a cursor.
use Rattle.std.proofs.Common.{◌≡◌, ℕ, ◌+◌, ◌<◌, ◌≤◌, List, [], ◌∷◌, ◌++◌, length, take, drop, Option, Some, None, refl}
use Rattle.std.proofs.Common.{sym, ap, subst, ◌∙◌, arith, append-nil, append_assoc, length-append}
use Rattle.std.proofs.lemmas.List.{take_at, drop_at, drop-drop, length-drop, length-take-le, take-append-drop, nil_from_length}
use Rattle.std.proofs.lemmas.Nat.{from_le_bytes-to_le_bytes_4}
use Rattle.std.specs.Int.{w32, from_le_bytes}
use Rattle.uefi_base.specs.LittleEndian.{u32_at, u32_bytes}
use Rattle.uefi_base.specs.Prefix.{IsPrefix}
use Rattle.std.specs.Prelude.{IfSome, IfNone}
use Rattle.std.specs.Option.{option_map}
use Rattle.tcg_event.specs.Reading.{Reads}
use Rattle.tcg_event.specs.SignatureViews.{signature_of}
use Rattle.tcg_event.specs.declared.signature.signature_data.SignatureData.{SignatureData}
use Rattle.tcg_event.specs.Signature.{AreSignatureLists, HasSignatureList, HasSize, IsSignatureList, ReadsSignature, ReadsSignatureLists, Signature, SignatureList, list_bytes, list_size, lists_bytes, signature_bytes, signatures_bytes}
use Rattle.tcg_event.specs.private.Signatures.{bytes_and_rest, some_bytes}
use Rattle.tcg_event.proofs.SignatureBytes.{other_length, short_list}

-- What follows the type of a list, and each of its sizes.
abbrev after_size : SignatureList → List ℕ → List ℕ
after_size l x = (l.header ++ signatures_bytes l) ++ x

abbrev after_kind : SignatureList → List ℕ → List ℕ
after_kind l x = u32_bytes (list_size l) ++ (u32_bytes (length l.header) ++ (u32_bytes l.size ++ after_size l x))

-- A list states its length, and has it.
states_length : (l : SignatureList) (x : List ℕ) → IsSignatureList l → u32_at (list_bytes l ++ x) 16 ≡ list_size l
states_length l x is =
    ap (λ bs. from_le_bytes w32 (take 4 bs)) (ap (drop 16) (bytes_and_rest l x) ∙ drop_at l.kind (after_kind l x) 16 is.kind)
    ∙ from_le_bytes-to_le_bytes_4 (list_size l) is.whole

has_length : (l : SignatureList) → IsSignatureList l → length (list_bytes l) ≡ list_size l
unfolding list_bytes
has_length l is =
    length-append l.kind (u32_bytes (list_size l) ++ (u32_bytes (length l.header) ++ (u32_bytes l.size
    ++ (l.header ++ signatures_bytes l))))
    ∙ omega (arith, is.kind, length-append l.header (signatures_bytes l))

-- The part of the bytes that has the stated length.
module _ (bytes part : List ℕ) (part_is : part ≡ take (u32_at bytes 16) bytes) (within : u32_at bytes 16 ≤ length bytes) where
  sized : length part ≡ u32_at bytes 16
  sized = ap length part_is ∙ length-take-le (u32_at bytes 16) bytes within

  pub is_prefix : IsPrefix part bytes
  is_prefix = (
    drop (u32_at bytes 16) bytes,
    sym (ap (λ p. p ++ drop (u32_at bytes 16) bytes) part_is ∙ take-append-drop (u32_at bytes 16) bytes),
  )

  -- A list that the bytes begin with is that part.
  is_part : (l : SignatureList) (rest : List ℕ) → IsSignatureList l → bytes ≡ list_bytes l ++ rest → part ≡ list_bytes l
  is_part l rest is e =
      let stated : u32_at bytes 16 ≡ list_size l = ap (λ b. u32_at b 16) e ∙ states_length l rest is in
      part_is ∙ ap (take (u32_at bytes 16)) e
      ∙ take_at (list_bytes l) rest (u32_at bytes 16) (has_length l is ∙ sym stated)

  pub read_none : ReadsSignatureLists part None → ¬ HasSignatureList bytes
  unfolding Reads
  read_none none (l, is, (rest, e)) =
      none (l ∷ []) (is, tt) (is_part l rest is e ∙ sym (append-nil (list_bytes l)))

  pub no_first : (lists : List SignatureList) → ReadsSignatureLists part (Some lists) → lists ≡ [] → ¬ HasSignatureList bytes
  unfolding Reads
  no_first lists reads none (l, is, (rest, e)) =
      some_bytes l [] is (append-nil (list_bytes l) ∙ sym (is_part l rest is e) ∙ reads.1 ∙ ap lists_bytes none)

  -- The first of the lists that the part is has all of it.
  module _ (lists others : List SignatureList) (l : SignatureList) (reads : ReadsSignatureLists part (Some lists))
      (are : lists ≡ l ∷ others) where
    pub first_is : IsSignatureList l
    unfolding Reads
    first_is = (subst (λ ls. AreSignatureLists ls) are reads.0).0

    split : part ≡ list_bytes l ++ lists_bytes others
    unfolding Reads
    split = reads.1 ∙ ap lists_bytes are

    again : u32_at bytes 16 ≡ list_size l
    again =
        ap (λ b. u32_at b 16) (is_prefix.1 ∙ ap (λ p. p ++ is_prefix.0) split
        ∙ append_assoc (list_bytes l) (lists_bytes others) is_prefix.0)
        ∙ states_length l (lists_bytes others ++ is_prefix.0) first_is

    pub first_part : part ≡ list_bytes l
    first_part =
        let none : lists_bytes others ≡ [] = nil_from_length (lists_bytes others) (omega (
          arith,
          sized,
          again,
          has_length l first_is,
          ap length split,
          length-append (list_bytes l) (lists_bytes others),
        )) in
        split ∙ ap (λ o. list_bytes l ++ o) none ∙ append-nil (list_bytes l)

-- Bytes that are too few, or state a length that is too great, begin with no list.
pub short : (bytes : List ℕ) → length bytes < 28 → ¬ HasSignatureList bytes
short bytes few = short_list bytes few

pub long : (bytes : List ℕ) → length bytes < u32_at bytes 16 → ¬ HasSignatureList bytes
long bytes less = other_length bytes (u32_at bytes 16) refl (λ _ within. absurd (omega (arith, less, within)))

pub nothing : (bytes : List ℕ) → bytes ≡ [] → ¬ HasSignatureList bytes
nothing bytes none = short_list bytes (omega (arith, ap length none))

-- The parts of a list.
module _ (bytes : List ℕ) (l : SignatureList) (e : bytes ≡ list_bytes l) (is : length l.kind ≡ 16) where
  behind : drop 28 bytes ≡ l.header ++ signatures_bytes l
  behind = ap (drop 28) (e ∙ sym (append-nil (list_bytes l)) ∙ bytes_and_rest l [])
      ∙ sym (drop-drop 12 16 (l.kind ++ after_kind l []))
      ∙ ap (drop 12) (drop_at l.kind (after_kind l []) 16 is) ∙ append-nil (l.header ++ signatures_bytes l)

  pub room : 28 + length l.header ≤ length bytes
  room = omega (
    arith,
    ap length behind,
    length-drop 28 bytes,
    length-append l.header (signatures_bytes l),
    ap length (e ∙ sym (append-nil (list_bytes l)) ∙ bytes_and_rest l []),
    length-append l.kind (after_kind l []),
    is,
  )

  pub signatures_there : drop (length l.header) (drop 28 bytes) ≡ signatures_bytes l
  signatures_there = ap (drop (length l.header)) behind ∙ drop_at l.header (signatures_bytes l) (length l.header) refl

-- Signatures of a size.
module _ (rest part : List ℕ) (size : ℕ) (part_is : part ≡ take size rest) (within : size ≤ length rest) where
  has_size : (s : Signature) → ReadsSignature part (Some s) → HasSize size s
  unfolding Reads
  has_size s reads = record {
    owner = reads.0.owner;
    whole = ap length (sym reads.1) ∙ ap length part_is ∙ length-take-le size rest within;
  }

  there : (s : Signature) → ReadsSignature part (Some s) → IsPrefix (signature_bytes s) rest
  unfolding Reads
  there s reads = (
    drop size rest,
    sym (ap (λ p. p ++ drop size rest) (sym reads.1 ∙ part_is) ∙ take-append-drop size rest),
  )

  no_signature_there : ReadsSignature part None → (s : Signature) → HasSize size s → IsPrefix (signature_bytes s) rest → ⊥
  unfolding Reads
  no_signature_there none s has begins =
      none s (record { owner = has.owner })
      (part_is ∙ ap (take size) begins.1 ∙ take_at (signature_bytes s) begins.0 size has.whole)

  pub found_sized : (found : Option SignatureData) → ReadsSignature part (option_map signature_of found)
      → IfSome found (λ s. HasSize size (signature_of s))
  found_sized None reads = tt
  found_sized (Some s) reads = has_size (signature_of s) reads

  pub found_there : (found : Option SignatureData) → ReadsSignature part (option_map signature_of found)
      → IfSome found (λ s. IsPrefix (signature_bytes (signature_of s)) rest)
  found_there None reads = tt
  found_there (Some s) reads = there (signature_of s) reads

  pub none_found : (found : Option SignatureData) → ReadsSignature part (option_map signature_of found)
      → IfNone found ((s : Signature) → HasSize size s → IsPrefix (signature_bytes s) rest → ⊥)
  none_found (Some s) reads = tt
  none_found None reads = no_signature_there reads

pub no_rest : (rest : List ℕ) (size : ℕ) → rest ≡ [] → (s : Signature) → HasSize size s
    → IsPrefix (signature_bytes s) rest → ⊥
no_rest rest size none s has begins = absurd (omega (
  arith,
  ap length none,
  has.owner,
  ap length begins.1,
  length-append (signature_bytes s) begins.0,
  length-append s.owner s.payload,
))

pub some_signature_bytes : (size : ℕ) (s : Signature) → HasSize size s → 0 < length (signature_bytes s)
some_signature_bytes size s has = omega (arith, has.owner, length-append s.owner s.payload)
