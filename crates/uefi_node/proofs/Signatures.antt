-- Signatures that are all zero.
use Rattle.std.proofs.Common.{◌≡◌, ℕ, zero, suc, not, ◌||◌, take, arith, length-append, List, [], ◌∷◌, ◌++◌, length, replicate, true, false, ◌&&◌, ◌∙◌, refl, sym, ap}
use Rattle.std.proofs.Math.Dec.{eqb-suc-zero}
use Rattle.std.proofs.lemmas.List.{take_at, drop_at}
use Rattle.uefi_node.specs.Laws.{OneSignature}
use Rattle.uefi_node.specs.Signature.{are_zero, four_zeros, is_defined, is_signature, type_of_signature, signature_bytes}
use Rattle.uefi_node.specs.declared.media.partition_signature.PartitionSignature.{PartitionSignature}
use Rattle.uefi_node.specs.declared.media.partition_signature.PartitionSignature.TheVariants.{None, Mbr, Guid, Unknown}

-- The first of zero bytes is zero, and so are the others.
zero_then : (x : ℕ) (xs : List ℕ) → are_zero (x ∷ xs) ≡ true → (x ≡ 0) × (are_zero xs ≡ true)
zero_then zero xs all = (refl, all)
zero_then (suc n) xs all =
    let never : false ≡ true = sym (ap (λ b. b && are_zero xs) (eqb-suc-zero n)) ∙ all in absurd cc

-- Zero bytes are as many zeros.
zeros : (s : List ℕ) → are_zero s ≡ true → s ≡ replicate (length s) 0
zeros [] all = refl
zeros (x ∷ xs) all = let split = zero_then x xs all in λ i. split.0 i ∷ zeros xs split.1 i

pub sixteen_zeros : (s : List ℕ) → length s ≡ 16 → are_zero s ≡ true
    → s ≡ four_zeros ++ four_zeros ++ four_zeros ++ four_zeros
sixteen_zeros s sized all = zeros s all ∙ ap (λ n. replicate n 0) sized

-- Three times four zeros.
abbrev twelve_zeros : List ℕ
twelve_zeros = four_zeros ++ four_zeros ++ four_zeros

-- A signature that the standard defines isn't unknown.
mbr_is_known : (bytes other : List ℕ) (kind : ℕ) → length bytes ≡ 4 → 1 ≡ kind
    → bytes ++ (four_zeros ++ four_zeros ++ four_zeros) ≡ other → not (is_defined kind other) ≡ true → ⊥
mbr_is_known bytes other kind sized same_type same_bytes its =
    let after = drop_at bytes (four_zeros ++ four_zeros ++ four_zeros) 4 sized in
    let never : false ≡ true = (λ i. not ((true && are_zero (sym after i)) || false))
    ∙ (λ i. not (is_defined (same_type i) (same_bytes i))) ∙ its in absurd cc

not_unknown : (a : PartitionSignature) (kind : ℕ) (bytes : List ℕ) → length (signature_bytes a) ≡ 16
    → type_of_signature a ≡ kind → signature_bytes a ≡ bytes → not (is_defined kind bytes) ≡ true
    → is_signature a ≡ true → a ≡ Unknown kind bytes
not_unknown None kind bytes sized same_type same_bytes its own =
    let never : false ≡ true = (λ i. not (is_defined (same_type i) (same_bytes i))) ∙ its in absurd cc
not_unknown (Mbr four) kind bytes sized same_type same_bytes its own =
    absurd (mbr_is_known four bytes kind (omega (arith, sized, length-append four twelve_zeros)) same_type same_bytes its)
not_unknown (Guid guid) kind bytes sized same_type same_bytes its own =
    let never : false ≡ true = (λ i. not (is_defined (same_type i) (same_bytes i))) ∙ its in absurd cc
not_unknown (Unknown own_kind own_bytes) kind bytes sized same_type same_bytes its own =
    λ i. Unknown (same_type i) (same_bytes i)

-- A type and 16 bytes are those of one signature.
pub one_signature : OneSignature
one_signature None None own its sized long same_type same_bytes = refl
one_signature None (Mbr four) own its sized long same_type same_bytes = absurd (omega (arith, same_type))
one_signature None (Guid guid) own its sized long same_type same_bytes = absurd (omega (arith, same_type))
one_signature (Mbr four) None own its sized long same_type same_bytes = absurd (omega (arith, same_type))
one_signature (Mbr four) (Mbr other) own its sized long same_type same_bytes =
    let first : length four ≡ 4 = omega (arith, sized, length-append four twelve_zeros) in
    let second : length other ≡ 4 = omega (arith, long, length-append other twelve_zeros) in
    let same : four ≡ other = sym (take_at four twelve_zeros 4 first) ∙ ap (take 4) same_bytes ∙ take_at other twelve_zeros 4 second in
    ap Mbr same
one_signature (Mbr four) (Guid guid) own its sized long same_type same_bytes = absurd (omega (arith, same_type))
one_signature (Guid guid) None own its sized long same_type same_bytes = absurd (omega (arith, same_type))
one_signature (Guid guid) (Mbr four) own its sized long same_type same_bytes = absurd (omega (arith, same_type))
one_signature (Guid guid) (Guid other) own its sized long same_type same_bytes = λ i. Guid (record { 0 = same_bytes i })
one_signature a (Unknown kind bytes) own its sized long same_type same_bytes =
    not_unknown a kind bytes sized same_type same_bytes its own
one_signature (Unknown kind bytes) b own its sized long same_type same_bytes =
    sym (not_unknown b kind bytes long (sym same_type) (sym same_bytes) own its)
