-- The signature of a partition by its type and its bytes.
use Rattle.std.proofs.Common.{◌≡◌, ◌≢◌, ◌⊎◌, inl, inr, ℕ, Bool, true, false, not, ◌&&◌, ◌||◌, List, [], ◌∷◌, ◌++◌, length, take, drop, refl, sym, ap, subst, ◌∙◌, arith, length-drop, take-append-drop}
use Rattle.std.proofs.Math.Dec.{eqb}
use Rattle.std.proofs.lemmas.Bool.{eqb-true}
use Rattle.std.proofs.lemmas.Bool.Decides.{eqb_tells}
use Rattle.std.specs.Prelude.{if◌then◌else◌, slice_index, slice_range}
use Rattle.uefi_base.specs.LittleEndian.{u32_at, u32_bytes, u64_at, u64_bytes}
use Rattle.uefi_base.proofs.NumbersBack.{length-range}
use Rattle.uefi_node.proofs.Signatures.{sixteen_zeros}
use Rattle.uefi_node.specs.Layout.{fields_bytes}
use Rattle.uefi_node.specs.Media.{hard_drive}
use Rattle.uefi_node.specs.private.Fields.{HasValue}
use Rattle.uefi_node.specs.Signature.{are_zero, four_zeros, is_defined, is_signature, type_of_signature, signature_bytes}
use Rattle.uefi_node.specs.declared.media.partition_signature.PartitionSignature.{PartitionSignature}
use Rattle.uefi_node.specs.declared.media.partition_signature.PartitionSignature.TheVariants.{None, Mbr, Guid, Unknown}
use Rattle.uefi_c.specs.Nodes.{defined_signature, hard_drive_seen, signature_seen}
use Rattle.uefi_c.specs.declared.nodes.hard_drive.UefiHardDriveNode.{UefiHardDriveNode}

-- The signature has this type and these bytes, and isn't unknown if the standard defines it.
pub record IsSignature (kind : ℕ) (bytes : List ℕ) (signature : PartitionSignature) : Type 0 where
  pub same_type : type_of_signature signature ≡ kind
  pub same_bytes : signature_bytes signature ≡ bytes
  pub known : is_signature signature ≡ true

-- What is true of one of two, of which the other is false.
first_of : (a : Bool) → (a || false) ≡ true → a ≡ true
first_of true so = refl
first_of false so = so

third_of : (a b c x y : Bool) → a ≡ false → b ≡ false → ((a && x) || (b && y) || c) ≡ true → c ≡ true
third_of false false c x y no_a no_b so = so
third_of true b c x y no_a no_b so = absurd cc
third_of false true c x y no_a no_b so = absurd cc

-- Zeros are no signature.
none_is : (bytes : List ℕ) → length bytes ≡ 16 → is_defined 0 bytes ≡ true → IsSignature 0 bytes None
none_is bytes sized so =
    record { same_type = refl; same_bytes = sym (sixteen_zeros bytes sized (first_of _ (first_of _ so))); known = refl }

-- Four bytes and zeros are those of a master boot record.
mbr_is : (bytes : List ℕ) → length bytes ≡ 16 → is_defined 1 bytes ≡ true → IsSignature 1 bytes (Mbr (take 4 bytes))
mbr_is bytes sized so =
    let rest : List ℕ = drop 4 bytes in
    let long : length (four_zeros ++ rest) ≡ 16 = omega (arith, length-drop 4 bytes, sized) in
    let all = sixteen_zeros (four_zeros ++ rest) long (first_of (are_zero rest) so) in
    let zeros : rest ≡ four_zeros ++ four_zeros ++ four_zeros = ap (drop 4) all in
    record {
      same_type = refl;
      same_bytes = ap (λ after. take 4 bytes ++ after) (sym zeros) ∙ take-append-drop 4 bytes;
      known = refl;
    }

-- A signature that the standard defines.
other_is : (kind : ℕ) (bytes : List ℕ) → (eqb kind 0 ≡ false) × (kind ≢ 0)
    → ((eqb kind 1 ≡ true) × (kind ≡ 1)) ⊎ ((eqb kind 1 ≡ false) × (kind ≢ 1)) → length bytes ≡ 16
    → is_defined kind bytes ≡ true → IsSignature kind bytes (defined_signature kind bytes)
other_is kind bytes no_none (inl (so, is)) sized defined =
    subst (λ k. is_defined k bytes ≡ true → IsSignature k bytes (defined_signature k bytes)) (sym is)
    (mbr_is bytes sized) defined
other_is kind bytes (no_zero, no_none) (inr (no_one, no_mbr)) sized defined =
    let is_two : eqb kind 2 ≡ true =
    third_of (eqb kind 0) (eqb kind 1) (eqb kind 2) (are_zero bytes) (are_zero (drop 4 bytes)) no_zero no_one defined in
    let two : kind ≡ 2 = eqb-true kind 2 is_two in
    let guid : PartitionSignature = Guid (record { 0 = bytes }) in
    let is : defined_signature kind bytes ≡ guid =
    λ i. if no_zero i then None else (if no_one i then Mbr (take 4 bytes) else guid) in
    subst (IsSignature kind bytes) (sym is) (record { same_type = sym two; same_bytes = refl; known = refl })

defined_is : (kind : ℕ) (bytes : List ℕ) → ((eqb kind 0 ≡ true) × (kind ≡ 0)) ⊎ ((eqb kind 0 ≡ false) × (kind ≢ 0))
    → length bytes ≡ 16 → is_defined kind bytes ≡ true → IsSignature kind bytes (defined_signature kind bytes)
defined_is kind bytes (inl (so, is)) sized defined =
    subst (λ k. is_defined k bytes ≡ true → IsSignature k bytes (defined_signature k bytes)) (sym is)
    (none_is bytes sized) defined
defined_is kind bytes (inr other) sized defined = other_is kind bytes other (eqb_tells kind 1) sized defined

-- The same of any type and 16 bytes.
seen_is : (kind : ℕ) (bytes : List ℕ) (defined : Bool) → is_defined kind bytes ≡ defined → length bytes ≡ 16
    → IsSignature kind bytes (if defined then defined_signature kind bytes else Unknown kind bytes)
seen_is kind bytes true so sized = defined_is kind bytes (eqb_tells kind 0) sized so
seen_is kind bytes false so sized = record { same_type = refl; same_bytes = refl; known = ap not so }

pub signature_is : (kind : ℕ) (bytes : List ℕ) → length bytes ≡ 16 → IsSignature kind bytes (signature_seen kind bytes)
signature_is kind bytes sized = seen_is kind bytes (is_defined kind bytes) refl sized

-- Bytes with the fields of a partition have its value.
pub drive_has : (seen : UefiHardDriveNode) (b : List ℕ) → length b ≡ 38 → seen.partition_number ≡ u32_at b 0
    → seen.partition_start ≡ u64_at b 4 → seen.partition_size ≡ u64_at b 12
    → seen.partition_signature ≡ slice_range b 20 36 → seen.partition_format ≡ slice_index b 36
    → seen.signature_type ≡ slice_index b 37 → HasValue hard_drive (hard_drive_seen seen) b
drive_has seen b sized number start size signature format kind =
    let long : length seen.partition_signature ≡ 16 = ap length signature ∙ length-range b 20 16 (omega (arith, sized)) in
    let is = signature_is seen.signature_type seen.partition_signature long in
    record {
      fields = (number, (start, (size, (is.same_bytes ∙ signature, (format, (is.same_type ∙ kind, tt))))));
      rest = tt;
      value = is.known;
      form = tt;
    }

-- The bytes of its fields.
pub drive_bytes : (seen : UefiHardDriveNode) → length seen.partition_signature ≡ 16
    → u32_bytes seen.partition_number ++ (u64_bytes seen.partition_start ++ (u64_bytes seen.partition_size
    ++ (seen.partition_signature ++ (seen.partition_format ∷ seen.signature_type ∷ []))))
    ≡ fields_bytes hard_drive.fields (hard_drive_seen seen)
drive_bytes seen sized =
    let is = signature_is seen.signature_type seen.partition_signature sized in
    λ i. u32_bytes seen.partition_number ++ (u64_bytes seen.partition_start ++ (u64_bytes seen.partition_size
    ++ (sym is.same_bytes i ++ (seen.partition_format ∷ sym is.same_type i ∷ []))))
