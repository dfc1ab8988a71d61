-- Signature databases (UEFI 2.10, 32.4.1 "Signature Database"), as cursors give them.
use Rattle.std.specs.Prelude.{ℕ, ◌≡◌, List}
use Rattle.tcg_event.specs.Signature.{Signature, SignatureList, IsSignatureList, list_bytes, signatures_bytes}
use Rattle.uefi_c.specs.Cursor.{Stands}
use Rattle.uefi_c.specs.declared.event_data.signature.UefiSignature.{UefiSignature}
use Rattle.uefi_c.specs.declared.event_data.signature.UefiSignatureList.{UefiSignatureList}

-- A call gives a list as its type, its header, the size of its signatures, and their bytes.
pub record IsGivenAs (list : SignatureList) (seen : UefiSignatureList) : Type 0 where
  pub kind : seen.signature_type ≡ list.kind
  pub header : seen.header.now ≡ list.header
  pub size : seen.signature_size ≡ list.size
  pub signatures : seen.signatures.now ≡ signatures_bytes list

-- A list, which is given so, stands there.
pub record IsNextList (bytes : List ℕ) (start : ℕ) (seen : UefiSignatureList) (end : ℕ) : Type 0 where
  pub list : SignatureList
  pub is_list : IsSignatureList list
  pub given : IsGivenAs list seen
  pub stands : Stands (list_bytes list) bytes start end

abbrev pub signature_seen : UefiSignature → Signature
signature_seen seen = record { owner = seen.owner; payload = seen.value.now }
