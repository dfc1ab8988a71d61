-- How signatures of a database are shown.
use Rattle.std.specs.Prelude.{ℕ, List, Option, Some, None, codes, if◌then◌else◌}
use Rattle.std.specs.Str.{bytes_eq}
use Rattle.tcg_event.specs.declared.signature.signature_type.TheConstants.SignatureType.{SHA1, SHA256, SHA384, SHA512, RSA2048, X509, X509_SHA256}

-- The longest data of a signature that are shown whole: a hash of 64 bytes, with the time of a revocation.
abbrev pub longest_hash : ℕ
longest_hash = 80

-- What the signatures of a type are (UEFI 2.10, 32.4.1, "Signature Database").
unfoldable pub signature_type_name : List ℕ → Option (List ℕ)
signature_type_name kind =
    if bytes_eq kind X509.0.0 then Some (codes "X.509 certificates")
    else if bytes_eq kind SHA256.0.0 then Some (codes "SHA-256 hashes")
    else if bytes_eq kind SHA1.0.0 then Some (codes "SHA-1 hashes")
    else if bytes_eq kind SHA384.0.0 then Some (codes "SHA-384 hashes")
    else if bytes_eq kind SHA512.0.0 then Some (codes "SHA-512 hashes")
    else if bytes_eq kind RSA2048.0.0 then Some (codes "RSA-2048 keys")
    else if bytes_eq kind X509_SHA256.0.0 then Some (codes "SHA-256 hashes of X.509 certificates, and times")
    else None
