-- The names of hash algorithms in JSON (TCG Algorithm Registry, `TPM_ALG_ID`, in lower case).
use Rattle.std.specs.Prelude.{ℕ, ◌==◌, List, Option, Some, None, codes, if◌then◌else◌}
use Rattle.uefi_tcg.specs.declared.algorithm_id.TheConstants.AlgorithmId.{SHA1, SHA256, SHA384, SHA512, SM3_256, SHA3_256, SHA3_384, SHA3_512}

unfoldable pub algorithm_name : ℕ → Option (List ℕ)
algorithm_name number =
    if number == SHA1.0 then Some (codes "sha1")
    else if number == SHA256.0 then Some (codes "sha256")
    else if number == SHA384.0 then Some (codes "sha384")
    else if number == SHA512.0 then Some (codes "sha512")
    else if number == SM3_256.0 then Some (codes "sm3_256")
    else if number == SHA3_256.0 then Some (codes "sha3_256")
    else if number == SHA3_384.0 then Some (codes "sha3_384")
    else if number == SHA3_512.0 then Some (codes "sha3_512")
    else None
