-- The names of banks.
use Rattle.std.proofs.Common.{refl}
use Rattle.std.specs.Prelude.{codes}
use Rattle.std.specs.Str.{IsUtf8, chars, is_utf8}
use Rattle.std.proofs.lemmas.Str.{IsUtf8-from_is_utf8}
use Rattle.pcr_replay.specs.declared.bank.Bank.{Bank}
use Rattle.pcr_replay.specs.declared.bank.Bank.TheVariants.{Sha1, Sha256, Sha384, Sha512, Sm3}
use Rattle.uefi_audits.specs.Naming.{bank_name}

-- The names of banks are texts.
pub name_is_text : (bank : Bank) → IsUtf8 (bank_name bank)
unfolding is_utf8 chars lib.Utf8.encode
name_is_text Sha1 = IsUtf8-from_is_utf8 (codes "sha1") refl
name_is_text Sha256 = IsUtf8-from_is_utf8 (codes "sha256") refl
name_is_text Sha384 = IsUtf8-from_is_utf8 (codes "sha384") refl
name_is_text Sha512 = IsUtf8-from_is_utf8 (codes "sha512") refl
name_is_text Sm3 = IsUtf8-from_is_utf8 (codes "sm3_256") refl
