-- What a TPM signs when it quotes PCRs (TPM 2.0 Library, Part 2, TPMS_ATTEST with TPMS_QUOTE_INFO).
use Rattle.std.specs.Prelude.{ℕ, ◌<◌, ◌^◌, Bool, true, false, List, ◌∷◌, ◌++◌, length}
use Rattle.std.specs.List.{flat_map, AllByRecursion}
use Rattle.tpm_quote.specs.BigEndian.{u16_bytes, u32_bytes, u64_bytes, sized_bytes}
use Rattle.tpm_quote.specs.PcrSelection.{PcrSelection, IsPcrSelection, selection_bytes}

-- The clock of the TPM (TPMS_CLOCK_INFO).
pub record ClockInfo : Type 0 where
  pub clock : ℕ
  pub reset_count : ℕ
  pub restart_count : ℕ
  pub safe : Bool

pub record IsClockInfo (clock_info : ClockInfo) : Type 0 where
  pub clock : clock_info.clock < 2 ^ 64
  pub reset_count : clock_info.reset_count < 2 ^ 32
  pub restart_count : clock_info.restart_count < 2 ^ 32

-- A quote: the qualified name of the key that signs, the nonce, the clock, the version of the firmware, the selections
-- of PCRs, and the digest of their values.
pub record Quote : Type 0 where
  pub qualified_signer : List ℕ
  pub extra_data : List ℕ
  pub clock_info : ClockInfo
  pub firmware_version : ℕ
  pub pcr_selections : List PcrSelection
  pub pcr_digest : List ℕ

-- Each number, each size and the number of selections fits its bytes.
pub record IsQuote (quote : Quote) : Type 0 where
  pub qualified_signer : length quote.qualified_signer < 2 ^ 16
  pub extra_data : length quote.extra_data < 2 ^ 16
  pub clock_info : IsClockInfo quote.clock_info
  pub firmware_version : quote.firmware_version < 2 ^ 64
  pub pcr_selections : AllByRecursion IsPcrSelection quote.pcr_selections
  pub count : length quote.pcr_selections < 2 ^ 32
  pub pcr_digest : length quote.pcr_digest < 2 ^ 16

-- The magic of what a TPM makes (TPM_GENERATED_VALUE), and the type of a quote (TPM_ST_ATTEST_QUOTE).
abbrev pub generated_value : ℕ
generated_value = 0xff54_4347

abbrev pub attest_quote : ℕ
attest_quote = 0x8018

-- The byte of a TPMI_YES_NO.
abbrev pub yes_no : Bool → ℕ
yes_no false = 0
yes_no true = 1

-- The layout, in three parts. The first: the magic, the type, the qualified name, the nonce, and the clock up to its
-- byte `safe`.
unfoldable pub before_safe : Quote → List ℕ
before_safe quote = u32_bytes generated_value ++ (u16_bytes attest_quote ++ (sized_bytes quote.qualified_signer
    ++ (sized_bytes quote.extra_data ++ (u64_bytes quote.clock_info.clock ++ (u32_bytes quote.clock_info.reset_count
    ++ u32_bytes quote.clock_info.restart_count)))))

-- The first, this byte, and the version of the firmware.
unfoldable pub before_selections : Quote → List ℕ
before_selections quote =
    before_safe quote ++ (yes_no quote.clock_info.safe ∷ u64_bytes quote.firmware_version)

-- All: these, the number of selections, the selections, and the digest.
unfoldable pub quote_bytes : Quote → List ℕ
quote_bytes quote = before_selections quote ++ (u32_bytes (length quote.pcr_selections)
    ++ (flat_map selection_bytes quote.pcr_selections ++ sized_bytes quote.pcr_digest))
