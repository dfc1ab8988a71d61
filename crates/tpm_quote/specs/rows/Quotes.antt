-- Worked rows of the definitions: the bytes of a quote without PCRs, those of a selection, and which PCRs it selects.
use Rattle.std.specs.Prelude.{◌≡◌, [], ◌∷◌, true}
use Rattle.tpm_quote.specs.PcrSelection.{PcrSelection, selection_bytes, selected_pcrs}
use Rattle.tpm_quote.specs.Quote.{Quote, quote_bytes}

-- The PCRs 0, 7, 8 and 23 of the bank of SHA-256.
abbrev pub four_pcrs : PcrSelection
four_pcrs = record { algorithm = 0x0b; bitmap = 0x81 ∷ 0x01 ∷ 0x80 ∷ [] }

-- A quote of them, with a nonce of two bytes.
abbrev pub small_quote : Quote
small_quote = record {
  qualified_signer = 0xaa ∷ [];
  extra_data = 0xbb ∷ 0xcc ∷ [];
  clock_info = record { clock = 0x0102; reset_count = 3; restart_count = 4; safe = true };
  firmware_version = 0x0506;
  pcr_selections = four_pcrs ∷ [];
  pcr_digest = 0xdd ∷ [];
}

pub record RowsHold : Type 0 where
  pub selection : selection_bytes four_pcrs ≡ 0x00 ∷ 0x0b ∷ 3 ∷ 0x81 ∷ 0x01 ∷ 0x80 ∷ []
  pub pcrs : selected_pcrs four_pcrs ≡ 0 ∷ 7 ∷ 8 ∷ 23 ∷ []
  pub quote : quote_bytes small_quote
      ≡ 0xff ∷ 0x54 ∷ 0x43 ∷ 0x47 ∷ 0x80 ∷ 0x18 ∷ 0 ∷ 1 ∷ 0xaa ∷ 0 ∷ 2 ∷ 0xbb ∷ 0xcc
      ∷ 0 ∷ 0 ∷ 0 ∷ 0 ∷ 0 ∷ 0 ∷ 1 ∷ 2 ∷ 0 ∷ 0 ∷ 0 ∷ 3 ∷ 0 ∷ 0 ∷ 0 ∷ 4 ∷ 1
      ∷ 0 ∷ 0 ∷ 0 ∷ 0 ∷ 0 ∷ 0 ∷ 5 ∷ 6 ∷ 0 ∷ 0 ∷ 0 ∷ 1 ∷ 0x00 ∷ 0x0b ∷ 3 ∷ 0x81 ∷ 0x01 ∷ 0x80 ∷ 0 ∷ 1 ∷ 0xdd ∷ []
