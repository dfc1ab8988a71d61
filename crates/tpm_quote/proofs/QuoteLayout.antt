-- The layout of a quote as its header and its body, which follow one another.
use Rattle.std.proofs.Common.{◌≡◌, ℕ, List, [], ◌∷◌, ◌++◌, length, sym, ◌∙◌, ap, append_assoc}
use Rattle.tpm_quote.specs.BigEndian.{sized_bytes, u16_bytes, u32_bytes, u64_bytes}
use Rattle.tpm_quote.specs.Quote.{ClockInfo, Quote, attest_quote, before_safe, before_selections, generated_value, quote_bytes, yes_no}
use Rattle.tpm_quote.proofs.ClockBytes.{before_safe_byte, clock_bytes}
use Rattle.tpm_quote.proofs.QuoteBytes.{body_bytes}
use Rattle.tpm_quote.proofs.SelectionBytes.{selections_bytes}

-- The magic and the type, and what follows them.
abbrev pub header_then : List ℕ → List ℕ
header_then x = u32_bytes generated_value ++ (u16_bytes attest_quote ++ x)

-- Seven parts and a rest.
seven : (a b c d e f g rest : List ℕ) → (a ++ (b ++ (c ++ (d ++ (e ++ (f ++ g)))))) ++ rest
    ≡ a ++ (b ++ (c ++ (d ++ (e ++ (f ++ (g ++ rest))))))
seven a b c d e f g rest = simp append_assoc

pub before_safe_then : (q : Quote) (rest : List ℕ) → before_safe q ++ rest ≡ header_then
    (sized_bytes q.qualified_signer ++ (sized_bytes q.extra_data ++ before_safe_byte q.clock_info rest))
unfolding before_safe
before_safe_then q rest = seven (u32_bytes generated_value) (u16_bytes attest_quote) (sized_bytes q.qualified_signer)
    (sized_bytes q.extra_data) (u64_bytes q.clock_info.clock) (u32_bytes q.clock_info.reset_count)
    (u32_bytes q.clock_info.restart_count) rest

-- A clock, and what follows it.
three : (a b c d rest : List ℕ) → (a ++ (b ++ (c ++ d))) ++ rest ≡ a ++ (b ++ (c ++ (d ++ rest)))
three a b c d rest = simp append_assoc

pub clock_then : (c : ClockInfo) (rest : List ℕ) → clock_bytes c ++ rest ≡ before_safe_byte c (yes_no c.safe ∷ rest)
clock_then c rest =
    three (u64_bytes c.clock) (u32_bytes c.reset_count) (u32_bytes c.restart_count) (yes_no c.safe ∷ []) rest

pub before_selections_then : (q : Quote) (rest : List ℕ) → before_selections q ++ rest ≡ header_then
    (sized_bytes q.qualified_signer ++ (sized_bytes q.extra_data ++ (clock_bytes q.clock_info
    ++ (u64_bytes q.firmware_version ++ rest))))
unfolding before_selections
before_selections_then q rest =
    append_assoc (before_safe q) (yes_no q.clock_info.safe ∷ u64_bytes q.firmware_version) rest
    ∙ before_safe_then q (yes_no q.clock_info.safe ∷ (u64_bytes q.firmware_version ++ rest))
    ∙ ap (λ t. header_then (sized_bytes q.qualified_signer ++ (sized_bytes q.extra_data ++ t)))
    (sym (clock_then q.clock_info (u64_bytes q.firmware_version ++ rest)))

-- A quote is its header and its body.
pub quote_is : (q : Quote) → quote_bytes q ≡ header_then (body_bytes q)
unfolding quote_bytes
quote_is q =
    before_selections_then q (u32_bytes (length q.pcr_selections) ++ (selections_bytes q.pcr_selections ++ sized_bytes q.pcr_digest))
    ∙ ap (λ t. header_then (sized_bytes q.qualified_signer ++ (sized_bytes q.extra_data ++ (clock_bytes q.clock_info
    ++ (u64_bytes q.firmware_version ++ t)))))
    (sym (append_assoc (u32_bytes (length q.pcr_selections)) (selections_bytes q.pcr_selections) (sized_bytes q.pcr_digest)))

pub header_append : (x y : List ℕ) → header_then x ++ y ≡ header_then (x ++ y)
header_append x y = append_assoc (u32_bytes generated_value) (u16_bytes attest_quote ++ x) y
    ∙ ap (λ t. u32_bytes generated_value ++ t) (append_assoc (u16_bytes attest_quote) x y)
