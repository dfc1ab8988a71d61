-- Keys, and keys with ranks, in an order.
use Rattle.std.specs.Prelude.{ℕ, option_map}
use Rattle.std.specs.declared.cmp.Ordering.{Ordering}
use Rattle.std.specs.Ordering.{nat_cmp, on, then_cmp}
use Rattle.std.specs.Cmp.{IsTotalOrder, nat_cmp_total, on_total, then_total}
use Rattle.std.specs.Cmp.Lexicographic.{nat_list_cmp_total}
use Rattle.uefi_tcg.specs.declared.algorithm_id.AlgorithmId.{AlgorithmId}
use Rattle.uefi_audits.specs.declared.diff.event_key.EventKey.{EventKey}
use Rattle.uefi_audits.specs.declared.diff.event_key.KeyedBy.{KeyedBy}
use Rattle.uefi_audits.specs.declared.diff.event_key.KeyedBy.TheVariants.{Data, Name, Digest}
use Rattle.uefi_audits.specs.declared.diff.event_key.RankedKey.{RankedKey}
use Rattle.uefi_audits.specs.diff.Counterparts.{Key, data_key, digest_key, key_cmp, name_key}
use Rattle.uefi_audits.specs.diff.Numbered.{Numbered}

abbrev pub keyed : EventKey → Key
keyed key = record {
  pcr_index = key.pcr_index;
  event_type = key.event_type;
  namespace = key.namespace.now;
  name = key.name.now;
}

-- The key of an event: by its data, by its name, or by its first digest of an algorithm.
abbrev pub key_by : KeyedBy → Numbered → Key
key_by Data = data_key
key_by Name = name_key
key_by (Digest algorithm) = digest_key (option_map (λ (id : AlgorithmId). id.0) algorithm)

-- A key, and how many events before an event have it.
pub record Ranked : Type 0 where
  pub key : Key
  pub rank : ℕ

abbrev pub ranked_of : RankedKey → Ranked
ranked_of ranked = record { key = keyed ranked.key; rank = ranked.rank }

unfoldable pub ranked_cmp : Ranked → Ranked → Ordering
ranked_cmp = then_cmp (on (λ (r : Ranked). r.key) key_cmp) (on (λ (r : Ranked). r.rank) nat_cmp)

-- Both orders are total.
pub key_cmp_total : IsTotalOrder key_cmp
unfolding key_cmp
key_cmp_total =
    then_total (then_total (on_total (λ (k : Key). k.pcr_index) nat_cmp_total) (on_total (λ (k : Key). k.event_type) nat_cmp_total))
    (then_total (on_total (λ (k : Key). k.namespace) nat_list_cmp_total) (on_total (λ (k : Key). k.name) nat_list_cmp_total))

pub ranked_cmp_total : IsTotalOrder ranked_cmp
unfolding ranked_cmp
ranked_cmp_total =
    then_total (on_total (λ (r : Ranked). r.key) key_cmp_total) (on_total (λ (r : Ranked). r.rank) nat_cmp_total)
