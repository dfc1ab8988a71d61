-- What the types of this crate stand for.
use Rattle.std.specs.Prelude.{ℕ, List, [], ◌∷◌, Option, Some, None, Result, Ok, Err, option_map, map, string_bytes}
use Rattle.std.specs.Borrow.{Bor}
use Rattle.uefi_path.specs.Views.{boxed_nodes}
use Rattle.uefi_hii.specs.declared.configuration.ConfigurationString.{ConfigurationString}
use Rattle.uefi_hii.specs.declared.configuration.ConfigurationStringElement.{ConfigurationStringElement}
use Rattle.uefi_hii.specs.declared.configuration.NvPair.{NvPair}
use Rattle.uefi_hii.specs.declared.error.ParseError.{ParseError}
use Rattle.uefi_hii.specs.declared.hex.HexBytes.{HexBytes}
use Rattle.uefi_hii.specs.declared.multi.MultiConfigurationStringIter.{MultiConfigurationStringIter}
use Rattle.uefi_hii.specs.declared.pairs.ConfigurationStringIter.{ConfigurationStringIter}
use Rattle.uefi_hii.specs.declared.peeked.PeekedPairs.{PeekedPairs}
use Rattle.uefi_hii.specs.Hex.{hex}
use Rattle.uefi_hii.specs.Pairs.{Pair, pairs}
use Rattle.uefi_hii.specs.Configuration.{Configuration, Element}

-- The bytes that are still to come.
abbrev pub bytes_left : HexBytes → List ℕ
bytes_left iter = hex iter.rest.now

-- A key and a value, each a part of the text.
abbrev pub pair_view : Bor (List ℕ) × Option (Bor (List ℕ)) → Pair
pair_view parts = record { key = parts.0.now; value = option_map (λ value. value.now) parts.1 }

-- The pairs that are still to come.
abbrev pub pairs_left : ConfigurationStringIter → List Pair
pairs_left iter = pairs iter.rest.now

-- The pairs that are still to come, where the next is cut already, if there is one.
abbrev pub pairs_from : Option (Bor (List ℕ) × Option (Bor (List ℕ))) → List Pair → List Pair
pairs_from None after = []
pairs_from (Some next) after = pair_view next ∷ after

abbrev pub peeked_pairs : PeekedPairs → List Pair
peeked_pairs peeked = pairs_from peeked.next (pairs_left peeked.after)

-- The pairs that no group has yet. There are none after an allocation failed.
abbrev pub uncut_pairs : {A : Type 0} → MultiConfigurationStringIter A → List Pair
uncut_pairs iter = peeked_pairs iter.pairs

-- A pair, as texts of its own.
abbrev pub nv_pair_of : {A : Type 0} → NvPair A → Pair
nv_pair_of pair = record { key = string_bytes pair.key; value = option_map string_bytes pair.value }

abbrev pub element_of : {A : Type 0} → ConfigurationStringElement A → Element
element_of e = record { offset = e.offset; width = e.width; value = e.value.items; nvconfig = map nv_pair_of e.nvconfig.items }

abbrev pub configuration_of : {A : Type 0} → ConfigurationString A → Configuration
configuration_of c = record {
  guid = c.guid.0;
  name = string_bytes c.name;
  path = boxed_nodes c.device_path;
  alt_cfg_id = c.alt_cfg_id;
  elements = map element_of c.elements.items;
}

abbrev pub result_of : {A : Type 0} → Result (ConfigurationString A) ParseError → Result Configuration ParseError
result_of (Ok c) = Ok (configuration_of c)
result_of (Err error) = Err error
