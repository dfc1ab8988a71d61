use Rattle.std.proofs.Common.{◌≡◌, ◌++◌, take, string_bytes, flat_map}
use Rattle.uefi_hii.specs.Views.{nv_pair_of}
use Rattle.uefi_listing.specs.Config.{nv_line}
use Rattle.uefi_listing.proofs.config.push_nvconfig.Given as goal

abbrev pub invariant-loop-pair : goal.invariant-loop-pair
invariant-loop-pair g l =
    string_bytes l.text ≡ string_bytes l.initial.text
    ++ flat_map (λ pair. nv_line (nv_pair_of pair)) (take l.pair-index l.nvconfig)
