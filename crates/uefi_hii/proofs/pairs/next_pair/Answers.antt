use Rattle.std.proofs.Common.{◌≡◌, ◌∷◌, length, sym, ◌∙◌, ap, ap₂, arith, rules}
use Rattle.std.proofs.lemmas.Grind.{common_steps}
use Rattle.std.specs.List.{before_first, after_first}
use Rattle.uefi_hii.specs.Pairs.{Pair, pair_of, pairs}
use Rattle.uefi_hii.proofs.Pieces.{is_ampersand}
use Rattle.uefi_hii.specs.Views.{pair_view}
use Rattle.uefi_hii.proofs.Pieces.{pairs_cut}
use Rattle.uefi_hii.proofs.pairs.next_pair.Goals as goal

pub returns-clause-pairs : goal.returns-clause-pairs
returns-clause-pairs c =
    let bytes = c.args.bytes.now in
    let some : length bytes ≡ 0 → ⊥ = search rules in
    let piece : c.split_once.result.0.now ≡ before_first is_ampersand bytes =
    ap (λ (p : Pair). p.key) c.split_once.ensures in
    let pair : pair_view c.split_once-2.result ≡ pair_of (before_first is_ampersand bytes) =
    c.split_once-2.ensures ∙ ap pair_of piece in
    let rest : c.unwrap_or.result.now ≡ after_first is_ampersand bytes = grind (arith, common_steps) in
    pairs_cut bytes (λ e. some (ap (λ b. length b) e)) ∙ ap₂ (λ p r. p ∷ pairs r) (sym pair) (sym rest)
