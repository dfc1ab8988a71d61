use Rattle.std.proofs.Common.{leb, cond, bit_and, refl}
use Rattle.std.proofs.lemmas.Simd.{splat_is_map, zip2_of_maps, zip2_splat}
use Rattle.uefi_hii.proofs.DigitLanes.{none_wrong}
use Rattle.uefi_hii.specs.Hex.{hex_digit}
use Rattle.uefi_hii.proofs.filling.are_digits.Goals as goal

pub returns : goal.returns
unfolding hex_digit
returns c =
    let v = c.args.lanes in
    let long = c.requires.count in
    let number = zip2_splat _ v 16 48 long in
    let letter = zip2_of_maps _ _ _ v (zip2_splat _ v 16 32 long) (splat_is_map v 16 97 long) in
    none_wrong _ v _ refl long c.requires.bytes
    (zip2_of_maps bit_and _ _ v (zip2_of_maps (λ a b. cond (leb a b) 255 0) _ _ v (splat_is_map v 16 10 long) number)
    (zip2_of_maps (λ a b. cond (leb a b) 255 0) _ _ v (splat_is_map v 16 6 long) letter)) refl
