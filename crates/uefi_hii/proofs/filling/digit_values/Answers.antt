use Rattle.std.proofs.Common.{◌∙◌, refl}
use Rattle.std.proofs.lemmas.Simd.{splat_is_map, zip2_of_maps, zip2_splat}
use Rattle.uefi_hii.proofs.DigitLanes.{chosen, values_agree}
use Rattle.uefi_hii.specs.Hex.{hex_digit, byte_of_one}
use Rattle.uefi_hii.proofs.filling.digit_values.Goals as goal

pub returns : goal.returns
unfolding hex_digit byte_of_one
returns c =
    let v = c.args.digits in
    let long = c.requires.count in
    let number = zip2_splat _ v 16 48 long in
    let letter = zip2_of_maps _ _ _ v (zip2_splat _ v 16 32 long) (splat_is_map v 16 87 long) in
    chosen _ _ _ v (zip2_of_maps _ _ _ v number (splat_is_map v 16 10 long)) number letter
    ∙ values_agree _ refl v c.requires.bytes c.requires.digits
