use Rattle.std.proofs.lemmas.Result.{on_ok_weaker}
use Rattle.boot_listing.specs.Text.{texts_object}
use Rattle.boot_listing.proofs.Listings.{three_parts}
use Rattle.boot_listing.proofs.text.push_texts_object.Goals as goal

pub returns : goal.returns
unfolding texts_object
returns g c =
    let strings = c.in_ok-push_text_strings.ensures in
    on_ok_weaker c.writeln.result
    (λ grown. (strings.0, strings.1, three_parts _ _ _ _ _ _ _ c.in_ok-push_str.ensures.bytes strings.2 grown))
    c.writeln.ensures.bytes
