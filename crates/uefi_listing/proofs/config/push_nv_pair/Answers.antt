use Rattle.uefi_listing.specs.Config.{nv_line, value_and_end}
use Rattle.uefi_listing.proofs.config.push_nv_pair.Goals as goal

pub returns-in-Some : goal.returns-in-Some
unfolding nv_line value_and_end
returns-in-Some g c = rw c.in-Some.is
    (simp (c.as_str-key.ensures.value, c.as_str-value.ensures.value) at c.writeln.ensures.bytes)

pub returns-in-None : goal.returns-in-None
unfolding nv_line value_and_end
returns-in-None g c = rw c.in-None.is (simp c.as_str-key.ensures.value at c.writeln-in-None.ensures.bytes)
