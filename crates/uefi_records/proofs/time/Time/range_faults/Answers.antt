use Rattle.std.proofs.Common.{◌≡◌, rules}
use Rattle.uefi_records.specs.time.Faults.{is_zone_outside}
use Rattle.uefi_records.proofs.time.Ranges.{not_contained}
use Rattle.uefi_records.proofs.time.Time.range_faults.Goals as goal

pub returns : goal.returns
returns c =
    let year = not_contained _ 1900 9999 _ _ c.new.ensures.start c.new.ensures.end c.new.ensures.exhausted
    c.contains.ensures.value in
    let month = not_contained _ 1 12 _ _ c.new-2.ensures.start c.new-2.ensures.end c.new-2.ensures.exhausted
    c.contains-2.ensures.value in
    let day = not_contained _ 1 31 _ _ c.new-3.ensures.start c.new-3.ensures.end c.new-3.ensures.exhausted
    c.contains-3.ensures.value in
    let hour = not_contained _ 0 23 _ _ c.new-4.ensures.start c.new-4.ensures.end c.new-4.ensures.exhausted
    c.contains-4.ensures.value in
    let minute = not_contained _ 0 59 _ _ c.new-5.ensures.start c.new-5.ensures.end c.new-5.ensures.exhausted
    c.contains-5.ensures.value in
    let second = not_contained _ 0 59 _ _ c.new-6.ensures.start c.new-6.ensures.end c.new-6.ensures.exhausted
    c.contains-6.ensures.value in
    let nanosecond = not_contained _ 0 999999999 _ _ c.new-7.ensures.start c.new-7.ensures.end c.new-7.ensures.exhausted
    c.contains-7.ensures.value in
    let timezone : c.is_zone_outside.result ≡ is_zone_outside c.args.self.now.zone = search rules in
    cc
