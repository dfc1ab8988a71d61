use Rattle.std.specs.Prelude.{string_bytes}
use Rattle.uefi_hii.specs.Views.{peeked_pairs}
use Rattle.uefi_hii.proofs.Headers.{alt_fails, guid_fails, name_fails, path_fails, residual}
use Rattle.uefi_hii.proofs.Headers.{takes_header, three_taken}
use Rattle.uefi_hii.proofs.reading.read_header.Goals as goal

pub returns-in_default : goal.returns-in_default
returns-in_default u c =
    guid_fails (peeked_pairs c.args.pairs.now) (peeked_pairs c.take_guid.new.pairs) c.requires c.in_default.ensures

pub returns-in_default-2 : goal.returns-in_default-2
returns-in_default-2 u c =
    name_fails (peeked_pairs c.args.pairs.now) (peeked_pairs c.take_guid.new.pairs)
    (peeked_pairs c.take_name.new.pairs) c.in-Some.guid.0 c.requires c.in-Some.ensures
    (rw c.in_default-2.is at c.in_ok-name.ensures.taken)

pub returns-in_default-3 : goal.returns-in_default-3
returns-in_default-3 u c =
    path_fails (peeked_pairs c.args.pairs.now) (peeked_pairs c.take_guid.new.pairs) (peeked_pairs c.take_name.new.pairs)
    (peeked_pairs c.take_path.new.pairs)
    c.in-Some.guid.0 (string_bytes c.in-Some-2.name) c.requires c.in-Some.ensures
    (rw c.in-Some-2.is at c.in_ok-name.ensures.taken) (rw c.in_default-3.is at c.in_ok-device_path.ensures)

pub returns-in_err-alt_cfg_id : goal.returns-in_err-alt_cfg_id
returns-in_err-alt_cfg_id u c =
    let before = peeked_pairs c.args.pairs.now in
    let left = peeked_pairs c.take_path.new.pairs in
    let after = peeked_pairs c.take_alt_cfg_id.new.pairs in
    let three =
    three_taken before _ _ left _ _ c.in-Some-3.device_path c.in-Some.ensures
    (rw c.in-Some-2.is at c.in_ok-name.ensures.taken) (rw c.in-Some-3.is at c.in_ok-device_path.ensures) in
    rw (residual c.from_residual-in_err-alt_cfg_id.result _ c.from_residual-in_err-alt_cfg_id.ensures.1)
    (alt_fails u.row.A.Denot before left after _ _ _ c.in_err-alt_cfg_id.field-0.0 c.requires three
    c.in_err-alt_cfg_id.ensures)

pub returns : goal.returns
returns u c =
    let before = peeked_pairs c.args.pairs.now in
    let left = peeked_pairs c.take_path.new.pairs in
    let three =
    three_taken before _ _ left _ _ c.in-Some-3.device_path c.in-Some.ensures
    (rw c.in-Some-2.is at c.in_ok-name.ensures.taken) (rw c.in-Some-3.is at c.in_ok-device_path.ensures) in
    takes_header before left (peeked_pairs c.take_alt_cfg_id.new.pairs)
    (record {
      guid = c.in-Some.guid;
      name = c.in-Some-2.name;
      device_path = c.in-Some-3.device_path;
      alt_cfg_id =
          c.in_ok-alt_cfg_id.alt_cfg_id;
      elements = c.new.result;
    })
    three c.in_ok-alt_cfg_id.ensures c.new.ensures.items
