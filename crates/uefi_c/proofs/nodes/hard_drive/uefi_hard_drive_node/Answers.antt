use Rattle.std.proofs.Common.{refl, slice_index_or, ◌∙◌, ap, length}
use Rattle.uefi_node.specs.Media.{hard_drive}
use Rattle.uefi_c.specs.Nodes.{hard_drive_seen}
use Rattle.uefi_c.specs.Path.{node_seen}
use Rattle.uefi_c.proofs.DriveSignatures.{drive_has}
use Rattle.uefi_c.proofs.NodesRead.{fields_read, fields_sized, is_found, not_found}
use Rattle.uefi_c.specs.declared.nodes.hard_drive.UefiHardDriveNode.{UefiHardDriveNode}
use Rattle.uefi_c.proofs.nodes.hard_drive.uefi_hard_drive_node.Goals as goal

pub returns-in_default-clause-found : goal.returns-in_default-clause-found
returns-in_default-clause-found c =
    let node = node_seen c.args.node.now in
    not_found hard_drive node (λ of. c.in_default.ensures.found.1 (fields_sized hard_drive node refl of))

pub returns-clause-found : goal.returns-clause-found
returns-clause-found c =
    let b = c.in-Some.fields.now in
    let has = c.in-Some.ensures.found.0 refl in
    let seen : UefiHardDriveNode = record {
      partition_start = c.u64_at.result;
      partition_size = c.u64_at-2.result;
      partition_number = c.u32_at.result;
      partition_signature = c.bytes_at.result;
      partition_format = slice_index_or b 36 0;
      signature_type = slice_index_or b 37 0;
    } in
    is_found hard_drive (hard_drive_seen seen) (node_seen c.args.node.now) (fields_read hard_drive _ _ b refl
    c.in-Some.ensures.fields c.in-Some.ensures.bytes has
    (drive_has seen b (ap length c.in-Some.ensures.fields ∙ has.sized) c.u32_at.ensures c.u64_at.ensures
    c.u64_at-2.ensures c.bytes_at.ensures refl refl))

pub returns-clause-fields : goal.returns-clause-fields
returns-clause-fields c = λ _.
    let b = c.in-Some.fields.now in
    let has = c.in-Some.ensures.found.0 refl in
    (fields_read hard_drive _ (node_seen c.args.node.now) b refl c.in-Some.ensures.fields c.in-Some.ensures.bytes has
    (drive_has _ b (ap length c.in-Some.ensures.fields ∙ has.sized) c.u32_at.ensures c.u64_at.ensures
    c.u64_at-2.ensures c.bytes_at.ensures refl refl)).1
