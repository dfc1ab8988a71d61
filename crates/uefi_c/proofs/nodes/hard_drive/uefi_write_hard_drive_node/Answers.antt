use Rattle.std.proofs.Common.{◌≡◌, ◌∙◌, ◌++◌, ◌∷◌, arith, refl, rules, [], length}
use Rattle.uefi_base.specs.LittleEndian.{u32_bytes, u64_bytes}
use Rattle.uefi_node.specs.Media.{hard_drive}
use Rattle.uefi_c.proofs.DriveSignatures.{drive_bytes}
use Rattle.uefi_c.proofs.NodesWritten.{fields_needed, value_written}
use Rattle.uefi_c.proofs.nodes.hard_drive.uefi_write_hard_drive_node.Goals as goal

pub returns-clause-written : goal.returns-clause-written
returns-clause-written c =
    let node = c.args.node.now in
    let sized : length node.partition_signature ≡ 16 = omega arith in
    let same : c.joined-fields.result ≡ u32_bytes node.partition_number ++ (u64_bytes node.partition_start
    ++ (u64_bytes node.partition_size ++ (node.partition_signature ++ (node.partition_format ∷ node.signature_type ∷ []))))
    = search rules in
    (value_written hard_drive _ c.joined-fields.result [] _ _ _ _ (same ∙ drive_bytes node sized) refl
    c.write_parts-status.ensures).written

pub returns-clause-size : goal.returns-clause-size
returns-clause-size c =
    let node = c.args.node.now in
    let sized : length node.partition_signature ≡ 16 = omega arith in
    let same : c.joined-fields.result ≡ u32_bytes node.partition_number ++ (u64_bytes node.partition_start
    ++ (u64_bytes node.partition_size ++ (node.partition_signature ++ (node.partition_format ∷ node.signature_type ∷ []))))
    = search rules in
    fields_needed hard_drive _ c.joined-fields.result _ _ _ _ (same ∙ drive_bytes node sized) refl (omega arith)
    c.write_parts-status.ensures
