use Rattle.std.proofs.Common.{drop, length, ap, ◌∙◌, arith}
use Rattle.tcg_event.specs.SignatureViews.{list_of}
use Rattle.uefi_c.proofs.SignatureLists.{room, signatures_there}
use Rattle.uefi_c.proofs.event_data.signature.seen.Goals as goal

pub split_at-requires : goal.split_at-requires
split_at-requires c = omega (
  arith,
  room c.args.bytes.now (list_of c.args.list.now) c.requires.encoded c.requires.is_list.kind,
)

pub split_at-requires-2 : goal.split_at-requires-2
split_at-requires-2 c = omega (
  arith,
  room c.args.bytes.now (list_of c.args.list.now) c.requires.encoded c.requires.is_list.kind,
  ap length c.header-header.ensures,
  c.split_at.ensures.back_len,
)

pub returns : goal.returns
returns c = record {
  kind = c.signature_type.ensures;
  header = c.header-header.ensures;
  size = c.signature_size.ensures;
  signatures = c.split_at-2.ensures.back ∙ ap (drop (length c.header-header.result.now)) c.split_at.ensures.back
      ∙ ap (λ h. drop (length h) (drop 28 c.args.bytes.now)) c.header-header.ensures
      ∙ signatures_there c.args.bytes.now (list_of c.args.list.now) c.requires.encoded c.requires.is_list.kind;
}
