use Rattle.uefi_audits.proofs.content.OneContent.{one_content}
use Rattle.uefi_audits.proofs.laws.one_content.Goals as goal

pub returns : goal.returns
returns c =
    one_content record {
      front = c.one_front.ensures;
      readers = c.one_value.ensures;
      gpt = c.one_gpt_data.ensures;
      values = record {
        load_option = c.one_load_option.ensures;
        boot_order = c.one_boot_order.ensures;
        signature = c.one_signature.ensures;
      };
    }
