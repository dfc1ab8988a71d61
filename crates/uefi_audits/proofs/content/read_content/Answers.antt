use Rattle.std.proofs.Common.{rules}
use Rattle.uefi_audits.specs.content.Content.{PostCodeContent, Says}
use Rattle.uefi_audits.specs.content.Form.{form}
use Rattle.uefi_audits.proofs.content.read_content.Goals as goal

pub returns-in-POST_CODE : goal.returns-in-POST_CODE
unfolding Says form PostCodeContent
returns-in-POST_CODE c = search rules

pub returns-in-POST_CODE-2 : goal.returns-in-POST_CODE-2
unfolding Says form PostCodeContent
returns-in-POST_CODE-2 c = search rules

pub returns-in-POST_CODE2 : goal.returns-in-POST_CODE2
unfolding Says form
returns-in-POST_CODE2 c = let says = c.described_blob_content.ensures c.args.uintn_size in search rules

pub returns-in-EFI_VARIABLE_DRIVER_CONFIG : goal.returns-in-EFI_VARIABLE_DRIVER_CONFIG
unfolding Says form
returns-in-EFI_VARIABLE_DRIVER_CONFIG c = let says = c.variable_content.ensures c.args.uintn_size in search rules

pub returns-in-EFI_VARIABLE_AUTHORITY : goal.returns-in-EFI_VARIABLE_AUTHORITY
unfolding Says form
returns-in-EFI_VARIABLE_AUTHORITY c = let says = c.authority_content.ensures c.args.uintn_size in search rules
