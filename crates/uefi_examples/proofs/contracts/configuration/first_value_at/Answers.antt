use Rattle.std.proofs.Common.{◌∙◌, ap, Some}
use Rattle.uefi_hii.specs.Views.{configuration_of}
use Rattle.uefi_hii.proofs.FirstResult.{first_is}
use Rattle.uefi_examples.proofs.contracts.configuration.first_value_at.Goals as goal

pub returns-in-Some-clause-read : goal.returns-in-Some-clause-read
returns-in-Some-clause-read c = λ parts cut. (
  configuration_of c.in_ok-configuration.configuration,
  first_is parts c.in_ok-configuration.configuration (c.in_ok-configuration.ensures.only parts cut),
  ap Some c.in_ok-from_slice-in-Some.ensures.items ∙ c.in-Some.ensures,
)

pub returns-clause-read : goal.returns-clause-read
returns-clause-read c = λ parts cut. (
  configuration_of c.in_ok-configuration.configuration,
  first_is parts c.in_ok-configuration.configuration (c.in_ok-configuration.ensures.only parts cut),
  c.in-None.ensures,
)
