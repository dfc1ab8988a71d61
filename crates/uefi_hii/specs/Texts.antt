-- The texts that Display writes for errors.
use Rattle.std.specs.Prelude.{ℕ, List, ◌++◌, codes}
use Rattle.uefi_hii.specs.declared.error.ConfigHdrSection.{ConfigHdrSection}
use Rattle.uefi_hii.specs.declared.error.ConfigHdrSection.TheVariants as section
use Rattle.uefi_hii.specs.declared.error.ParseError.{ParseError}
use Rattle.uefi_hii.specs.declared.error.ParseError.TheVariants.{BlockConfig, BlockName, ConfigHdr, Memory}

abbrev pub section_text : ConfigHdrSection → List ℕ
section_text section.Guid = codes "GUID"
section_text section.Name = codes "name"
section_text section.Path = codes "path"
section_text section.DescHdr = codes "identifier"

abbrev pub error_text : ParseError → List ℕ
error_text (ConfigHdr part) = codes "the header's " ++ section_text part ++ codes " is missing or wrong"
error_text BlockName = codes "an element's offset or width is missing or wrong"
error_text BlockConfig = codes "an element's value is missing"
error_text Memory = codes "out of memory"
