-- The texts of errors.
use Rattle.std.specs.Prelude.{ℕ, List, ◌++◌, codes, decimal}
use Rattle.uefi_map.specs.declared.pci.resource_error.ResourceError.{ResourceError}
use Rattle.uefi_map.specs.declared.pci.resource_error.ResourceError.TheVariants.{NoEndTag, CutRecord, UnknownTag, Memory}

-- What is missing, or the byte that is no tag.
abbrev pub resource_error_text : ResourceError → List ℕ
resource_error_text NoEndTag = codes "no end tag"
resource_error_text CutRecord = codes "a record is cut off"
resource_error_text (UnknownTag tag) = codes "unknown tag " ++ decimal tag
resource_error_text Memory = codes "out of memory"
