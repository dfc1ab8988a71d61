-- All forms, in their sections.
use Rattle.std.specs.Prelude.{[], ◌∷◌, ◌++◌, List}
use Rattle.uefi_path_text.specs.form.NodeForm.{NodeForm}
use Rattle.uefi_path_text.specs.forms.Generic.{generic_forms}
use Rattle.uefi_path_text.specs.forms.Hardware.{hardware_forms}
use Rattle.uefi_path_text.specs.forms.Acpi.{acpi_forms}
use Rattle.uefi_path_text.specs.forms.Storage.{storage_forms}
use Rattle.uefi_path_text.specs.forms.Usb.{usb_forms}
use Rattle.uefi_path_text.specs.forms.Network.{network_forms}
use Rattle.uefi_path_text.specs.forms.Vendor.{vendor_forms}
use Rattle.uefi_path_text.specs.forms.Media.{media_forms}
use Rattle.uefi_path_text.specs.forms.BiosBootSpec.{bios_boot_spec_forms}
use Rattle.uefi_path_text.specs.forms.Display.{display_forms}
use Rattle.uefi_path_text.specs.declared.forms.Section.{Section}
use Rattle.uefi_path_text.specs.declared.forms.Section.TheVariants.{Generic, Hardware, Acpi, Storage, Usb, Network, Vendor, Media, BiosBootSpec, Display}

abbrev pub forms_in : Section → List NodeForm
forms_in Generic = generic_forms
forms_in Hardware = hardware_forms
forms_in Acpi = acpi_forms
forms_in Storage = storage_forms
forms_in Usb = usb_forms
forms_in Network = network_forms
forms_in Vendor = vendor_forms
forms_in Media = media_forms
forms_in BiosBootSpec = bios_boot_spec_forms
forms_in Display = display_forms

-- The sections of the forms in which nodes are read.
abbrev pub sections : List Section
sections = Generic ∷ Hardware ∷ Acpi ∷ Storage ∷ Usb ∷ Network ∷ Vendor ∷ Media ∷ BiosBootSpec ∷ []

abbrev pub forms_of : List Section → List NodeForm
forms_of [] = []
forms_of (section ∷ more) = forms_in section ++ forms_of more

abbrev pub forms : List NodeForm
forms = forms_of sections
