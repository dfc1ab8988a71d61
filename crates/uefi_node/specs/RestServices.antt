-- REST services (UEFI 2.10, 10.3.4.32).
use Rattle.std.specs.Prelude.{ℕ, Bool, not, ◌==◌, List, [], ◌∷◌, Option, Some, None}
use Rattle.std.specs.Borrow.{Bor}
use Rattle.uefi_base.specs.declared.guid.Guid.{Guid}
use Rattle.uefi_node.specs.Layout.{Layout, byte, vendor, vendor_or_none}
use Rattle.uefi_node.specs.declared.messaging.rest_service.RestService.{RestService}

-- The number of the type whose services have a GUID and data.
abbrev pub vendor_service : ℕ
vendor_service = 0xff

-- The bytes of the GUID, and the data.
abbrev pub guid_and_data : Option (Guid × Bor (List ℕ)) → Option (List ℕ × List ℕ)
guid_and_data None = None
guid_and_data (Some (guid, more)) = Some (guid.0, more.now)

-- A GUID and data are there if and only if the type is that of a vendor.
abbrev pub is_vendor : ℕ → Option (Guid × Bor (List ℕ)) → Bool
is_vendor kind None = not (kind == vendor_service)
is_vendor kind (Some there) = kind == vendor_service

-- A REST service (10.3.4.32).
abbrev pub rest_service : Layout RestService
rest_service = record {
  device_type = 3;
  sub_type = 33;
  fields = byte (λ r. r.service_type.0) ∷ byte (λ r. r.access_mode.0) ∷ [];
  rest = vendor (λ r. guid_and_data r.vendor_guid_and_data);
  form = vendor_or_none;
  is_value = λ r. is_vendor r.service_type.0 r.vendor_guid_and_data;
}
