-- Whether a record is in the bytes that firmware wrote to a buffer (UEFI 2.10, 13.5
-- "EFI_FILE_PROTOCOL.GetInfo()"; Appendix D).
use Rattle.std.specs.Prelude.{ℕ, ◌≡◌, ◌+◌, Option, Some, None, Result, Ok, Err, List, take, nat_le, if◌then◌else◌}
use Rattle.uefi_base.specs.declared.status.Error.{Error}
use Rattle.uefi_base.specs.declared.status.Status.TheVariants.{BAD_BUFFER_SIZE, BUFFER_TOO_SMALL}
use Rattle.uefi_base.specs.Views.{error_status, error_data}
use Rattle.uefi_records.specs.file.Name.{units_from, first_zero, record_size}

-- The written bytes have no name; or the buffer is shorter than the record of their name, which has this size; or
-- the record has this name.
pub data Verdict : Type 0 where
  without_name : Verdict
  too_small : ℕ → Verdict
  accepted : List ℕ → Verdict

-- The verdict on the units from the name's offset on, by the index of the first zero one and the length of the
-- whole buffer.
abbrev pub judged : ℕ → ℕ → List ℕ → ℕ → Option ℕ → Verdict
judged offset alignment units room None = without_name
judged offset alignment units room (Some index) =
    let size = record_size offset alignment (index + 1) in
    if nat_le size room then accepted (take (index + 1) units) else too_small size

-- The verdict on the written bytes, by the length of the whole buffer. No byte before the name's offset matters.
abbrev pub verdict : ℕ → ℕ → List ℕ → ℕ → Verdict
verdict offset alignment written room =
    judged offset alignment (units_from offset written) room (first_zero (units_from offset written))

-- The error for a verdict that isn't `accepted`.
abbrev pub Refuses : Verdict → Error (Option ℕ) → Type 0
Refuses without_name error = (error_status error ≡ BAD_BUFFER_SIZE) × (error_data error ≡ None)
Refuses (too_small size) error = (error_status error ≡ BUFFER_TOO_SMALL) × (error_data error ≡ Some size)
Refuses (accepted name) error = ⊥

-- A reader follows the verdict: Ok has a view of the record with that name, and Err the error.
abbrev pub FollowsVerdict : {V : Type 0} → (V → List ℕ) → Verdict → Result V (Error (Option ℕ)) → Type 0
FollowsVerdict name_of v (Ok view) = v ≡ accepted (name_of view)
FollowsVerdict name_of v (Err error) = Refuses v error
