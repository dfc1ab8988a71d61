-- A refused record, from the error that its reader returned.
use Rattle.std.proofs.Common.{◌≡◌, ◌∙◌, ℕ, Option, List, ap}
use Rattle.uefi_base.specs.declared.status.Error.{Error}
use Rattle.uefi_base.specs.Views.{error_data}
use Rattle.uefi_records.specs.file.Verdict.{Verdict, without_name, too_small, accepted, Refuses}
use Rattle.uefi_listing.specs.Info.{refused_info_line, RefusesInfo}

-- The line of an error is that of the verdict that it stands for.
pub refuses_info : (v : Verdict) (error : Error (Option ℕ)) (text : List ℕ) → Refuses v error
    → text ≡ refused_info_line (error_data error) → RefusesInfo v text
refuses_info without_name error text refuses line = line ∙ ap refused_info_line refuses.1
refuses_info (too_small size) error text refuses line = line ∙ ap refused_info_line refuses.1
refuses_info (accepted name) error text refuses line = refuses
