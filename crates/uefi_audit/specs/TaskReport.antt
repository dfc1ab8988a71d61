-- What a task prints of a log.
use Rattle.std.specs.Prelude.{Bool}
use Rattle.std.specs.Option.{option_map}
use Rattle.uefi_audit.specs.CheckReport.{IsCheckReport}
use Rattle.uefi_audit.specs.EventsReport.{IsEventsReport}
use Rattle.uefi_audit.specs.Printed.{Printed}
use Rattle.uefi_audit.specs.ReplayReport.{IsReplayReport}
use Rattle.uefi_audit.specs.declared.log_file.LogFile.{LogFile}
use Rattle.uefi_audit.specs.declared.task.Task.{Task}
use Rattle.uefi_audit.specs.declared.task.Task.TheVariants.{Check, Events, Replay}

unfoldable pub IsTaskReport : Task → Bool → LogFile → Printed → Type 0
IsTaskReport (Events format) allow_left_over file printed = IsEventsReport allow_left_over file format printed
IsTaskReport (Replay asked) allow_left_over file printed = IsReplayReport allow_left_over file asked printed
IsTaskReport (Check covered format) allow_left_over file printed =
    IsCheckReport allow_left_over (option_map (λ pcrs. pcrs.now) covered) file format printed
