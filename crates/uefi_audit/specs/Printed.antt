-- What a command prints.
use Rattle.std.specs.Prelude.{ℕ, List, [], ◌++◌, string_bytes}
use Rattle.audit_text.specs.declared.json.unjudged.NotJudged.{NotJudged}
use Rattle.audit_text.specs.declared.json.unjudged.NotJudged.TheVariants.{TooManyAlgorithms}
use Rattle.audit_text.specs.json.Unjudged.{unjudged_line}
use Rattle.uefi_audit.specs.Ends.{worse}
use Rattle.uefi_audit.specs.declared.failure.Status.{Status}
use Rattle.uefi_audit.specs.declared.failure.Status.TheVariants.{Unjudged}
use Rattle.uefi_audit.specs.declared.report.Report.{Report}
use Rattle.uefi_audit.specs.declared.request.Format.{Format}
use Rattle.uefi_audit.specs.declared.request.Format.TheVariants.{Text, Json}

-- What standard error has, what is printed, and the status.
pub record Printed : Type 0 where
  pub messages : List ℕ
  pub text : List ℕ
  pub status : Status

abbrev pub printed_of : Report → Printed
printed_of report = record { messages = string_bytes report.messages; text = string_bytes report.text; status = report.status }

-- Of what can't be judged, nothing but these messages.
abbrev pub unjudged : List ℕ → Printed
unjudged messages = record { messages = messages; text = []; status = Unjudged }

-- Of a log that `verify` doesn't judge these messages, and in JSON a line that says why.
unfoldable pub unjudged_text : Format → List ℕ → NotJudged → List ℕ
unjudged_text Text name why = []
unjudged_text Json name why = unjudged_line name why

abbrev pub unjudged_as : Format → List ℕ → NotJudged → List ℕ → Printed
unjudged_as format name why messages = record { messages = messages; text = unjudged_text format name why; status = Unjudged }

-- Of a log that wasn't read `verify` prints such a line, too.
abbrev pub refused_as : Format → List ℕ → Printed → Printed
refused_as format name printed = record {
  messages = printed.messages;
  text = unjudged_text format name TooManyAlgorithms;
  status = printed.status;
}

-- What is printed of two things, one after the other. The worse status counts.
abbrev pub one_after_other : Printed → Printed → Printed
one_after_other one other = record {
  messages = one.messages ++ other.messages;
  text = one.text ++ other.text;
  status = worse one.status other.status;
}
