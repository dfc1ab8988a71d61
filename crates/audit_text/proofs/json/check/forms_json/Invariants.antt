use Rattle.std.proofs.Common.{◌≡◌, take}
use Rattle.serde_json.specs.Data.{no_members}
use Rattle.serde_json.specs.View.{members_view}
use Rattle.audit_text.specs.json.Check.{form_members}
use Rattle.audit_text.specs.json.Json.{with_members}
use Rattle.audit_text.proofs.json.check.forms_json.Given as goal

-- The members are the forms so far in which any event matches.
abbrev pub invariant-loop-form : goal.invariant-loop-form
invariant-loop-form l =
    members_view l.members.entries ≡ with_members no_members (form_members l.counts.by_form (take l.form-index l.form-items))
