use Rattle.std.proofs.Common.{◌≡◌, ◌++◌, take, string_bytes}
use Rattle.audit_text.specs.private.Forms.{has_some, opened}
use Rattle.audit_text.specs.text.Check.{form_texts}
use Rattle.audit_text.proofs.text.check.push_forms.Given as goal

-- The forms so far in which any event matches were appended, and whether there is one is known.
abbrev pub invariant-loop-form : goal.invariant-loop-form
invariant-loop-form g l = record {
  text : string_bytes l.text
      ≡ string_bytes l.initial.text ++ opened (form_texts l.counts.by_form (take l.form-index l.form-items));
  any : l.any ≡ has_some (form_texts l.counts.by_form (take l.form-index l.form-items));
}
