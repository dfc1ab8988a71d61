use Rattle.std.proofs.Common.{◌≡◌, false, rules, string_bytes, subst, sym, tests}
use Rattle.std.specs.Prelude.{IsUtf8}
use Rattle.std.specs.List.{list_any}
use Rattle.std.specs.Str.{chars}
use Rattle.shown.specs.Name.{is_control}
use Rattle.audit_text.proofs.json.Plain.{plain}
use Rattle.audit_text.proofs.json.line.escaped.Goals as goal

pub returns : goal.returns
returns c =
    let text = string_bytes c.args.text in
    let is_plain : list_any is_control (chars text) ≡ false = search (rules, tests) in
    sym (plain text (subst IsUtf8 c.as_str.ensures.value c.as_str.utf8) is_plain)
