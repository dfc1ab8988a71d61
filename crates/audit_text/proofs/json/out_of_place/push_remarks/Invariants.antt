use Rattle.std.proofs.Common.{◌≡◌, ◌++◌, map, take, string_bytes}
use Rattle.std.specs.List.{flat_map}
use Rattle.uefi_audits.specs.OutOfPlace.{misplaced_of}
use Rattle.audit_text.specs.json.OutOfPlace.{misplaced_line}
use Rattle.audit_text.proofs.json.out_of_place.push_remarks.Given as goal

-- The lines of the events so far were appended.
abbrev pub invariant-loop-event : goal.invariant-loop-event
invariant-loop-event l =
    string_bytes l.text
    ≡ string_bytes l.initial.text ++ flat_map (misplaced_line l.log) (map misplaced_of (take l.event-index l.event-items))
