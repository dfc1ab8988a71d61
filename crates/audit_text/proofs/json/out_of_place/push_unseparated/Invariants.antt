use Rattle.std.proofs.Common.{◌≡◌, ◌++◌, take, string_bytes}
use Rattle.std.specs.List.{flat_map}
use Rattle.audit_text.specs.json.OutOfPlace.{unseparated_line}
use Rattle.audit_text.proofs.json.out_of_place.push_unseparated.Given as goal

-- The lines of the PCRs so far were appended.
abbrev pub invariant-loop-pcr : goal.invariant-loop-pcr
invariant-loop-pcr l =
    string_bytes l.text ≡ string_bytes l.initial.text ++ flat_map (unseparated_line l.log) (take l.pcr-index l.pcrs)
