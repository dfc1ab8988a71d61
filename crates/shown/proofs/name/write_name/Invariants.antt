use Rattle.std.specs.Fmt.{HasWritten, IsPlainFormatter}
use Rattle.std.specs.List.{flat_map}
use Rattle.shown.specs.Name.{shown_character}
use Rattle.shown.proofs.name.write_name.Given as goal

-- The characters so far were written.
abbrev pub invariant-loop-character : goal.invariant-loop-character
invariant-loop-character g l =
    IsPlainFormatter l.fn.f
    → HasWritten g.W.Write.write_str_gives l.fn.f (flat_map shown_character l.yielded) l.f
