use Rattle.std.specs.Fmt.{HasWritten, IsPlainFormatter}
use Rattle.std.specs.List.{flat_map}
use Rattle.boot_listing.specs.Json.{json_character}
use Rattle.boot_listing.proofs.json.write_text.Given as goal

-- The characters so far were written.
abbrev pub invariant-loop-character : goal.invariant-loop-character
invariant-loop-character g l =
    IsPlainFormatter l.fn.f
    → HasWritten g.W.Write.write_str_gives l.fn.f (flat_map json_character l.yielded) l.f
