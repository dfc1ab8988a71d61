-- The parts that reads give, one after another.
use Rattle.std.proofs.Common.{◌≡◌, ◌+◌, ◌≤◌, ℕ, List, Option, [], ◌++◌, length, take, append-nil, length-append, arith, sym, IfSome}
use Rattle.std.proofs.lemmas.List.{length-take}
use Rattle.std.specs.Io.KnownBytes.{Consumes, IsAtEnd, Keeps}
use Rattle.std.proofs.KnownBytes.{Consumes-trans, Consumes-whole, Consumes-kept}
use Rattle.file_input.specs.Reads.{AreGiven, part_length}

-- One more read gives another part, the first bytes of its buffer.
pub one_more : (reads : ℕ) (a b c : Option (List ℕ)) (bytes buffer : List ℕ) (count : ℕ) → AreGiven reads a b bytes
    → Consumes b c (take count buffer) → length buffer ≡ part_length → AreGiven (reads + 1) a c (bytes ++ take count buffer)
one_more reads a b c bytes buffer count given more room = record {
  short =
      let both = length-append bytes (take count buffer) in
      let part = length-take count buffer in
      omega (arith, given.short, room);
  taken = Consumes-trans a b c bytes (take count buffer) given.taken more;
}

-- An interrupted read gives none.
pub one_interrupted : (reads : ℕ) (a b c : Option (List ℕ)) (bytes : List ℕ) → AreGiven reads a b bytes → Keeps b c
    → AreGiven (reads + 1) a c bytes
one_interrupted reads a b c bytes given kept = record {
  short = omega (arith, given.short);
  taken = Consumes-kept a b c bytes given.taken kept;
}

-- What so many reads gave, more reads give as well.
pub more_allowed : (reads most : ℕ) (a b : Option (List ℕ)) (bytes : List ℕ) → AreGiven reads a b bytes → reads ≤ most
    → AreGiven most a b bytes
more_allowed reads most a b bytes given fewer = record {
  short = omega (arith, given.short, fewer);
  taken = given.taken;
}

-- All bytes were given, if one more read gives none, and finds the end.
pub all_given : (reads : ℕ) (a b c : Option (List ℕ)) (bytes : List ℕ) → AreGiven reads a b bytes → Consumes b c [] → IsAtEnd c
    → IfSome a (λ all. bytes ≡ all)
all_given reads a b c bytes given none end =
    Consumes-whole a c (bytes ++ []) (λ all. bytes ≡ all) (Consumes-trans a b c bytes [] given.taken none) end
    (sym (append-nil bytes))
