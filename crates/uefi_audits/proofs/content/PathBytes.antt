-- The bytes of device paths.
use Rattle.std.proofs.Common.{◌≡◌, ℕ, ◌+◌, List, [], ◌++◌, length, sym, ap, ◌∙◌, arith}
use Rattle.std.proofs.Common.{append-nil, length-append, Some, None}
use Rattle.std.proofs.lemmas.List.{nil_from_length}
use Rattle.uefi_base.specs.Prefix.{IsPrefix}
use Rattle.uefi_path.specs.Node.{Node, joined}
use Rattle.uefi_path.specs.Path.{HasPath, IsPath}
use Rattle.tcg_event.specs.Reading.{Reads}
use Rattle.uefi_audits.specs.content.Path.{ReadsNodes}

-- No path is a prefix, another length than the path's, and the whole path.
pub no_nodes : (bytes : List ℕ) → ¬ HasPath bytes → ReadsNodes bytes None
unfolding Reads
no_nodes bytes none nodes path same = none (nodes, path, ([], same ∙ sym (append-nil (joined nodes))))

pub longer : (bytes seen : List ℕ) (found : List Node)
    → ((path : List Node) → IsPath path → IsPrefix (joined path) bytes → path ≡ found)
    → seen ≡ joined found → (length seen ≡ length bytes → ⊥) → ReadsNodes bytes None
unfolding Reads
longer bytes seen found only seen_is other nodes path same =
    let is : nodes ≡ found = only nodes path ([], same ∙ sym (append-nil (joined nodes))) in
    other (ap length (seen_is ∙ sym (ap joined is) ∙ sym same))

pub whole_nodes : (bytes seen : List ℕ) (found : List Node) → IsPath found × IsPrefix (joined found) bytes
    → seen ≡ joined found → length seen ≡ length bytes → ReadsNodes bytes (Some found)
unfolding Reads
whole_nodes bytes seen found (path, (rest, is)) seen_is same =
    let none : length rest ≡ 0 = left (length seen) (length (joined found)) (length bytes) (length rest)
    (ap length seen_is)
    same (ap length is ∙ length-append (joined found) rest) in
    (path, is ∙ ap (λ r. joined found ++ r) (nil_from_length rest none) ∙ append-nil (joined found))
  where
    left : (seen found all rest : ℕ) → seen ≡ found → seen ≡ all → all ≡ found + rest → rest ≡ 0
    left seen found all rest one two three = omega arith
