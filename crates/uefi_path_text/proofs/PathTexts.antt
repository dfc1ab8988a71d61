-- Texts of nodes, one after another.
use Rattle.std.proofs.Common.{◌≡◌, ℕ, List, [], ◌∷◌, ◌++◌, Bool, true, false, cond, refl, sym, ◌∙◌, ap, append_assoc}
use Rattle.std.proofs.lemmas.List.{append-nil}
use Rattle.std.proofs.Output.{writes_in_calls_nil, has_written_append, has_written_of_eq}
use Rattle.std.specs.Fmt.{HasWritten, IsPlainFormatter}
use Rattle.std.specs.declared.fmt.Formatter.{Formatter}
use Rattle.uefi_path.specs.Node.{Node}
use Rattle.uefi_path_text.specs.text.NodeText.{node_text, is_plain_end}
use Rattle.uefi_path_text.specs.text.PathText.{separator, nodes_text, shown, is_shown_end, path_text}
use Rattle.uefi_path_text.specs.declared.text.style.Style.{Style}

-- A part of the text of all nodes is written, and the text of the nodes that are left follows it.
pub record WritesUpTo {W : Type 0} (took : W → List ℕ → W → Type 0) (old : Formatter W) (style : Style)
    (all : List Node) (is_first : Bool) (left : List Node) (new : Formatter W) : Type 0 where
  pub part : List ℕ
  pub written : HasWritten took old part new
  pub whole : path_text style all ≡ part ++ nodes_text style is_first (shown left)

-- The nodes before the last have a text.
shown-cons : (node : Node) (nodes : List Node) (end : Node)
    → shown (node ∷ nodes ++ (end ∷ [])) ≡ node ∷ shown (nodes ++ (end ∷ []))
unfolding shown
shown-cons node [] end = refl
shown-cons node (next ∷ nodes) end = refl

-- Before the first node nothing is written.
pub none_written : {W : Type 0} (took : W → List ℕ → W → Type 0) (f : Formatter W) (style : Style) (all left : List Node)
    → left ≡ all → IsPlainFormatter f → WritesUpTo took f style all true left f
none_written took f style all left same plain = record {
  part = [];
  written = record { wrote = writes_in_calls_nil took f.writer; plain = plain };
  whole = ap (λ nodes. path_text style nodes) (sym same);
}

-- After one more node.
pub next_written : {W : Type 0} (took : W → List ℕ → W → Type 0) (old now new : Formatter W) (style : Style)
    (all nodes : List Node) (node end : Node) (is_first : Bool)
    → WritesUpTo took old style all is_first (node ∷ nodes ++ (end ∷ [])) now
    → HasWritten took now (separator is_first node ++ node_text style node) new
    → WritesUpTo took old style all (is_plain_end 0x01 node) (nodes ++ (end ∷ [])) new
unfolding nodes_text
next_written took old now new style all nodes node end is_first before written =
    let text : List ℕ = separator is_first node ++ node_text style node in
    let rest : List ℕ = nodes_text style (is_plain_end 0x01 node) (shown (nodes ++ (end ∷ []))) in
    let next : nodes_text style is_first (shown (node ∷ nodes ++ (end ∷ []))) ≡ text ++ rest =
    ap (λ l. nodes_text style is_first l) (shown-cons node nodes end)
    ∙ sym (append_assoc (separator is_first node) (node_text style node) rest) in
    record {
      part = before.part ++ text;
      written = has_written_append took old before.part now text new before.written written;
      whole = before.whole ∙ ap (λ l. before.part ++ l) next ∙ sym (append_assoc before.part text rest);
    }

-- After all nodes, if the end is written, and if it isn't.
pub end_written : {W : Type 0} (took : W → List ℕ → W → Type 0) (old now new : Formatter W) (style : Style)
    (all : List Node) (end : Node) (is_first : Bool) → WritesUpTo took old style all is_first (end ∷ []) now
    → is_shown_end end ≡ true → HasWritten took now (separator is_first end ++ node_text style end) new
    → HasWritten took old (path_text style all) new
unfolding nodes_text shown
end_written took old now new style all end is_first before has_text written =
    let text : List ℕ = separator is_first end ++ node_text style end in
    let last : nodes_text style is_first (shown (end ∷ [])) ≡ text =
    ap (λ b. nodes_text style is_first (cond b (end ∷ []) [])) has_text
    ∙ ap (λ l. separator is_first end ++ l) (append-nil (node_text style end)) in
    has_written_of_eq took old (before.part ++ text) (path_text style all) new
    (sym (before.whole ∙ ap (λ l. before.part ++ l) last))
    (has_written_append took old before.part now text new before.written written)

pub no_end_written : {W : Type 0} (took : W → List ℕ → W → Type 0) (old now : Formatter W) (style : Style)
    (all : List Node) (end : Node) (is_first : Bool) → WritesUpTo took old style all is_first (end ∷ []) now
    → is_shown_end end ≡ false → HasWritten took old (path_text style all) now
unfolding nodes_text shown
no_end_written took old now style all end is_first before has_none =
    let last : nodes_text style is_first (shown (end ∷ [])) ≡ [] =
    ap (λ b. nodes_text style is_first (cond b (end ∷ []) [])) has_none in
    has_written_of_eq took old before.part (path_text style all) now
    (sym (before.whole ∙ ap (λ l. before.part ++ l) last ∙ append-nil before.part)) before.written
