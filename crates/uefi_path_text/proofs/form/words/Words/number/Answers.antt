use Rattle.std.proofs.Common.{sym, ◌∙◌}
use Rattle.uefi_path_text.proofs.arguments.Finding.{word_number_at, no_word_more, within_max}
use Rattle.uefi_path_text.proofs.form.words.Words.number.Goals as goal

pub returns-then-eq-clause-ok : goal.returns-then-eq-clause-ok
returns-then-eq-clause-ok c =
    word_number_at c.args.self c.args.text.now c.list-word-items.result.now c.loop-word.word-index _ c.list-word-items.ensures c.loop-word-test.true c.loop-word.invariant.0 (rw c.as_bytes.ensures.value at (sym c.eq.ensures ∙ c.if-eq.true))

pub loop-word-preserved : goal.loop-word-preserved
loop-word-preserved c = (
  no_word_more c.args.text.now c.list-word-items.result.now c.loop-word.word-index _ c.loop-word-test.true c.loop-word.invariant.0 (rw c.as_bytes.ensures.value at (sym c.eq.ensures ∙ c.if-eq.false)),
  rw c.max-farthest.ensures (within_max c.loop-word.farthest _ _ c.loop-word.invariant.1 c.common_length.ensures),
)
