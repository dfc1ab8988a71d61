use Rattle.std.proofs.Common.{refl, sym, rules}
use Rattle.std.proofs.lemmas.List.{length-set}
use Rattle.sm3.proofs.Expanding.{take_more_words, words_none}
use Rattle.sm3.proofs.compression.expand.Goals as goal

pub words-init : goal.words-init
words-init c = (refl, sym (words_none c.args.block.now))

pub words-preserved : goal.words-preserved
words-preserved c = (
  search (rules, length-set),
  take_more_words c.args.block.now c.words.words c.words.j _ c.words.invariant.1 (search rules) c.word.ensures,
)
