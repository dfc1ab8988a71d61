use Rattle.std.proofs.Common.{◌∙◌}
use Rattle.std.specs.Str.{bytes_eq}
use Rattle.audit_text.proofs.text.CommonPrefix.{common_views}
use Rattle.audit_text.proofs.text.diff.change.words.common_count.Goals as goal

pub returns-clause-count : goal.returns-clause-count
returns-clause-count c =
    c.common_prefix_length.ensures.count ∙ common_views bytes_eq (λ word. word.now) c.args.old.now c.args.new.now
