use Rattle.std.proofs.Common.{rules}
use Rattle.std.specs.Prelude.{◌==◌, Some, None}
use Rattle.std.proofs.lemmas.Iterator.{YieldsList-from_slice}
use Rattle.std.proofs.lemmas.Iterator.Search.{position_from_yields_List}
use borrow.Author.Tests.{tests}
use Rattle.uefi_hii.proofs.FirstByte.{finds_in_rest, is_first, not_in_rest}
use Rattle.uefi_hii.proofs.finding.index_from.Goals as goal

pub returns-in_err-position : goal.returns-in_err-position
returns-in_err-position c =
    let found = position_from_yields_List (λ b. b == c.args.byte) c.position.new.self _ None
    c.in_err-position.ensures.ran (YieldsList-from_slice _ c.iter.ensures.rest) (λ x b q k. search (rules, tests)) in
    rw c.from_residual.ensures
    (not_in_rest c.args.byte c.args.start c.args.bytes.now c.requires.within c.requires.none_before
    (is_first c.args.byte _ None found))

pub returns : goal.returns
returns c =
    let index = c.in_ok-position.field-0 in
    let found = position_from_yields_List (λ b. b == c.args.byte) c.position.new.self _ (Some index)
    c.in_ok-position.ensures.ran (YieldsList-from_slice _ c.iter.ensures.rest) (λ x b q k. search (rules, tests)) in
    finds_in_rest c.args.byte c.args.start c.args.bytes.now c.requires.within c.requires.none_before index
    (is_first c.args.byte _ (Some index) found)
