use Rattle.std.proofs.Common.{rules}
use Rattle.std.proofs.lemmas.List.Sorted.{answers_always}
use Rattle.volatile_index.specs.declared.fills.Fill.{Fill}
use Rattle.volatile_index.proofs.FillLaws.{found_at, gap_at}
use Rattle.volatile_index.proofs.fills.place_of_page.Goals as goal

pub returns-clause-found : goal.returns-clause-found
returns-clause-found c =
    let facts = c.binary_search_by_key.ensures in
    found_at c.args.fills.now c.requires c.args.page _ facts.bound (facts.position (λ (fill : Fill). fill.page) (answers_always _ _ _ (λ f a r g called. search rules)))

pub returns-clause-gap : goal.returns-clause-gap
returns-clause-gap c =
    let facts = c.binary_search_by_key.ensures in
    gap_at c.args.fills.now c.requires c.args.page _ facts.bound (facts.position (λ (fill : Fill). fill.page) (answers_always _ _ _ (λ f a r g called. search rules)))
