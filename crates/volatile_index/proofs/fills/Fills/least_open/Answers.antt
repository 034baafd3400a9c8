use Rattle.std.proofs.Common.{◌≡◌, ℕ, ap, subst, arith}
use Rattle.std.proofs.lemmas.List.{get_or_default}
use Rattle.volatile_index.specs.Fills.{FillsView, no_fill, page_of, IsOpenIn, IsLeastOpenIn}
use Rattle.volatile_index.proofs.FillLaws.{no_room, least_room}
use Rattle.volatile_index.proofs.fills.Fills.least_open.Goals as goal

pub returns-then-self-len : goal.returns-then-self-len
returns-then-self-len c =
    let same : c.self.inside.fills.items ≡ c.args.self.now.fills = ap (λ (view : FillsView). view.fills) c.self.view_is in
    let least = least_room c.self.inside.fills.items c.self.inside.first_open c.self.invariant (grind (arith, c.if-self-len.true, c.len.ensures)) in
    let page : page_of c.self.inside.fills.items c.self.inside.first_open ≡ c.index.result.now.page = grind (arith, c.index.ensures, c.if-self-len.true, c.len.ensures, get_or_default c.self.inside.fills.items c.self.inside.first_open no_fill c.index.result.now) in
    subst (λ fills. IsLeastOpenIn fills c.index.result.now.page) same (subst (λ p. IsLeastOpenIn c.self.inside.fills.items p) page least)

pub returns-else-self-len : goal.returns-else-self-len
returns-else-self-len c =
    let same : c.self.inside.fills.items ≡ c.args.self.now.fills = ap (λ (view : FillsView). view.fills) c.self.view_is in
    subst (λ fills. (page : ℕ) → ¬ IsOpenIn fills page) same (no_room c.self.inside.fills.items c.self.inside.first_open c.self.invariant (grind (arith, c.if-self-len.false, c.len.ensures)))
