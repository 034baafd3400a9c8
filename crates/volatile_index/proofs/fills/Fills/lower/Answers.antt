use Rattle.std.proofs.Common.{◌≡◌, ◌≤◌, ◌-◌, set, sym, ap, subst, ◌∙◌, arith}
use Rattle.std.specs.List.{remove}
use Rattle.std.proofs.lemmas.List.{get_or_default}
use Rattle.volatile_index.specs.Fills.{FillsView, no_fill, names_of, names_at, IsFillAt, IsFillGap, IsFirstOpen, IsSound, Raises}
use Rattle.volatile_index.proofs.FillLaws.{set_rising, set_some, set_lowers, less_rising, less_some, less_lowers, names_in_gap}
use Rattle.volatile_index.proofs.fills.Fills.lower.Goals as goal

pub invariant_of-self : goal.invariant_of-self
invariant_of-self c =
    let fills = c.self.inside.fills.items in
    let at = subst (λ list. IsFillAt list c.args.page c.in-Ok.place) c.deref.ensures.value c.in-Ok.ensures.found in
    subst (λ list. IsSound list c.pass_full-self-inside.result) (sym c.remove.ensures.items) (record {
      rising = less_rising fills c.self.inside.first_open c.self.invariant c.args.page c.in-Ok.place at;
      some = less_some fills c.self.inside.first_open c.self.invariant c.args.page c.in-Ok.place at;
      first = subst (λ list. IsFirstOpen list c.pass_full-self-inside.result) (c.deref-then-names-eq1.ensures.value ∙ c.remove.ensures.items) c.pass_full-self-inside.ensures;
    })

pub invariant_of-self-else-names-eq1 : goal.invariant_of-self-else-names-eq1
invariant_of-self-else-names-eq1 c =
    let fills = c.self.inside.fills.items in
    let at = subst (λ list. IsFillAt list c.args.page c.in-Ok.place) c.deref.ensures.value c.in-Ok.ensures.found in
    let read : names_of fills c.in-Ok.place ≡ c.index.result.now.names = grind (arith, c.index.ensures, at.within, get_or_default fills c.in-Ok.place no_fill c.index.result.now) in
    let some = c.self.invariant.some c.in-Ok.place at.within in
    let left : 1 ≤ c.index.result.now.names - 1 = grind (arith, read, some, c.if-names-eq1.false) in
    record {
      rising = set_rising fills c.self.inside.first_open c.self.invariant c.args.page c.in-Ok.place at (c.index.result.now.names - 1) left;
      some = set_some fills c.self.inside.first_open c.self.invariant c.args.page c.in-Ok.place at (c.index.result.now.names - 1) left;
      first = subst (λ list. IsFirstOpen list c.pass_full-self-inside-else-names-eq1.result) c.deref-else-names-eq1.ensures.value c.pass_full-self-inside-else-names-eq1.ensures;
    }

pub returns-then-names-eq1-clause-counts : goal.returns-then-names-eq1-clause-counts
returns-then-names-eq1-clause-counts c =
    let fills = c.self.inside.fills.items in
    let same : fills ≡ c.args.self.now.fills = ap (λ (view : FillsView). view.fills) c.self.view_is in
    let at = subst (λ list. IsFillAt list c.args.page c.in-Ok.place) c.deref.ensures.value c.in-Ok.ensures.found in
    let one : names_of fills c.in-Ok.place ≡ 1 = grind (arith, c.index.ensures, at.within, c.if-names-eq1.true, get_or_default fills c.in-Ok.place no_fill c.index.result.now) in
    subst (λ list. Raises c.args.page list c.args.self.now.fills) (sym c.remove.ensures.items)
    (subst (λ old. Raises c.args.page (remove fills c.in-Ok.place) old) same (less_lowers fills c.self.inside.first_open c.self.invariant c.args.page c.in-Ok.place at one))

pub returns-else-names-eq1-clause-counts : goal.returns-else-names-eq1-clause-counts
returns-else-names-eq1-clause-counts c =
    let fills = c.self.inside.fills.items in
    let same : fills ≡ c.args.self.now.fills = ap (λ (view : FillsView). view.fills) c.self.view_is in
    let at = subst (λ list. IsFillAt list c.args.page c.in-Ok.place) c.deref.ensures.value c.in-Ok.ensures.found in
    let read : names_of fills c.in-Ok.place ≡ c.index.result.now.names = grind (arith, c.index.ensures, at.within, get_or_default fills c.in-Ok.place no_fill c.index.result.now) in
    let some = c.self.invariant.some c.in-Ok.place at.within in
    let left : 1 ≤ c.index.result.now.names - 1 = grind (arith, read, some, c.if-names-eq1.false) in
    subst (λ old. Raises c.args.page (set fills c.in-Ok.place (record { page = c.args.page; names = c.index.result.now.names - 1 })) old) same (set_lowers fills c.self.inside.first_open c.self.invariant c.args.page c.in-Ok.place at (c.index.result.now.names - 1) left (omega (arith, read, some)))

pub returns-in_default-clause-counts : goal.returns-in_default-clause-counts
returns-in_default-clause-counts c =
    let fills = c.self.inside.fills.items in
    let same : fills ≡ c.args.self.now.fills = ap (λ (view : FillsView). view.fills) c.self.view_is in
    let none = names_in_gap fills c.args.page _ (subst (λ list. IsFillGap list c.args.page c.in_default.field-0) c.deref.ensures.value c.in_default.ensures.gap) in
    let some : 1 ≤ names_at fills c.args.page = subst (λ list. 1 ≤ names_at list c.args.page) (sym same) c.requires.some in
    absurd (omega (arith, none, some))
