use Rattle.std.proofs.Common.{◌≡◌, ◌+◌, ◌<◌, ◌^◌, set, sym, ap, subst, arith}
use Rattle.std.specs.List.{insert}
use Rattle.std.proofs.lemmas.Bool.Decides.{nat_tests}
use Rattle.std.proofs.lemmas.List.{get_or_default}
use Rattle.volatile_index.specs.Fills.{FillsView, no_fill, names_of, names_at, IsFillAt, IsFillGap, IsSound, Raises}
use Rattle.volatile_index.proofs.FillLaws.{names_here, set_raises, more_sound, more_raises}
use Rattle.volatile_index.proofs.fills.Fills.raise.Goals as goal

pub overflow_add-names : goal.overflow_add-names
overflow_add-names c =
    let fills = c.self.inside.fills.items in
    let same : fills ≡ c.args.self.now.fills = ap (λ (view : FillsView). view.fills) c.self.view_is in
    let at = subst (λ list. IsFillAt list c.args.page c.in-Ok.place) c.deref.ensures.value c.in-Ok.ensures.found in
    let is = names_here fills c.args.page c.in-Ok.place c.self.invariant.rising at in
    let read : names_of fills c.in-Ok.place ≡ c.index.result.now.names = grind (arith, c.index.ensures, at.within, get_or_default fills c.in-Ok.place no_fill c.index.result.now) in
    let fits : names_at fills c.args.page + 1 < 2 ^ 64 = subst (λ list. names_at list c.args.page + 1 < 2 ^ 64) (sym same) c.requires.fits in
    omega (arith, is, read, fits)

pub returns-in-Ok : goal.returns-in-Ok
returns-in-Ok c =
    let fills = c.self.inside.fills.items in
    let same : fills ≡ c.args.self.now.fills = ap (λ (view : FillsView). view.fills) c.self.view_is in
    let at = subst (λ list. IsFillAt list c.args.page c.in-Ok.place) c.deref.ensures.value c.in-Ok.ensures.found in
    let read : names_of fills c.in-Ok.place ≡ c.index.result.now.names = grind (arith, c.index.ensures, at.within, get_or_default fills c.in-Ok.place no_fill c.index.result.now) in
    subst (λ old. Raises c.args.page old (set fills c.in-Ok.place (record { page = c.args.page; names = c.index.result.now.names + 1 }))) same (set_raises fills c.self.inside.first_open c.self.invariant c.args.page c.in-Ok.place at (c.index.result.now.names + 1) (omega arith) (omega (arith, read)))

pub invariant_of-self-in-Err : goal.invariant_of-self-in-Err
invariant_of-self-in-Err c =
    let fills = c.self.inside.fills.items in
    let items : c.insert.new.self.items ≡ insert fills c.in-Err.place (record { page = c.args.page; names = 1 }) = grind (arith, nat_tests, c.insert.ensures, c.requires.room, c.self.view_is) in
    let lowest = c.min-self-inside.ensures in
    subst (λ list. IsSound list c.min-self-inside.result) (sym items)
    (more_sound fills c.self.inside.first_open c.self.invariant c.args.page c.in-Err.place (subst (λ list. IsFillGap list c.args.page c.in-Err.place) c.deref.ensures.value c.in-Err.ensures.gap) c.min-self-inside.result (omega (arith, lowest)) (omega (arith, lowest)) (λ le. omega (arith, lowest, le)) (λ le. omega (arith, lowest, le)))

pub returns-in-Err : goal.returns-in-Err
returns-in-Err c =
    let fills = c.self.inside.fills.items in
    let same : fills ≡ c.args.self.now.fills = ap (λ (view : FillsView). view.fills) c.self.view_is in
    let items : c.insert.new.self.items ≡ insert fills c.in-Err.place (record { page = c.args.page; names = 1 }) = grind (arith, nat_tests, c.insert.ensures, c.requires.room, c.self.view_is) in
    subst (λ list. Raises c.args.page c.args.self.now.fills list) (sym items)
    (subst (λ old. Raises c.args.page old (insert fills c.in-Err.place (record { page = c.args.page; names = 1 }))) same (more_raises fills c.self.inside.first_open c.self.invariant c.args.page c.in-Err.place (subst (λ list. IsFillGap list c.args.page c.in-Err.place) c.deref.ensures.value c.in-Err.ensures.gap)))
