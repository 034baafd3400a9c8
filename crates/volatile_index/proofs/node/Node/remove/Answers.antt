use Rattle.std.proofs.Common.{◌≡◌, ℕ, ◌++◌, suc, take, drop, slice_get, IsTrue, IsSomeAnd, ap, sym, subst, ◌∙◌, rules}
use Rattle.volatile_index.specs.Entries.{IsSorted, IsAbsent, IsPresent, IsWithEntry, names_in}
use Rattle.volatile_index.specs.Fills.{names_at}
use Rattle.volatile_index.specs.Index.{NodeView}
use Rattle.volatile_index.proofs.FillCounts.{counted_without, some_there, both, from_both}
use Rattle.volatile_index.proofs.EntryLaws.{absent_without}
use Rattle.volatile_index.proofs.Places.{sorted_without, without_entry, gap_not_present}
use Rattle.volatile_index.proofs.node.Node.remove.Goals as goal

pub lower-requires : goal.lower-requires
lower-requires c = record { some = some_there c.self.inside.entries.items c.self.inside.fills.fills c.in-Ok.place c.remove-entry.result c.self.invariant c.remove-entry.ensures.item }

pub invariant_of-self : goal.invariant_of-self
invariant_of-self c =
    let before = c.self.inside.entries.items in
    record {
      sorted = subst IsSorted (sym c.remove-entry.ensures.items) (sorted_without before c.in-Ok.place c.self.invariant.sorted);
      counts = λ page. subst (λ entries. names_at c.lower.new.self.fills page ≡ names_in entries page) (sym c.remove-entry.ensures.items)
          (counted_without before c.self.inside.fills.fills c.lower.new.self.fills c.in-Ok.place c.remove-entry.result c.self.invariant c.lower.ensures.counts c.remove-entry.ensures.item page);
    }

pub returns-in-Ok : goal.returns-in-Ok
returns-in-Ok c =
    let same : c.self.inside.entries.items ≡ c.args.self.now.entries = ap (λ (held : NodeView). held.entries) c.self.view_is in
    let without = ap (λ entries. take c.in-Ok.place entries ++ drop (suc c.in-Ok.place) entries) same in
    let found : IsSomeAnd (slice_get c.args.self.now.entries c.in-Ok.place) (λ entry. entry.name ≡ c.args.name.now) =
    subst (λ entries. IsSomeAnd (slice_get entries c.in-Ok.place) (λ entry. entry.name ≡ c.args.name.now)) same c.in-Ok.ensures.found in
    let removed = without_entry c.args.self.now.entries c.in-Ok.place c.args.name.now found in
    let sorted = subst IsSorted same c.self.invariant.sorted in
    record {
      entries = subst (λ entries. (slot : ℕ) × IsWithEntry entries c.args.self.now.entries (record { name = c.args.name.now; slot = slot })) (sym (c.remove-entry.ensures.items ∙ without)) removed;
      absent = subst (λ entries. IsAbsent entries c.args.name.now) (sym (c.remove-entry.ensures.items ∙ without)) (absent_without _ _ _ removed.1 sorted);
      sorted = subst IsSorted (sym (c.remove-entry.ensures.items ∙ without)) (sorted_without c.args.self.now.entries c.in-Ok.place sorted);
      place = λ there.
          let before = both c.self.inside.entries.has_room c.self.inside.fills.has_room (subst (λ (held : NodeView). IsTrue held.has_place) (sym c.self.view_is) there) in
          from_both c.remove-entry.new.self.has_room c.lower.new.self.has_room (c.remove-entry.ensures.room before.0) (c.lower.ensures.room before.1);
      pages = search rules;
      page_places = search rules;
    }

pub returns-in_default : goal.returns-in_default
returns-in_default c =
    let same = ap (λ (held : NodeView). held.entries) c.self.view_is in
    absurd (gap_not_present _ _ _ c.in_default.ensures.gap (subst (λ entries. IsPresent entries c.args.name.now) (sym same) c.requires.present))
