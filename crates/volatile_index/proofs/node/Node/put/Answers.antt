use Rattle.std.proofs.Common.{◌≡◌, ◌+◌, ◌/◌, ◌∷◌, ◌++◌, take, drop, length, IsTrue, ap, sym, subst, ◌∙◌, arith, rules}
use Rattle.std.proofs.lemmas.List.Edits.{length-insert}
use Rattle.volatile_index.specs.declared.entry.Entry.{Entry}
use Rattle.volatile_index.specs.Entries.{IsSorted, IsAbsent, IsWithEntry, names_in}
use Rattle.volatile_index.specs.Fills.{names_at}
use Rattle.volatile_index.specs.Index.{NodeView}
use Rattle.volatile_index.proofs.Places.{sorted_with, with_entry, found_not_absent}
use Rattle.volatile_index.proofs.FillCounts.{names_fit, counted_with, both}
use Rattle.volatile_index.proofs.node.Node.put.Goals as goal

-- the entries with the new one in its place
items_then : (c : goal.After-raise) → c.insert.new.self.items ≡ take c.in-Err.place c.self.inside.entries.items ++ record { name = c.args.name; slot = c.args.slot } ∷ drop c.in-Err.place c.self.inside.entries.items
items_then c = c.insert.ensures

sorted_then : (c : goal.After-raise) → IsSorted c.insert.new.self.items
sorted_then c =
    let entry : Entry = record { name = c.args.name; slot = c.args.slot } in
    let before = c.self.inside.entries.items in
    subst IsSorted (sym (items_then c)) (sorted_with before c.in-Err.place entry c.self.invariant.sorted c.in-Err.ensures.gap)

pub raise-requires : goal.raise-requires
raise-requires c = record {
  room = (both c.self.inside.entries.has_room c.self.inside.fills.has_room (subst (λ (held : NodeView). IsTrue held.has_place) (sym c.self.view_is) c.requires.room)).1;
  fits =
      let before = c.self.inside.entries.items in
      let is = c.self.invariant.counts (c.args.slot / 32) in
      let most = names_fit before (c.args.slot / 32) in
      let entry : Entry = record { name = c.args.name; slot = c.args.slot } in
      let more = length-insert before c.in-Err.place entry c.in-Err.ensures.gap.within in
      let after : length c.insert.new.self.items ≡ length before + 1 = ap length c.insert.ensures ∙ more in
      let count = c.len-count.ensures in
      omega (arith, is, most, after, count, c.len-count.type_inv);
}

pub invariant_of-self : goal.invariant_of-self
invariant_of-self c =
    let entry : Entry = record { name = c.args.name; slot = c.args.slot } in
    let before = c.self.inside.entries.items in
    record {
      sorted = sorted_then c;
      counts = λ page. subst (λ entries. names_at c.raise.new.self.fills page ≡ names_in entries page) (sym (items_then c))
          (counted_with before c.self.inside.fills.fills c.raise.new.self.fills c.in-Err.place entry c.self.invariant c.raise.ensures page);
    }

pub returns-in-Err : goal.returns-in-Err
returns-in-Err c = record {
  entries =
      let entry : Entry = record { name = c.args.name; slot = c.args.slot } in
      subst (λ before. IsWithEntry before c.insert.new.self.items entry) (ap (λ (node : NodeView). node.entries) c.self.view_is)
      (subst (λ after. IsWithEntry c.self.inside.entries.items after entry) (sym (items_then c)) (with_entry c.self.inside.entries.items c.in-Err.place entry));
  sorted = sorted_then c;
  pages = search rules;
  page_places = search rules;
}

pub returns-in_default : goal.returns-in_default
returns-in_default c =
    let same = ap (λ (node : NodeView). node.entries) c.self.view_is in
    absurd (found_not_absent _ _ _ c.in_default.ensures.found (subst (λ entries. IsAbsent entries c.args.name) (sym same) c.requires.absent))
