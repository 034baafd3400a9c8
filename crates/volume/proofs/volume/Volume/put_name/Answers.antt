-- The directory has its page, where there is one, and its entries are as they were.
use Rattle.std.proofs.Common.{ℕ, List, [], ◌∷◌, Option, refl, sym, ap, subst}
use Rattle.volatile_index.specs.Entries.{IsAbsent}
use Rattle.volatile_index.specs.declared.entry.Entry.{Entry}
use Rattle.volume.specs.Volume.{VolumeView}
use Rattle.volume.specs.Entered.{pages_of_option, PutsPages}
use Rattle.volume.specs.contracts.volume.Volume.{the_view}
use Rattle.volume.proofs.Grown.{none_put}
use Rattle.volume.proofs.volume.Volume.put_name.Goals.{in-Some, in_default}
use Rattle.volume.proofs.volume.Volume.put_name.Goals as goal

opened : (c : goal.After-put-arg-1) → PutsPages c.args.self.now (the_view c.match-new_page.self-inside) c.args.directory (pages_of_option c.args.new_page)
opened c = elim c.match-new_page.branch [
  | in-Some w ↦
      subst (λ (page : Option ℕ). PutsPages c.args.self.now (the_view c.match-new_page.self-inside) c.args.directory (pages_of_option page)) (sym w.in-Some.is)
      (subst (λ (old : VolumeView). PutsPages old (the_view c.match-new_page.self-inside) c.args.directory (w.in-Some.page ∷ [])) c.self.view_is
      (subst (λ (now : VolumeView). PutsPages (the_view c.self.inside) now c.args.directory (w.in-Some.page ∷ [])) (sym (ap the_view w.self-inside-is))
      (record { index = w.push_page.ensures; rest = refl })))
  | in_default w ↦
      subst (λ (page : Option ℕ). PutsPages c.args.self.now (the_view c.match-new_page.self-inside) c.args.directory (pages_of_option page)) (sym w.in_default.is)
      (subst (λ (old : VolumeView). PutsPages old (the_view c.match-new_page.self-inside) c.args.directory []) c.self.view_is
      (subst (λ (now : VolumeView). PutsPages (the_view c.self.inside) now c.args.directory []) (sym (ap the_view w.self-inside-is))
      (none_put (the_view c.self.inside) c.args.directory)))
]

pub put-requires-clause-absent : goal.put-requires-clause-absent
put-requires-clause-absent c = subst (λ (entries : List Entry). IsAbsent entries c.args.name) (sym (opened c).index.node.entries) c.requires.may_put.absent

pub returns : goal.returns
returns c = record { opened = the_view c.match-new_page.self-inside; page = opened c.before; index = c.put.ensures; rest = refl }
