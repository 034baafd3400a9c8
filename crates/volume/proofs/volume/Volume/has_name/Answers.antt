use Rattle.std.proofs.Common.{◌≡◌, ℕ, false, List, Contains, Option, Some, None, is_some, sym, subst, ◌∙◌}
use Rattle.std.specs.Prelude.{MatchOption}
use Rattle.volatile_index.specs.Entries.{IsAbsent}
use Rattle.volatile_index.specs.Index.{entries_of}
use Rattle.volatile_index.specs.declared.entry.Entry.{Entry}
use Rattle.volume.specs.Volume.{VolumeView}
use Rattle.volume.proofs.volume.Volume.has_name.Goals as goal

absent_at_none : (entries : List Entry) (name : List ℕ) (o : Option ℕ) → is_some o ≡ false
    → MatchOption o (IsAbsent entries name) (λ slot. Contains entries (record { name = name; slot = slot })) → IsAbsent entries name
absent_at_none entries name None e h = h
absent_at_none entries name (Some slot) e h = cc

pub returns-clause-absent : goal.returns-clause-absent
returns-clause-absent c = λ none.
    let inside = absent_at_none (entries_of c.self.inside.index c.args.directory) c.args.name.now c.find.result (sym c.is_some.ensures ∙ none) c.find.ensures.slot in
    subst (λ (volume : VolumeView). IsAbsent (entries_of volume.index c.args.directory) c.args.name.now) c.self.view_is inside
