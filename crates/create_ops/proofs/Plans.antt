-- What the plan of an entry says of the tree and of the words.
use Rattle.std.proofs.Common.{◌≡◌, ◌≢◌, inl, inr, ℕ, ◌≤◌, List, reverse, Option, None, is_some, sym, ap, subst, ◌∙◌, arith}
use Rattle.std.proofs.lemmas.Bool.{cases_eq, false≢true}
use Rattle.std.proofs.lemmas.List.{reverse-reverse}
use Rattle.layout.specs.Geometry.{inodes_of, inode_word_of}
use Rattle.layout.specs.Fields.{word}
use Rattle.layout.specs.Name.{IsName, IsBytes, words_of_name}
use Rattle.layout.proofs.Widths.{inode_words_written}
use Rattle.tree_model.specs.PathText.{Route}
use Rattle.tree_model.specs.Tree.{Node, IsTree, node_at, parent}
use Rattle.tree_model.specs.Capacity.{untaken}
use Rattle.tree_model.specs.Step.{making, least_free_id}
use Rattle.tree_model.specs.Run.{State}
use Rattle.tree_model.specs.declared.command.Command.TheVariants.{Create, Mkdir}
use Rattle.tree_model.specs.Accepted.{MayMake}
use Rattle.tree_model.proofs.AcceptedLaws.{Accepted-from_row}
use Rattle.tree_model.proofs.TreeLaws.{least_free_id-free}
use Rattle.image_reading.specs.Reading.{Names, Reached}
use Rattle.image_reading.specs.Repairs.{IsLitterInode}
use Rattle.image_reading.proofs.Tidied.{tidied}
use Rattle.image_laws.specs.Create.{CanMake}
use Rattle.inode_state.specs.States.{free_fields}
use Rattle.inode_state.specs.Inode.{fields_at}
use Rattle.layout.specs.declared.kinds.NodeKind.{NodeKind}
use Rattle.layout.specs.declared.kinds.NodeKind.TheVariants.{File, Directory}
use Rattle.volume.specs.declared.plan.NewEntry.{NewEntry}
use Rattle.volume.specs.declared.plan.Action.{Action}
use Rattle.volume.specs.declared.plan.Action.TheVariants.{Make}
use Rattle.volume.specs.Planned.{IsEntryFor, IsPlanned, IsPlanOf}
use Rattle.volume.proofs.PlannedFree.{least_id}
use Rattle.image_counts.proofs.States.{state_law}
use Rattle.create_ops.specs.Making.{IsPlannedAt}
use Rattle.entry_steps.proofs.Counts.{none_of}
use Rattle.entry_steps.proofs.Places
use Rattle.entry_steps.proofs.Places.{IsNamingAt}
use Rattle.entry_steps.proofs.Zeros.{zero_inode}

same_entry : (one two : NewEntry) → ◌≡◌ {A = Action} (Make one) (Make two) → two ≡ one
same_entry one two e = cc

entry_by : (P : ℕ) (I : List ℕ) (state : State) (path : Route) (kind : NodeKind) (entry : NewEntry) → IsPlanOf P I state (making kind path) (Make entry) → IsEntryFor P I state path kind entry
entry_by P I state path File entry (other, is, for) = subst (λ (e : NewEntry). IsEntryFor P I state path File e) (same_entry entry other is) for
entry_by P I state path Directory entry (other, is, for) = subst (λ (e : NewEntry). IsEntryFor P I state path Directory e) (same_entry entry other is) for

may_by : (P : ℕ) (I : List ℕ) (state : State) (path : Route) (kind : NodeKind) (action : Action) → IsTree state.tree → IsPlanned P I state (making kind path) action → MayMake (untaken P) state.tree state.room path
may_by P I state path File action tree planned = Accepted-from_row (untaken P) state.tree state.room (Create path) tree planned.accepted
may_by P I state path Directory action tree planned = Accepted-from_row (untaken P) state.tree state.room (Mkdir path) tree planned.accepted

module _ (P : ℕ) (W : List ℕ) (state : State) (path : Route) (entry : NewEntry) (at : IsPlannedAt P W state path entry) where
  pub for_entry : IsEntryFor P W state path entry.kind entry
  for_entry = entry_by P W state path entry.kind entry at.planned.plan_is

  pub may : MayMake (untaken P) state.tree state.room path
  may = may_by P W state path entry.kind (Make entry) (state_law P W state (tidied at.tidy).coherent at.reads).tree at.planned

  -- its name has a new place
  pub naming : IsNamingAt P W state path entry.directory entry.name entry.slot entry.new_page
  naming = record { tidy = at.tidy; reads = at.reads; may = may.place; new_name = for_entry.new_name }

  -- ---- the inode

  pub inode_is : entry.inode ≡ least_free_id state.tree
  inode_is = least_id P W state entry.inode (tidied at.tidy) at.reads for_entry.inode_is

  pub inode_within : entry.inode ≤ inodes_of P
  inode_within = for_entry.inode_is.free.1

  pub not_there : node_at state.tree entry.inode ≡ None
  not_there = ap (λ (i : ℕ). node_at state.tree i) inode_is ∙ least_free_id-free state.tree

  pub unreached : Reached P W entry.inode → ⊥
  unreached (route, names) =
      let is = (at.reads.tree.names (reverse route) entry.inode).1 (subst (λ (r : Route). Names P W r entry.inode) (sym (reverse-reverse route)) names) in
      false≢true (sym (ap (λ (o : Option Node). is_some o) not_there) ∙ (Places.volume_state naming).tree.present (reverse route) entry.inode is)

  pub from_two : 2 ≤ entry.inode
  from_two = for_entry.inode_is.from_two

  pub other : entry.directory ≢ entry.inode
  other same = unreached (subst (λ (i : ℕ). Reached P W i) same (Places.holds naming).0)

  pub inode_free : fields_at W entry.inode ≡ free_fields
  inode_free = zero_inode W entry.inode (λ f lt. elim (cases_eq (word W (inode_word_of entry.inode f)) 0) [
    | inl is ↦ is
    | inr ne ↦ absurd (none_of (IsLitterInode P W) entry.inode at.tidy.repaired.of_inodes
        (record { least = omega (arith, from_two); most = inode_within; unreached = unreached; nonzero = (f, omega (arith, lt, inode_words_written W), ne) }))
  ])

  pub can : IsName entry.name → IsBytes entry.name → CanMake P W (reverse (parent path)) entry.directory entry.inode (words_of_name entry.name)
  can is_name of_bytes = record { place = Places.can_name naming is_name of_bytes; least = from_two; most = inode_within; unreached = unreached }
