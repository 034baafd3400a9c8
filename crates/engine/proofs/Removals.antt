-- The command of a removal's plan, by the kind of what it names.
use Rattle.std.proofs.Common.{◌≡◌, inl, inr, ℕ, true, false, List, Option, Some, None, refl, sym, ap, subst, ◌∙◌}
use Rattle.layout.specs.declared.kinds.NodeKind.{NodeKind}
use Rattle.layout.specs.declared.kinds.NodeKind.TheVariants.{File, Directory}
use Rattle.tree_model.specs.PathText.{Route}
use Rattle.tree_model.specs.Tree.{id_at, is_directory, is_directory_node, IsTree}
use Rattle.tree_model.specs.Capacity.{untaken}
use Rattle.tree_model.specs.Step.{refusal_of}
use Rattle.tree_model.specs.Run.{State}
use Rattle.tree_model.specs.declared.command.Command.{Command}
use Rattle.tree_model.specs.declared.command.Command.TheVariants.{Unlink, Rmdir}
use Rattle.tree_model.proofs.AcceptedLaws.{Accepted-from_row}
use Rattle.volume.specs.Moves.{is_directory_kind}
use Rattle.volume.specs.declared.plan.Action.TheVariants.{Remove}
use Rattle.volume.specs.Planned.{IsRemovalFor, IsPlanned}
use Rattle.volume.specs.declared.plan.Removal.{Removal}
use Rattle.volume.proofs.PlanActions.{planned_removing}

-- an unlink takes the name of a file away, a rmdir that of a directory
abbrev pub removing : NodeKind → Route → Command
removing File path = Unlink path
removing Directory path = Rmdir path

unlinking : (kind : NodeKind) (path : Route) → is_directory_kind kind ≡ false → Unlink path ≡ removing kind path
unlinking File path is = refl
unlinking Directory path is = absurd (cc is)

emptying : (kind : NodeKind) (path : Route) → is_directory_kind kind ≡ true → Rmdir path ≡ removing kind path
emptying File path is = absurd (cc is)
emptying Directory path is = refl

same_inode : (i j : ℕ) → ◌≡◌ {A = Option ℕ} (Some i) (Some j) → i ≡ j
same_inode i j e = cc

module _ (P : ℕ) (I : List ℕ) (state : State) (tree : IsTree state.tree) (command : Command) (removal : Removal) where
  -- the kind is that of the node which the path names
  kind_at : (path : Route) (id : ℕ) → IsRemovalFor P I state command path removal → id_at state.tree path ≡ Some id → is_directory_kind removal.loss.kind ≡ is_directory state.tree id
  kind_at path id for named = sym for.loss.kind_is ∙ ap (is_directory state.tree) (same_inode removal.loss.inode id (sym for.named.inode_is ∙ named))

  pub planned_removal : IsPlanned P I state command (Remove removal) → (path : Route) × (command ≡ removing removal.loss.kind path)
  planned_removal planned =
      let (path, which, for) = planned_removing P I state command removal planned.plan_is in
      elim which [
        | inl is ↦
            let source = (Accepted-from_row (untaken P) state.tree state.room (Unlink path) tree (subst (λ (c : Command). refusal_of P state.tree state.room c ≡ None) is planned.accepted)).source in
            (path, is ∙ unlinking removal.loss.kind path (kind_at path source.id for source.named ∙ ap is_directory_node source.file))
        | inr is ↦
            let source = (Accepted-from_row (untaken P) state.tree state.room (Rmdir path) tree (subst (λ (c : Command). refusal_of P state.tree state.room c ≡ None) is planned.accepted)).source in
            (path, is ∙ emptying removal.loss.kind path (kind_at path source.id for source.named ∙ source.directory))
      ]
