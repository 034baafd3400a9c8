-- Another call has made a step, and one more name for a file waits still.
use Rattle.std.proofs.Common.{◌≡◌, inl, inr, ℕ, ◌+◌, [], ◌∷◌, length, refl, sym, ap, subst, ◌∙◌, arith}
use Rattle.pm_trait.specs.DeviceView.{DeviceView}
use Rattle.tree_model.specs.PathText.{Route}
use Rattle.tree_model.specs.Tree.{is_file_node}
use Rattle.tree_model.specs.Run.{State}
use Rattle.image_reading.specs.Counts.{IsIn}
use Rattle.image_reading.specs.Residue.{Residue}
use Rattle.inode_state.specs.Inode.{InodeView}
use Rattle.weave_laws.specs.Naming.{IsWrittenPlace}
use Rattle.volume.specs.Volume.{VolumeView}
use Rattle.volume.specs.declared.plan.NewName.{NewName}
use Rattle.unlink_ops.specs.declared.link.Stage.{Stage}
use Rattle.unlink_ops.specs.declared.link.Stage.TheVariants.{Begun, Written, Claimed}
use Rattle.unlink_ops.specs.LinkStages.{RunningView, IsInodeOf, IsAt}
use Rattle.waiting_laws.specs.Beside.{PassesBy, StandsWith}
use Rattle.waiting_laws.specs.Linking.{held_by, left_by, HasWrittenName, WaitsToLink, LinkingStillLaw}
use Rattle.waiting_laws.proofs.NamingEnds.{page_of_place}
use Rattle.waiting_laws.proofs.NamingStill as kept
use Rattle.waiting_laws.proofs.NamingStill.{HoldsName}

module _ (old new : VolumeView) (before after : DeviceView) (state later : State) (from path : Route) (others now : Residue) where
  module _ (running : RunningView) (on : WaitsToLink old before state from path running others) (passes : PassesBy old new before after state later (held_by running.link)) (with : StandsWith new after later (left_by running.link) now) where
    abbrev P : ℕ
    P = old.size

    abbrev link : NewName
    link = running.link

    long : length after.words ≡ length before.words
    long = let whole = with.stands.knows.whole in let was = on.beside.stands.knows.whole in let size = passes.size in omega (arith, whole, was, size)

    own : IsIn link.inode (link.inode ∷ link.directory ∷ [])
    own = inl refl

    named : HoldsName (held_by link) link.directory link.slot
    named = record { slot = inl refl; page = inl refl; directory = inr (inl refl) }

    inode_at : (view : InodeView) → IsInodeOf P link view before → IsInodeOf P link view after
    inode_at view was = record {
      number = was.number;
      least = was.least;
      most = was.most;
      clean = kept.inode_clean passes view (subst (λ x. IsIn x (link.inode ∷ link.directory ∷ [])) (sym was.number) own) with.stands.settled long was.clean;
    }

    stage_at : (stage : Stage) → HasWrittenName P before.words state.tree path link stage → IsAt P link stage before → IsAt P link stage after
    stage_at Begun name was = absurd name
    stage_at (Written file) name (inode, place) = (inode_at file.inode inode, kept.place_at_kept passes named path link.new_page file.place name with.stands.settled long place)
    stage_at (Claimed file) name (inode, slot) = (inode_at file.inode inode, kept.slot_at_kept passes named file.slot with.stands.settled long slot)

    name_at : (stage : Stage) → HasWrittenName P before.words state.tree path link stage → HasWrittenName P after.words later.tree path link stage
    name_at Begun name = absurd name
    name_at (Written file) name = kept.name_kept passes named path file.place name
    name_at (Claimed file) name = kept.waiting_kept passes named name

    pub waits_still : WaitsToLink new after later from path running now
    waits_still = record {
      beside = with;
      words = subst (λ p. IsAt p link running.stage after) (sym passes.size) (stage_at running.stage on.name on.words);
      file_is = passes.nodes.paths from link.inode own on.file_is;
      name_is = on.name_is;
      name = subst (λ p. HasWrittenName p after.words later.tree path link running.stage) (sym passes.size) (name_at running.stage on.name);
      place = subst (λ p. IsWrittenPlace p after.words link.slot link.new_page) (sym passes.size) (kept.written_kept passes named link.new_page on.place);
      full = kept.full_kept passes named link.new_page on.full;
      file = ap is_file_node (passes.nodes.nodes link.inode own).node ∙ on.file;
      links = kept.links_same passes link.inode own ∙ on.links ∙ ap (λ n. n + 1) (sym (kept.counted_same passes link.inode own));
      knows = kept.knows_place_kept passes named link.new_page (page_of_place P before.words link.slot link.new_page on.place) on.knows;
    }

pub linking_still : LinkingStillLaw
linking_still old new before after state later from path running others now on passes with = waits_still old new before after state later from path others now running on passes with
