-- Another call has made a step, and the making of an entry waits still.
use Rattle.std.proofs.Common.{◌≡◌, inl, inr, ℕ, ◌+◌, [], ◌∷◌, length, refl, sym, ap, subst, ◌∙◌, arith}
use Rattle.pm_trait.specs.DeviceView.{DeviceView}
use Rattle.layout.specs.declared.kinds.NodeKind.{NodeKind}
use Rattle.layout.specs.declared.kinds.NodeKind.TheVariants.{File, Directory}
use Rattle.tree_model.specs.PathText.{Route}
use Rattle.tree_model.specs.Run.{State}
use Rattle.image_reading.specs.Counts.{IsIn}
use Rattle.image_reading.specs.Residue.{Residue}
use Rattle.inode_state.specs.Inode.{InodeView}
use Rattle.weave_laws.specs.Naming.{IsWrittenPlace}
use Rattle.weave_laws.specs.Waiting.{HasNoPageOf, HasRaisedLinks}
use Rattle.volume.specs.Volume.{VolumeView}
use Rattle.volume.specs.declared.plan.NewEntry.{NewEntry}
use Rattle.create_ops.specs.declared.run.Stage.{Stage}
use Rattle.create_ops.specs.declared.run.Stage.TheVariants.{Begun, Written, Claimed}
use Rattle.create_ops.specs.Stages.{RunningView, IsInodeOf, IsAt}
use Rattle.waiting_laws.specs.Beside.{PassesBy, StandsWith}
use Rattle.waiting_laws.specs.Making.{held_by, left_by, HasWrittenName, WaitsToMake, MakingStillLaw}
use Rattle.waiting_laws.proofs.NamingEnds.{page_of_place}
use Rattle.waiting_laws.proofs.NamingStill as kept
use Rattle.waiting_laws.proofs.NamingStill.{HoldsName}
use Rattle.waiting_laws.proofs.NamingWords.{read_before}

module _ (old new : VolumeView) (before after : DeviceView) (state later : State) (path : Route) (others now : Residue) where
  module _ (running : RunningView) (on : WaitsToMake old before state path running others) (passes : PassesBy old new before after state later (held_by running.entry)) (with : StandsWith new after later (left_by running.entry) now) where
    abbrev P : ℕ
    P = old.size

    abbrev entry : NewEntry
    entry = running.entry

    long : length after.words ≡ length before.words
    long = let whole = with.stands.knows.whole in let was = on.beside.stands.knows.whole in let size = passes.size in omega (arith, whole, was, size)

    own : IsIn entry.inode (entry.inode ∷ entry.directory ∷ [])
    own = inl refl

    above : IsIn entry.directory (entry.inode ∷ entry.directory ∷ [])
    above = inr (inl refl)

    named : HoldsName (held_by entry) entry.directory entry.slot
    named = record { slot = inl refl; page = inl refl; directory = above }

    inode_at : (view : InodeView) → IsInodeOf P entry view before → IsInodeOf P entry view after
    inode_at view was = record {
      number = was.number;
      least = was.least;
      most = was.most;
      clean = kept.inode_clean passes view (subst (λ x. IsIn x (entry.inode ∷ entry.directory ∷ [])) (sym was.number) own) with.stands.settled long was.clean;
    }

    stage_at : (stage : Stage) → HasWrittenName P before.words state.tree path entry stage → IsAt P entry stage before → IsAt P entry stage after
    stage_at Begun name was = absurd name
    stage_at (Written node) name (inode, place) = (inode_at node.inode inode, kept.place_at_kept passes named path entry.new_page node.place name with.stands.settled long place)
    stage_at (Claimed node) name (inode, slot) = (inode_at node.inode inode, kept.slot_at_kept passes named node.slot with.stands.settled long slot)

    name_at : (stage : Stage) → HasWrittenName P before.words state.tree path entry stage → HasWrittenName P after.words later.tree path entry stage
    name_at Begun name = absurd name
    name_at (Written node) name = kept.name_kept passes named path node.place name
    name_at (Claimed node) name = kept.waiting_kept passes named name

    raised : (kind : NodeKind) → HasRaisedLinks before.words state.tree kind entry.directory → HasRaisedLinks after.words later.tree kind entry.directory
    raised Directory links = kept.links_same passes entry.directory above ∙ links ∙ ap (λ n. n + 1) (sym (kept.counted_same passes entry.directory above))
    raised File links = tt

    pub waits_still : HasNoPageOf new.size after.words now entry.inode → WaitsToMake new after later path running now
    waits_still alone = record {
      beside = with;
      words = subst (λ p. IsAt p entry running.stage after) (sym passes.size) (stage_at running.stage on.name on.words);
      name_is = on.name_is;
      name = subst (λ p. HasWrittenName p after.words later.tree path entry running.stage) (sym passes.size) (name_at running.stage on.name);
      place = subst (λ p. IsWrittenPlace p after.words entry.slot entry.new_page) (sym passes.size) (kept.written_kept passes named entry.new_page on.place);
      full = kept.full_kept passes named entry.new_page on.full;
      node = λ f lt. (let low = read_before before.words after.words f lt in kept.inode_word passes entry.inode f own low ∙ on.node f low);
      links = raised entry.kind on.links;
      alone = alone;
      knows = kept.knows_place_kept passes named entry.new_page (page_of_place P before.words entry.slot entry.new_page on.place) on.knows;
    }

pub making_still : MakingStillLaw
making_still old new before after state later path running others now on passes with alone = waits_still old new before after state later path others now running on passes with alone
