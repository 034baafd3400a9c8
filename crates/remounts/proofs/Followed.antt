-- What may follow sound words is sound, and means what they mean.
use Rattle.std.proofs.Common.{◌≡◌, ℕ, ◌≤◌, List, sym, ap, subst, arith, reverse}
use Rattle.std.specs.Prelude.{◌↔◌, Some}
use Rattle.std.proofs.lemmas.List.{reverse-reverse}
use Rattle.pm_trait.specs.Device.{MayLeave, moment_of}
use Rattle.pm_trait.specs.DeviceView.{DeviceView, IsSettledView}
use Rattle.pm_trait.proofs.DeviceLaws.{settled_leaves}
use Rattle.tree_model.specs.PathText.{Route}
use Rattle.tree_model.specs.Tree.{Tree, id_at}
use Rattle.tree_model.specs.Run.{State}
use Rattle.image_reading.specs.Reading.{Names, Reached, Reads, ReadsAs, HasRoom}
use Rattle.image_reading.specs.Soundness.{Sound}
use Rattle.image_reading.proofs.Readings.{one_tree, one_room}
use Rattle.image_laws.specs.Frame.{IsSoundAs, SameMeaning}
use Rattle.image_laws.proofs.Meaning.{same_itself, same_chained}
use Rattle.volume.specs.Crashes.{MeansState}
use Rattle.remounts.specs.Follow.{WasMounted, CrashLeaves, FollowLaw}
use Rattle.remounts.specs.Follow.WasMounted.{mounted, failed, refused}
use Rattle.remounts.specs.Follow.MayFollow.{itself, crashed}

-- a path as an image names it
named : (P : ℕ) (I : List ℕ) (tree : Tree) → Reads P I tree → (path : Route) (i : ℕ) → (id_at tree (reverse path) ≡ Some i) ↔ Names P I path i
named P I tree reads path i =
    subst (λ (p : Route). (id_at tree (reverse path) ≡ Some i) ↔ Names P I p i) (reverse-reverse path) (reads.names (reverse path) i)

-- what reads as the same state means the same
same_state : (P : ℕ) (W image : List ℕ) (state : State) → ReadsAs P W state → MeansState P state image → SameMeaning P W image
same_state P W image state reads means = record {
  coherent = means.sound.coherent;
  names = names;
  nodes = λ i x reached.
      let was = reads.tree.nodes i x in
      let is = means.reads.tree.nodes i x in
      let stays : Reached P image i = (reached.0, (names reached.0 i).0 reached.1) in
      ((λ node. (is.0 (was.1 (reached, node))).1), (λ node. (was.0 (is.1 (stays, node))).1));
  reads = λ tree has. subst (λ (t : Tree). Reads P image t) (one_tree P W state.tree tree reads.tree has) means.reads.tree;
  room = λ room has. subst (λ r. HasRoom P image r) (one_room P W state.room room reads.room has) means.reads.room;
}
  where
    names : (path : Route) (i : ℕ) → Names P W path i ↔ Names P image path i
    names path i =
        let was = named P W state.tree reads.tree path i in
        let is = named P image state.tree means.reads.tree path i in
        ((λ name. is.0 (was.1 name)), (λ name. was.0 (is.1 name)))

-- and is sound with it
sound_as : (P : ℕ) (W image : List ℕ) (state : State) → ReadsAs P W state → MeansState P state image → IsSoundAs P W image
sound_as P W image state reads means = record { sound = means.sound; same = same_state P W image state reads means }

-- sound words are as sound as they are
as_itself : (P : ℕ) (W : List ℕ) → Sound P W → IsSoundAs P W W
as_itself P W sound = record { sound = sound; same = same_itself P W sound.coherent }

-- a crash at a moment of a mount leaves sound words that mean what the words at entry mean
mount_keeps : (P : ℕ) {before after : DeviceView} (moment : ℕ) (image : List ℕ) → Sound P before.words → IsSettledView before → WasMounted P before after
    → moment_of before.trail ≤ moment → moment ≤ moment_of after.trail → MayLeave after.trail moment image → IsSoundAs P before.words image
mount_keeps P {before} moment image sound settled (mounted state reads mount) from upto leaves =
    sound_as P before.words image state reads (mount.any_moment.each moment image from upto leaves).1
mount_keeps P {before} moment image sound settled (failed fails) from upto leaves =
    sound_as P before.words image fails.start fails.reads (fails.any_moment.each moment image from upto leaves).1
mount_keeps P {before} {after} moment image sound settled (refused alone) from upto leaves =
    let here : moment ≡ moment_of before.trail = omega (arith, from, upto, ap moment_of alone.trail) in
    let is : image ≡ before.words = settled_leaves before.words before.trail moment image settled here (subst (λ t. MayLeave t moment image) alone.trail leaves) in
    subst (IsSoundAs P before.words) (sym is) (as_itself P before.words sound)

pub crash_keeps : (P : ℕ) (words image : List ℕ) → Sound P words → CrashLeaves P words image → IsSoundAs P words image
crash_keeps P words image sound crash =
    subst (λ (w : List ℕ). IsSoundAs P w image) crash.same
    (mount_keeps P crash.moment image (subst (Sound P) (sym crash.same) sound) crash.settled crash.mount crash.from crash.upto crash.leaves)

pub follow_law : FollowLaw
follow_law P W _ sound itself = as_itself P W sound
follow_law P W _ sound (crashed words image follows crash) =
    let before = follow_law P W words sound follows in
    let here = crash_keeps P words image before.sound crash in
    record { sound = here.sound; same = same_chained P W words image before.same here.same }
