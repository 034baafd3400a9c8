-- The pages behind the new end of the file that a ready truncation to less cuts.
use Rattle.std.proofs.Common.{◌≡◌, ℕ, ◌+◌, ◌-◌, ◌<◌, ◌≤◌, Bool, true, false, nat_lt, if◌then◌else◌, List, length, refl, ap, ◌∙◌, arith}
use Rattle.std.specs.Prelude.{Contains}
use Rattle.std.proofs.lemmas.Bool.{ltb-false}
use Rattle.pm_trait.specs.DeviceView.{DeviceView}
use Rattle.layout.specs.Fields.{inode_size}
use Rattle.tree_model.specs.PathText.{Route}
use Rattle.tree_model.specs.Run.{State}
use Rattle.tree_model.specs.declared.command.Command.TheVariants.{Truncate}
use Rattle.image_reading.specs.Reading.{pages_of_size}
use Rattle.image_reading.specs.Residue.{Residue}
use Rattle.image_counts.specs.Entries.{IsPageIn}
use Rattle.weave_laws.specs.Waiting.{AreInOrder}
use Rattle.weave_laws.proofs.SizedRaised.{more_pages}
use Rattle.volatile_index.specs.Index.{pages_of}
use Rattle.volume.specs.Volume.{VolumeView}
use Rattle.volume.specs.declared.plan.Action.TheVariants.{Resize}
use Rattle.volume.specs.declared.plan.Resizing.{Resizing}
use Rattle.data_ops.specs.Cutting.{gone_pages}
use Rattle.data_ops.specs.ResizeStages.{begun_resizing}
use Rattle.data_ops.specs.declared.grow.Progress.TheVariants.{Begun as GrowthBegun}
use Rattle.data_ops.specs.declared.truncate.CutProgress.TheVariants.{Begun}
use Rattle.data_ops.specs.declared.truncate.Stage.{Stage}
use Rattle.data_ops.specs.declared.truncate.Stage.TheVariants.{Growing, Cutting}
use Rattle.waiting_laws.specs.Beside.{IsReady}
use Rattle.waiting_laws.proofs.FileLists.{dropped_in, dropped_at, gone_long}
use Rattle.waiting_laws.proofs.FilePages as files
use Rattle.waiting_laws.proofs.FilePages.{no_size}
use Rattle.waiting_laws.proofs.FileTruncations as truncations

-- one that begins with a cut doesn't grow
cuts_by : (grows : Bool) (resizing : Resizing) → ◌≡◌ {A = Stage} (if grows then Growing resizing GrowthBegun else Cutting resizing Begun) (Cutting resizing Begun) → grows ≡ false
cuts_by true resizing is = cc
cuts_by false resizing is = refl

module _ (volume : VolumeView) (before : DeviceView) (state : State) (path : Route) (resizing : Resizing) (others : Residue) (ready : IsReady volume before state (Truncate path resizing.new_size) (Resize resizing) others)
    (begins : begun_resizing resizing ≡ Cutting resizing Begun) where
  abbrev P : ℕ
  P = volume.size

  abbrev I : List ℕ
  I = before.words

  abbrev i : ℕ
  i = resizing.inode

  abbrev pages : List ℕ
  pages = pages_of volume.index i

  abbrev gone : List ℕ
  gone = gone_pages resizing pages

  -- its size falls
  falls : resizing.new_size < resizing.old_size
  falls =
      let most = ltb-false resizing.old_size resizing.new_size (cuts_by (nat_lt resizing.old_size resizing.new_size) resizing begins) in
      let other = truncations.other volume before state path resizing others ready in
      omega (arith, most, other)

  pub less : resizing.new_size < inode_size I i
  less = (truncations.can_cut volume before state path resizing others ready falls).lower.less

  pub listed : (j : ℕ) → Contains pages j → IsPageIn P I i j
  listed = files.of_file volume before state others ready.prepared.stands i (truncations.file volume before state path resizing others ready) (truncations.untouched volume before state path resizing others ready)

  pub gone_listed : (j : ℕ) → Contains gone j → IsPageIn P I i j
  gone_listed j among = listed j (dropped_in (length pages - resizing.cut) pages j among)

  fewest : resizing.cut ≤ length pages
  fewest = truncations.enough volume before state path resizing others ready

  -- the others are as many as the new size takes
  first : length pages - resizing.cut ≡ pages_of_size resizing.new_size
  first =
      let all = (truncations.held volume before state path resizing others ready).count in
      let was = ap pages_of_size (truncations.size volume before state path resizing others ready) in
      let cut = truncations.cut volume before state path resizing others ready in
      let least = more_pages resizing.new_size resizing.old_size (let under = falls in omega (arith, under)) in
      omega (arith, all, was, cut, least)

  -- each stands at its place from the new end on
  pub order : AreInOrder P I gone resizing.new_size (inode_size I i)
  order = record {
    offsets = λ k j at.
        let all = files.in_order volume before state others ready.prepared.stands i (truncations.file volume before state path resizing others ready) (truncations.untouched volume before state path resizing others ready) in
        let stood = all.offsets (length pages - resizing.cut + k) j (dropped_at (length pages - resizing.cut) pages k j at) in
        let none = no_size in
        let start = first in
        omega (arith, stood, none, start);
    count =
        let long = gone_long resizing pages fewest in
        let start = first in
        let all = (truncations.held volume before state path resizing others ready).count in
        let most = fewest in
        omega (arith, long, start, all, most);
  }

  pub none_gone : resizing.cut ≡ 0 → length gone ≡ 0
  none_gone none = gone_long resizing pages fewest ∙ none
