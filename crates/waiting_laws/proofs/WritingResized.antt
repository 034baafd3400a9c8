-- A truncation begins beside other calls, to more or to less: its first stage stands once its events are kept.
use Rattle.std.proofs.Common.{◌≡◌, inl, ℕ, ◌+◌, ◌*◌, ◌<◌, ◌≤◌, Bool, true, false, nat_lt, cond, List, [], length, refl, sym, ap, subst, ◌∙◌, arith}
use Rattle.std.specs.Prelude.{if◌then◌else◌, Contains}
use Rattle.std.proofs.Math.Bool.{or-false}
use Rattle.std.proofs.lemmas.Bool.{lt-ltb, le-ltb}
use Rattle.std.proofs.lemmas.Bool.Decides.{nat_tests}
use Rattle.pm_trait.specs.DeviceView.{DeviceView}
use Rattle.pm_trait.specs.Unfolds.{events_in}
use Rattle.tree_model.specs.PathText.{Route}
use Rattle.tree_model.specs.Run.{State}
use Rattle.tree_model.specs.declared.command.Command.TheVariants.{Truncate}
use Rattle.image_reading.specs.Residue.{Residue}
use Rattle.volatile_index.specs.Index.{inodes_of_index, pages_of}
use Rattle.volume.specs.Costs.{where_true, inode_events, descriptor_rest_events, fence_events, commit_events, growth_events, loss_events, events_of}
use Rattle.volume.specs.Volume.{VolumeView}
use Rattle.volume.specs.Beside.{StandsBeside}
use Rattle.volume.specs.Entered.{IsTaken, MayLosePages}
use Rattle.volume.specs.Stages.{HasKept, keeping}
use Rattle.volume.specs.declared.plan.Resizing.{Resizing}
use Rattle.volume.specs.declared.plan.Action.TheVariants.{Resize}
use Rattle.volume.proofs.PlanActions.{directory_within}
use Rattle.data_ops.specs.declared.grow.Progress.TheVariants.{Begun as GrowthBegun}
use Rattle.data_ops.specs.declared.truncate.CutProgress.TheVariants.{Begun}
use Rattle.data_ops.specs.declared.truncate.Stage.TheVariants.{Growing, Cutting}
use Rattle.data_ops.specs.Cutting.{gone_pages, growth_to}
use Rattle.data_ops.specs.Growing.{owner_events, release_events}
use Rattle.data_ops.specs.ResizeStages.{CanCutFile, StandsStage, begun_resizing, left_of}
use Rattle.waiting_laws.specs.Beside.{IsReady}
use Rattle.waiting_laws.specs.Growing.{IsGrowthOf}
use Rattle.waiting_laws.specs.Writing.{ResizingBeginsLaw}
use Rattle.waiting_laws.proofs.FileKnown.{used_taken}
use Rattle.waiting_laws.proofs.FileLists.{gone_long}
use Rattle.waiting_laws.proofs.FilePages as files
use Rattle.waiting_laws.proofs.ReadyStands.{bounded, has_begun}
use Rattle.waiting_laws.proofs.GrowingPlans.{IsPlannedGrowth, planned_growth, can_fill, knows_begun}
use Rattle.waiting_laws.proofs.FileTruncations as truncations

-- the events of the rest of a loss are those of a release
rest_is : (pages : ℕ) → pages * descriptor_rest_events + where_true false inode_events + fence_events ≡ release_events pages
rest_is pages = omega arith

abbrev events_by : Resizing → Bool → ℕ
events_by resizing more = cond more (growth_events resizing.old_size resizing.old_size (length resizing.new_pages)) (commit_events + loss_events resizing.cut false)

module _ (volume : VolumeView) (device : DeviceView) (state : State) (path : Route) (resizing : Resizing) (others : Residue)
    (ready : IsReady volume device state (Truncate path resizing.new_size) (Resize resizing) others) where
  abbrev stands : StandsBeside volume device state others
  stands = ready.prepared.stands

  abbrev pages : List ℕ
  pages = pages_of volume.index resizing.inode

  within : (1 ≤ resizing.inode) × (resizing.inode ≤ inodes_of_index volume.index)
  within = directory_within volume device state others stands (Truncate path resizing.new_size) (Resize resizing) ready.planned

  -- ---- to more

  starts_more : resizing.old_size < resizing.new_size → StandsStage (keeping volume (Resize resizing)) device (Growing resizing GrowthBegun)
  starts_more more =
      let planned : IsPlannedGrowth volume device state (growth_to resizing) [] resizing.new_pages others =
      planned_growth volume device state (Truncate path resizing.new_size) (Resize resizing) (growth_to resizing) [] resizing.new_pages others ready (IsGrowthOf.truncate path resizing more) in
      let costs : events_of (Resize resizing) ≡ events_in (left_of (keeping volume (Resize resizing)) (Growing resizing GrowthBegun)) =
      (let all = ap (events_by resizing) (lt-ltb resizing.old_size resizing.new_size more) in omega (arith, all)) in
      record {
        going = ready.going;
        whole = stands.knows.whole;
        at = (
          bounded volume device state (Truncate path resizing.new_size) (Resize resizing) others ready,
          can_fill volume device state others stands (growth_to resizing) [] resizing.new_pages planned,
          knows_begun volume device state others stands (growth_to resizing) [] resizing.new_pages planned (Resize resizing) within ready.reserved.places,
        );
        kept = subst (HasKept (keeping volume (Resize resizing)) device) costs (has_begun volume device state (Truncate path resizing.new_size) (Resize resizing) others ready);
      }

  -- ---- to less

  can_cut : resizing.new_size < resizing.old_size → CanCutFile volume.size device.words resizing pages
  can_cut = truncations.can_cut volume device state path resizing others ready

  taken : (page : ℕ) → Contains pages page → IsTaken volume.data_pages page
  taken page there =
      let inside = files.of_file volume device state others stands resizing.inode (truncations.file volume device state path resizing others ready) (truncations.untouched volume device state path resizing others ready) page there in
      let least = within.0 in
      used_taken volume device.words others stands.knows page inside.in_range (λ unused. let none = unused.0 in let owner = inside.owner in omega (arith, none, owner, least))

  may_lose : resizing.new_size < resizing.old_size → MayLosePages (keeping volume (Resize resizing)) resizing.inode resizing.cut
  may_lose less = record {
    least = within.0;
    most = within.1;
    enough = truncations.enough volume device state path resizing others ready;
    once = stands.knows.nodes.once resizing.inode (can_cut less).held.least (can_cut less).held.most;
    pages_taken = taken;
  }

  cut_costs : resizing.new_size < resizing.old_size → events_of (Resize resizing) ≡ events_in (left_of (keeping volume (Resize resizing)) (Cutting resizing Begun))
  cut_costs less =
      ap (events_by resizing) (le-ltb resizing.old_size resizing.new_size (omega (arith, less)))
      ∙ ap (λ (b : Bool). commit_events + (where_true (nat_lt 0 resizing.cut) (owner_events resizing.cut) + where_true b (resizing.cut * descriptor_rest_events + where_true false inode_events + fence_events))) (or-false (nat_lt 0 resizing.cut))
      ∙ ap (λ (n : ℕ). commit_events + (where_true (nat_lt 0 resizing.cut) (owner_events resizing.cut) + where_true (nat_lt 0 resizing.cut) n)) (rest_is resizing.cut)
      ∙ ap (λ (n : ℕ). commit_events + (where_true (nat_lt 0 n) (owner_events n) + where_true (nat_lt 0 n) (release_events n))) (sym (gone_long resizing pages (truncations.enough volume device state path resizing others ready)))
      ∙ by_parts (where_true (nat_lt 0 (length (gone_pages resizing pages))) (owner_events (length (gone_pages resizing pages)))) (where_true (nat_lt 0 (length (gone_pages resizing pages))) (release_events (length (gone_pages resizing pages))))
    where
      by_parts : (a b : ℕ) → commit_events + (a + b) ≡ commit_events + (a + (b + 0))
      by_parts a b = omega arith

  starts_less : resizing.new_size < resizing.old_size → StandsStage (keeping volume (Resize resizing)) device (Cutting resizing Begun)
  starts_less less = record {
    going = ready.going;
    whole = stands.knows.whole;
    at = (bounded volume device state (Truncate path resizing.new_size) (Resize resizing) others ready, can_cut less, may_lose less);
    kept = subst (HasKept (keeping volume (Resize resizing)) device) (cut_costs less) (has_begun volume device state (Truncate path resizing.new_size) (Resize resizing) others ready);
  }

  -- ---- which way

  starts_by : (more : Bool) → nat_lt resizing.old_size resizing.new_size ≡ more → StandsStage (keeping volume (Resize resizing)) device (if more then Growing resizing GrowthBegun else Cutting resizing Begun)
  starts_by true test = starts_more (grind (arith, nat_tests))
  starts_by false test =
      let other = truncations.other volume device state path resizing others ready in
      let least : resizing.new_size ≤ resizing.old_size = grind (arith, nat_tests) in
      starts_less (omega (arith, other, least))

  pub starts : StandsStage (keeping volume (Resize resizing)) device (begun_resizing resizing)
  starts = starts_by (nat_lt resizing.old_size resizing.new_size) refl

pub resizing_begins_law : ResizingBeginsLaw
resizing_begins_law volume device state path resizing others ready = (inl (resizing, refl), (λ some. ready.unmarked), starts volume device state path resizing others ready)
