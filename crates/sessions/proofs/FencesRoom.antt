-- The room that a plan's command leaves, where a page is given back exactly as the plan does, fits the tree that it leaves, whatever calls run.
use Rattle.std.proofs.Common.{◌≡◌, ◌↔◌, ℕ, Bool, true, List, reverse, Option, None, Some, is_some, refl, sym, ap, subst, ◌∙◌}
use Rattle.std.proofs.lemmas.Bool.{true≢false}
use Rattle.pm_trait.specs.DeviceView.{DeviceView}
use Rattle.layout.specs.Geometry.{page_of_slot}
use Rattle.layout.specs.declared.kinds.NodeKind.{NodeKind}
use Rattle.layout.specs.declared.kinds.NodeKind.TheVariants.{File, Directory}
use Rattle.tree_model.specs.Capacity.{Supply, untaken}
use Rattle.tree_model.specs.PathText.{Route}
use Rattle.tree_model.specs.Run.{State, IsVolumeState, is_changing}
use Rattle.tree_model.specs.Step.{making as made_by, refusal_with, outcome_of, least_free_id, tree_after, room_after}
use Rattle.tree_model.specs.Tree.{Tree, IsRoom, IsTree, parent}
use Rattle.tree_model.specs.declared.command.Command.{Command}
use Rattle.tree_model.specs.declared.command.Command.TheVariants.{Rename}
use Rattle.tree_model.specs.declared.reply.Refusal.{Refusal}
use Rattle.tree_model.proofs.PlainRuns.{room_after-is_there}
use Rattle.image_reading.specs.Reading.{slot_owner, IsRoomOf, HasRoom, Reads}
use Rattle.image_reading.specs.Residue.{Residue, no_residue}
use Rattle.image_reading.specs.Tidy.{IsTidied}
use Rattle.image_reading.proofs.Residues.{beside_tidied}
use Rattle.image_counts.specs.Laws.{supply_beside}
use Rattle.image_counts.proofs.States.{state_law, is_room}
use Rattle.image_laws.specs.CreateStep.{IsStepped}
use Rattle.image_laws.specs.Drop.{dropped}
use Rattle.image_laws.specs.DropStep as drops
use Rattle.weave_laws.specs.Entering.{IsNamelessPage}
use Rattle.weave_laws.proofs.Removed.{removed_entered_law, removed_room_law}
use Rattle.weave_laws.proofs.UnnamedSlots as unnamed
use Rattle.volume.specs.Volume.{VolumeView}
use Rattle.volume.specs.declared.plan.Action.{Action}
use Rattle.volume.specs.declared.plan.Action.TheVariants.{Remove, Move, KeepNames}
use Rattle.volume.specs.declared.plan.Removal.{Removal}
use Rattle.plan_laws.specs.Laws.{gives_back}
use Rattle.plan_laws.proofs.PlanRooms.{plan_room_law}
use Rattle.waiting_laws.specs.Beside.{IsReady}
use Rattle.waiting_laws.specs.Removing.{of_kind}
use Rattle.waiting_laws.proofs.RemovingPlanned as planned
use Rattle.running_laws.proofs.BeginPlans.{IsCallOf, planned_call}

-- the room fits where a page is given back so
abbrev pub Fits : ℕ → State → Command → Bool → Type 0
Fits id state command gives = IsRoom (tree_after id state.tree command) (room_after id state.tree state.room command gives)

-- ---- no name is lost

-- whichever choice fits, the other is the same
either_fits : (supply : Supply) (id : ℕ) (state : State) (command : Command) (gives : Bool) → refusal_with supply state.tree state.room command ≡ None → IsTree state.tree
    → IsRoom state.tree state.room
    → ((other : Bool) → room_after id state.tree state.room command other ≡ room_after id state.tree state.room command gives) → Fits id state command gives
either_fits supply id state command gives accepted tree room same =
    let (left, after) = room_after-is_there supply id state.tree state.room command None accepted tree room in
    let (other, is, fits) = after in
    subst (IsRoom (tree_after id state.tree command)) (is ∙ same other) fits

-- ---- a name is taken away

drop_kind : NodeKind → drops.Removal
drop_kind File = drops.file
drop_kind Directory = drops.directory

drop_command : (kind : NodeKind) (path : Route) → drops.removing (drop_kind kind) path ≡ of_kind kind path
unfolding drop_kind
drop_command File path = refl
drop_command Directory path = refl

-- a page is given back exactly where no name is left in it
page_given : (P : ℕ) (A : List ℕ) (d s : ℕ) (given : Option ℕ) → IsNamelessPage P A d s given → (is_some given ≡ true) ↔ ¬ IsRoomOf P A d (page_of_slot s)
page_given P A d s None here = ((λ is. absurd (true≢false (sym is))), (λ none. absurd (none here)))
page_given P A d s (Some page) (at, none) = ((λ is here. none (subst (IsRoomOf P A d) at here)), (λ left. refl))

module _ (volume : VolumeView) (device : DeviceView) (state : State) (path : Route) (removal : Removal) (others : Residue) (id : ℕ)
    (ready : IsReady volume device state (of_kind removal.loss.kind path) (Remove removal) others) where
  abbrev A : List ℕ
  A = dropped volume.size device.words removal.slot

  abbrev kind : drops.Removal
  kind = drop_kind removal.loss.kind

  abbrev gives : Bool
  gives = is_some removal.given_back

  exactly : (gives ≡ true) ↔ ¬ IsRoomOf volume.size A (slot_owner volume.size device.words removal.slot) (page_of_slot removal.slot)
  exactly = page_given volume.size A (slot_owner volume.size device.words removal.slot) removal.slot removal.given_back
      (planned.goes_with volume device state path removal others ready).page

  stepped : IsStepped volume.size A state (drops.removing kind path) id
  stepped = removed_entered_law volume.size device.words state (reverse (parent path)) path removal.slot id kind (planned.can volume device state path removal others ready)
      (planned.path_is volume device state path removal others ready) ready.prepared.stands.reads

  has_room : HasRoom volume.size A (room_after id state.tree state.room (drops.removing kind path) gives)
  has_room = removed_room_law volume.size device.words state (reverse (parent path)) path removal.slot id kind gives (planned.can volume device state path removal others ready)
      (planned.path_is volume device state path removal others ready) ready.prepared.stands.reads exactly

  removal_fits : Fits id state (of_kind removal.loss.kind path) gives
  removal_fits =
      let tree : Reads volume.size A (tree_after id state.tree (drops.removing kind path)) = subst (Reads volume.size A) stepped.tree stepped.reads.tree in
      subst (λ (c : Command). Fits id state c gives) (drop_command removal.loss.kind path)
      (is_room volume.size A (tree_after id state.tree (drops.removing kind path))
      (unnamed.coherent (planned.can volume device state path removal others ready)) tree
      (room_after id state.tree state.room (drops.removing kind path) gives) has_room)

-- ---- a name moves, beside nothing

module _ (volume : VolumeView) (device : DeviceView) (state : State) (from to : Route) (action : Action) (id : ℕ)
    (ready : IsReady volume device state (Rename from to) action no_residue) where
  move_fits : Fits id state (Rename from to) (gives_back action)
  move_fits =
      let stands = ready.prepared.stands in
      let tidied : IsTidied volume.size device.words = beside_tidied stands.sound.coherent stands.beside in
      subst (λ (T : Tree). IsRoom T (room_after id state.tree state.room (Rename from to) (gives_back action)))
      (ap (λ (o : Option Refusal). (outcome_of o (untaken volume.size) (least_free_id state.tree) state.tree state.room (Rename from to)).tree) ready.planned.accepted)
      (plan_room_law volume.size device.words state (Rename from to) action tidied stands.reads ready.planned)

-- ---- every change

module _ (volume : VolumeView) (device : DeviceView) (state : State) (others : Residue) (id : ℕ) where
  made_same : (kind : NodeKind) (path : Route) (other choice : Bool)
      → room_after id state.tree state.room (made_by kind path) other ≡ room_after id state.tree state.room (made_by kind path) choice
  made_same File path other choice = refl
  made_same Directory path other choice = refl

  -- none of these loses a name
  kept_fits : (command : Command) (action : Action) → IsReady volume device state command action others
      → ((other : Bool) → room_after id state.tree state.room command other ≡ room_after id state.tree state.room command (gives_back action))
      → Fits id state command (gives_back action)
  kept_fits command action ready same =
      let stands = ready.prepared.stands in
      let valid : IsVolumeState volume.size state = state_law volume.size device.words state stands.sound.coherent stands.reads in
      either_fits (supply_beside volume.size others) id state command (gives_back action) ready.planned.accepted valid.tree valid.room same

  -- a rename names all, so that nothing is left of others
  alone_fits : (from to : Route) (action : Action) → IsReady volume device state (Rename from to) action others → Fits id state (Rename from to) (gives_back action)
  alone_fits from to action ready =
      move_fits volume device state from to action id (subst (λ (left : Residue). IsReady volume device state (Rename from to) action left) (ready.prepared.untouched.alone refl) ready)

  fits_by : (command : Command) (action : Action) → IsCallOf command action → is_changing command ≡ true → IsReady volume device state command action others
      → Fits id state command (gives_back action)
  fits_by _ _ (IsCallOf.makes path entry) changing ready = kept_fits _ _ ready (λ other. made_same entry.kind path other _)
  fits_by _ _ (IsCallOf.links from to link) changing ready = kept_fits _ _ ready (λ other. refl)
  fits_by _ _ (IsCallOf.removes path removal) changing ready = removal_fits volume device state path removal others id ready
  fits_by _ _ (IsCallOf.moves from to moving) changing ready = alone_fits from to (Move moving) ready
  fits_by _ _ (IsCallOf.keeps_names from to) changing ready = alone_fits from to KeepNames ready
  fits_by _ _ (IsCallOf.writes path writing bytes) changing ready = kept_fits _ _ ready (λ other. refl)
  fits_by _ _ (IsCallOf.writes_nothing path offset) changing ready = kept_fits _ _ ready (λ other. refl)
  fits_by _ _ (IsCallOf.resizes path resizing) changing ready = kept_fits _ _ ready (λ other. refl)
  fits_by _ _ (IsCallOf.keeps_size path size) changing ready = kept_fits _ _ ready (λ other. refl)
  fits_by _ _ (IsCallOf.reads command action stays none) changing ready = absurd (true≢false (sym changing ∙ stays))

pub plan_fits : (volume : VolumeView) (device : DeviceView) (state : State) (command : Command) (action : Action) (others : Residue) (id : ℕ)
    → IsReady volume device state command action others → is_changing command ≡ true → Fits id state command (gives_back action)
plan_fits volume device state command action others id ready changing =
    fits_by volume device state others id command action (planned_call volume device state command action others ready) changing ready
