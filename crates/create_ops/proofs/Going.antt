-- The making of an entry from one step to the next: the steps that are left, and what the volume is by now.
use Rattle.std.proofs.Common.{◌≡◌, ℕ, ◌+◌, ◌-◌, ◌*◌, ◌<◌, ◌≤◌, false, true, List, [], ◌∷◌, ◌++◌, length, refl, sym, ap, subst, ◌∙◌, arith}
use Rattle.std.specs.Prelude.{Option, Some, None, Result, Ok, Err, IsErr}
use Rattle.pm_trait.specs.declared.event.PmFault.{PmFault}
use Rattle.pm_trait.specs.DeviceView.{DeviceView}
use Rattle.pm_trait.specs.Unfolds.{MayFence, Step, step_events, Takes, Unfolds, events_in}
use Rattle.pm_trait.proofs.Unfolding as joining
use Rattle.pm_trait.proofs.Unfolding.{unfolds_failed_as}
use Rattle.pm_trait.proofs.Onward.{IsOnward, one_more, fails, starts, ends}
use Rattle.fence_token.specs.declared.states.Clean.{Clean}
use Rattle.tree_model.specs.declared.reply.Reply.{Reply}
use Rattle.tree_model.specs.declared.reply.Reply.TheVariants.{Done}
use Rattle.volume.specs.Volume.{VolumeView}
use Rattle.volume.specs.Entered.{pages_of_option, TakesPages, EntersInode, HasDone}
use Rattle.volume.specs.Costs.{events_of}
use Rattle.volume.specs.Stages.{keeping}
use Rattle.volume.specs.declared.next.Next.{Next}
use Rattle.volume.specs.declared.next.Next.TheVariants.{More, Ended}
use Rattle.volume.specs.declared.plan.NewEntry.{NewEntry}
use Rattle.volume.specs.declared.plan.Action.TheVariants.{Make}
use Rattle.volume.proofs.Moments.{IsSameBeside, with_kept, kept_already, takes_beside, inode_beside, name_beside, has_made}
use Rattle.entry_steps.specs.declared.place.NamePlace.{NamePlace}
use Rattle.entry_steps.specs.declared.place.NamePlace.TheVariants.{Slot, Page}
use Rattle.entry_steps.specs.Steps.{claim_steps, naming}
use Rattle.entry_steps.proofs.Waiting.{rest_of_place, place_left, place_events, claims}
use Rattle.create_ops.specs.declared.run.Stage.{Stage}
use Rattle.create_ops.specs.declared.run.Stage.TheVariants.{Begun, Written, Claimed}
use Rattle.create_ops.specs.Making.{steps_of}
use Rattle.create_ops.specs.Stages.{RunningView, StandsStage, StandsNext, IsAfter, IsAfterPlace, EntersAtStage, EntersAfterPlace, PutsEntryName, begun, left_at, left_of, step_at}

-- ---- the steps that are left

few_by : (P : ℕ) (entry : NewEntry) (page : Option ℕ) → length (steps_of P (record entry { new_page = page })) ≤ 3
few_by P entry None = omega arith
few_by P entry (Some page) = omega arith

pub few : (P : ℕ) (entry : NewEntry) → length (steps_of P entry) ≤ 3
few P entry = few_by P entry entry.new_page

abbrev pub left_next : ℕ → Next RunningView → List Step
left_next P (More running) = left_of P running
left_next P (Ended reply) = []

-- how many stages may follow this one
abbrev pub rank_of : Stage → ℕ
rank_of Begun = 2
rank_of (Written node) = 1
rank_of (Claimed node) = 0

abbrev pub rank : Next RunningView → ℕ
rank (More running) = rank_of running.stage + 1
rank (Ended reply) = 0

module _ (P : ℕ) (entry : NewEntry) where
  -- those behind the first
  abbrev rest_at : Stage → List Step
  rest_at Begun = claim_steps P entry.directory entry.new_page ++ naming P entry.slot entry.inode ∷ []
  rest_at (Written node) = rest_of_place P entry.directory entry.slot entry.inode node.place
  rest_at (Claimed node) = []

  left_is : (stage : Stage) → left_at P entry stage ≡ step_at P entry stage ∷ rest_at stage
  left_is Begun = refl
  left_is (Written node) = place_left P entry.directory entry.slot entry.inode node.place
  left_is (Claimed node) = refl

  events_is : (stage : Stage) → step_events (step_at P entry stage) ≡ (step_at P entry stage).events
  events_is Begun = refl
  events_is (Written node) = place_events P entry.directory entry.slot entry.inode node.place
  events_is (Claimed node) = refl

  rest_left_place : (place : NamePlace Clean) (next : Next RunningView) → IsAfterPlace entry place next → left_next P next ≡ rest_of_place P entry.directory entry.slot entry.inode place
  rest_left_place (Slot slot) next is = ap (left_next P) is
  rest_left_place (Page page) next (node, is) = ap (left_next P) is

  rest_left : (stage : Stage) (next : Next RunningView) (volume : VolumeView) (device : DeviceView) → volume.size ≡ P → IsAfter entry stage next → StandsNext volume device next → left_next P next ≡ rest_at stage
  rest_left Begun next volume device size (node, is) stands =
      let written = subst (StandsNext volume device) is stands in
      ap (left_next P) is
      ∙ subst (λ (p : ℕ). left_at p entry (Written node) ≡ claim_steps p entry.directory entry.new_page ++ naming p entry.slot entry.inode ∷ []) size
      (claims volume.size entry.directory entry.slot entry.inode entry.new_page node.place device written.words.1)
  rest_left (Written node) next volume device size is stands = rest_left_place node.place next is
  rest_left (Claimed node) next volume device size is stands = ap (left_next P) is

-- a step brings it nearer to its end
fewer_place : (entry : NewEntry) (place : NamePlace Clean) (next : Next RunningView) → IsAfterPlace entry place next → rank next < 2
fewer_place entry (Slot slot) next is = let less = ap rank is in omega (arith, less)
fewer_place entry (Page page) next (node, is) = let less = ap rank is in omega (arith, less)

pub fewer : (entry : NewEntry) (stage : Stage) (next : Next RunningView) → IsAfter entry stage next → rank next < rank_of stage + 1
fewer entry Begun next (node, is) = let less = ap rank is in omega (arith, less)
fewer entry (Written node) next is = fewer_place entry node.place next is
fewer entry (Claimed node) next is = let less = ap rank is in omega (arith, less)

-- ---- what the volume is by now

-- its numbers are taken
pub record HasNumbersTaken (old now : VolumeView) (entry : NewEntry) : Type 0 where
  pub kept : ℕ
  pub paged : VolumeView
  pub taken : VolumeView
  pub page : TakesPages (with_kept kept old) paged (pages_of_option entry.new_page)
  pub inode : EntersInode paged taken entry.inode
  pub same : now ≡ with_kept now.kept taken

-- and its name is in
pub record HasNameIn (old now : VolumeView) (entry : NewEntry) : Type 0 where
  pub before : VolumeView
  pub numbers : HasNumbersTaken old before entry
  pub kept : ℕ
  pub name : PutsEntryName entry (with_kept kept before) now

abbrev HasComeTo : VolumeView → VolumeView → NewEntry → Stage → Type 0
HasComeTo old now entry Begun = now ≡ with_kept now.kept old
HasComeTo old now entry (Written node) = HasNumbersTaken old now entry
HasComeTo old now entry (Claimed node) = HasNumbersTaken old now entry

abbrev HasCome : VolumeView → VolumeView → NewEntry → Next RunningView → Type 0
HasCome old now entry (More running) = (running.entry ≡ entry) × HasComeTo old now entry running.stage
HasCome old now entry (Ended reply) = (reply ≡ Done) × HasNameIn old now entry

-- behind a step it has come further
come_to_slot : (old volume new : VolumeView) (entry : NewEntry) (k : ℕ) (next : Next RunningView) → HasNumbersTaken old volume entry → PutsEntryName entry (with_kept k volume) new → next ≡ Ended Done → HasCome old new entry next
come_to_slot old volume new entry k next numbers name is = subst (HasCome old new entry) (sym is) (refl, record { before = volume; numbers = numbers; kept = k; name = name })

come_from_place : (old volume new : VolumeView) (entry : NewEntry) (k : ℕ) (place : NamePlace Clean) (next : Next RunningView) → HasNumbersTaken old volume entry → EntersAfterPlace entry place (with_kept k volume) new → IsAfterPlace entry place next
    → HasCome old new entry next
come_from_place old volume new entry k (Slot slot) next numbers name is = come_to_slot old volume new entry k next numbers name is
come_from_place old volume new entry k (Page page) next numbers same (node, is) = subst (HasCome old new entry) (sym is) (
  refl,
  record {
    kept = numbers.kept;
    paged = numbers.paged;
    taken = numbers.taken;
    page = numbers.page;
    inode = numbers.inode;
    same = same ∙ ap (with_kept k) numbers.same ∙ ap (λ (n : ℕ). with_kept n numbers.taken) (sym (ap (λ (v : VolumeView). v.kept) same));
  },
)

come_on : (old volume new : VolumeView) (entry : NewEntry) (k : ℕ) (stage : Stage) (next : Next RunningView) → HasComeTo old volume entry stage → EntersAtStage entry stage (with_kept k volume) new → IsAfter entry stage next → HasCome old new entry next
come_on old volume new entry k Begun next come (paged, page, inode) (node, is) = subst (HasCome old new entry) (sym is) (
  refl,
  record {
    kept = k;
    paged = paged;
    taken = new;
    page = subst (λ (v : VolumeView). TakesPages v paged (pages_of_option entry.new_page)) (ap (with_kept k) come) page;
    inode = inode;
    same = refl;
  },
)
come_on old volume new entry k (Written node) next come enters is = come_from_place old volume new entry k node.place next come enters is
come_on old volume new entry k (Claimed node) next come name is = come_to_slot old volume new entry k next come name is

-- and what isn't named is as it was
beside_place : (entry : NewEntry) (place : NamePlace Clean) (old new : VolumeView) → EntersAfterPlace entry place old new → IsSameBeside old new
beside_place entry (Slot slot) old new name = name_beside old new entry.directory entry.name entry.slot entry.new_page name
beside_place entry (Page page) old new same = subst (IsSameBeside old) (sym same) (record { size = refl; stopped = refl; marked = refl; kept = refl })

beside : (entry : NewEntry) (stage : Stage) (old new : VolumeView) → EntersAtStage entry stage old new → IsSameBeside old new
beside entry Begun old new (paged, page, inode) =
    let one = takes_beside old paged (pages_of_option entry.new_page) page in
    let two = inode_beside paged new entry.inode inode in
    record { size = two.size ∙ one.size; stopped = two.stopped ∙ one.stopped; marked = two.marked ∙ one.marked; kept = two.kept ∙ one.kept }
beside entry (Written node) old new enters = beside_place entry node.place old new enters
beside entry (Claimed node) old new name = name_beside old new entry.directory entry.name entry.slot entry.new_page name

-- ---- the loop

-- From the old volume and device the call has come so far: what the steps that are left make of the device, all make of the old one.
pub record HasGone (old : VolumeView) (before : DeviceView) (entry : NewEntry) (volume : VolumeView) (device : DeviceView) (next : Next RunningView) : Type 0 where
  pub size : volume.size ≡ old.size
  pub same : (volume.stopped ≡ old.stopped) × (volume.marked ≡ old.marked)
  pub kept : volume.kept ≡ old.kept + events_in (left_next old.size next)
  pub stands : StandsNext volume device next
  pub come : HasCome old volume entry next
  pub onward : IsOnward (512 * old.size) (steps_of old.size entry) before (left_next old.size next) device

-- the step of a running call, by another name of the volume's size or of its entry
step_as : {T E : Type 0} (stage : Stage) {p P : ℕ} {e entry : NewEntry} {a b : DeviceView} {result : Result T E} → p ≡ P → e ≡ entry → Takes (step_at p e stage) a b result → Takes (step_at P entry stage) a b result
step_as stage {P = P} {e = e} {a = a} {b = b} {result = result} size same takes =
    subst (λ (n : NewEntry). Takes (step_at P n stage) a b result) same (subst (λ (k : ℕ). Takes (step_at k e stage) a b result) size takes)

module _ (old : VolumeView) (before : DeviceView) (entry : NewEntry) where
  abbrev P : ℕ
  P = old.size

  abbrev steps : List Step
  steps = steps_of P entry

  -- ---- at its begin

  pub at_begin : (volume : VolumeView) (running : RunningView) → volume ≡ keeping old (Make entry) → running ≡ begun entry → events_of (Make entry) ≡ events_in steps → StandsStage (keeping old (Make entry)) before (begun entry) → MayFence before (512 * P) (events_in steps) 3
      → HasGone old before entry volume before (More running)
  at_begin volume running kept is costs stands may = subst (λ (v : VolumeView). HasGone old before entry v before (More running)) (sym kept) (subst (λ (r : RunningView). HasGone old before entry (keeping old (Make entry)) before (More r)) (sym is) (record {
    size = refl;
    same = (refl, refl);
    kept = ap (λ (n : ℕ). old.kept + n) costs;
    stands = stands;
    come = (refl, refl);
    onward = starts (512 * P) 3 steps before (few P entry) may;
  }))

  module _ (volume : VolumeView) (device : DeviceView) (running : RunningView) (gone : HasGone old before entry volume device (More running)) where
    same_entry : running.entry ≡ entry
    same_entry = gone.come.0

    onward_at : IsOnward (512 * P) steps before (step_at P entry running.stage ∷ rest_at P entry running.stage) device
    onward_at = subst (λ (l : List Step). IsOnward (512 * P) steps before l device) (ap (λ (e : NewEntry). left_at P e running.stage) same_entry ∙ left_is P entry running.stage) gone.onward

    pub may_advance : MayFence device (512 * volume.size) (step_at volume.size running.entry running.stage).events 1
    may_advance =
        let first = joining.starts (step_at P entry running.stage) (rest_at P entry running.stage) onward_at.begins in
        subst (λ (p : ℕ). MayFence device (512 * p) (step_at p running.entry running.stage).events 1) (sym gone.size)
        (subst (λ (e : NewEntry). MayFence device (512 * P) (step_at P e running.stage).events 1) (sym same_entry)
        (subst (λ (n : ℕ). MayFence device (512 * P) n 1) (events_is P entry running.stage) first))

    pub failed : {T U F : Type 0} {fault : PmFault} (after : DeviceView) (result : Result U F) → IsErr result → Takes {T = T} (step_at volume.size running.entry running.stage) device after (Err fault) → Unfolds steps before after result
    failed after (Ok value) is takes = absurd (let none : false ≡ true = is in cc)
    failed {fault = fault} after (Err other) is takes =
        unfolds_failed_as other (fails (512 * P) steps before (step_at P entry running.stage) (rest_at P entry running.stage) device after fault (Err fault) refl (step_as running.stage gone.size same_entry takes) onward_at)

    pub advanced : {T : Type 0} (value : T) (next : Next RunningView) (new : VolumeView) (after : DeviceView) → Takes {E = PmFault} (step_at volume.size running.entry running.stage) device after (Ok value) → IsAfter running.entry running.stage next
        → EntersAtStage running.entry running.stage (with_kept (volume.kept - (step_at volume.size running.entry running.stage).events) volume) new → StandsNext new after next → HasGone old before entry new after next
    advanced value next new after takes is enters stands =
        let stage = running.stage in
        let spent = (step_at volume.size running.entry stage).events in
        let now = beside running.entry stage (with_kept (volume.kept - spent) volume) new enters in
        let events : spent ≡ step_events (step_at P entry stage) = ap (λ (p : ℕ). (step_at p running.entry stage).events) gone.size ∙ ap (λ (e : NewEntry). (step_at P e stage).events) same_entry ∙ sym (events_is P entry stage) in
        let later = rest_left P entry stage next new after (now.size ∙ gone.size) (subst (λ (e : NewEntry). IsAfter e stage next) same_entry is) stands in
        let all : events_in (left_at P running.entry stage) ≡ events_in (step_at P entry stage ∷ rest_at P entry stage) = ap (λ (l : List Step). events_in l) (ap (λ (e : NewEntry). left_at P e stage) same_entry ∙ left_is P entry stage) in
        let left : events_in (left_next P next) ≡ events_in (rest_at P entry stage) = ap (λ (l : List Step). events_in l) later in
        record {
          size = now.size ∙ gone.size;
          same = (now.stopped ∙ gone.same.0, now.marked ∙ gone.same.1);
          kept = let had = gone.kept in let has = now.kept in omega (arith, had, has, events, all, left);
          stands = stands;
          come = come_on old volume new entry (volume.kept - spent) stage next gone.come.1 (subst (λ (e : NewEntry). EntersAtStage e stage (with_kept (volume.kept - spent) volume) new) same_entry enters) (subst (λ (e : NewEntry). IsAfter e stage next) same_entry is);
          onward = subst (λ (l : List Step). IsOnward (512 * P) steps before l after) (sym later)
              (one_more (512 * P) steps before (step_at P entry stage) (rest_at P entry stage) device after value (step_as stage gone.size same_entry takes) onward_at);
        }

  -- ---- at its end

  module _ (volume : VolumeView) (device : DeviceView) (reply : Reply) (gone : HasGone old before entry volume device (Ended reply)) where
    pub done : reply ≡ Done
    done = gone.come.0

    pub all_made : Unfolds {T = Unit {0}} {E = PmFault} steps before device (Ok (tt {0}))
    all_made = ends (512 * P) steps before device gone.onward

    pub same_kept : volume.kept ≡ old.kept
    same_kept = let is = gone.kept in omega (arith, is)

    pub has_done : HasDone old volume (Make entry)
    has_done =
        let named = gone.come.1 in
        let numbers = named.numbers in
        subst (λ (v : VolumeView). HasDone old v (Make entry)) (kept_already volume old.kept same_kept)
        (has_made old numbers.paged numbers.taken volume numbers.kept named.kept entry numbers.page numbers.inode
        (subst (λ (v : VolumeView). PutsEntryName entry v volume) (ap (with_kept named.kept) numbers.same) named.name))
