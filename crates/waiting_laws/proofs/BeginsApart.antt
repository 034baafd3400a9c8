-- A call that begins holds nothing that another one holds, where its command names nothing of that.
use Rattle.std.proofs.Common.{◌≡◌, ◌⊎◌, inl, inr, ℕ, ◌*◌, ◌<◌, Bool, true, false, cond, List, [], ◌∷◌, ◌++◌, refl, sym, subst, arith}
use Rattle.std.specs.Prelude.{Option, Some, None, Contains}
use Rattle.pm_trait.specs.DeviceView.{DeviceView}
use Rattle.layout.specs.Geometry.{data_pages_of, slots_of, page_of_slot}
use Rattle.layout.specs.Fields.{page_owner}
use Rattle.layout.specs.declared.kinds.NodeKind.{NodeKind}
use Rattle.layout.specs.declared.kinds.NodeKind.TheVariants.{File, Directory}
use Rattle.layout.proofs.GeometryLaws.{page_of_slot_below}
use Rattle.tree_model.specs.PathText.{Route}
use Rattle.tree_model.specs.Tree.{Tree, IsTree, parent, id_at}
use Rattle.tree_model.specs.Run.{State}
use Rattle.tree_model.specs.Step.{making}
use Rattle.tree_model.specs.declared.command.Command.{Command}
use Rattle.tree_model.specs.declared.command.Command.TheVariants.{Unlink, Rmdir}
use Rattle.naming_laws.specs.Naming.{paths_of, names_inode}
use Rattle.naming_laws.proofs.Named.{at_first, at_second, at_third, names_at, present_named}
use Rattle.image_reading.specs.Counts.{IsIn}
use Rattle.image_reading.specs.Litter.{IsInode}
use Rattle.image_reading.specs.Reading.{slot_owner}
use Rattle.image_reading.specs.Residue.{Residue}
use Rattle.image_counts.specs.Entries.{IsUnusedPage, IsUnusedDataPage, IsFreeInode}
use Rattle.image_counts.proofs.Distinct.{in_front, in_either}
use Rattle.image_counts.proofs.States.{state_law}
use Rattle.weave_laws.specs.Beside.{AreInVolume, AreApart}
use Rattle.weave_laws.specs.Joined.{joined}
use Rattle.weave_laws.proofs.Contained.{in_contained}
use Rattle.volatile_index.specs.Index.{pages_of}
use Rattle.volume.specs.Volume.{VolumeView}
use Rattle.volume.specs.Beside.{StandsBeside}
use Rattle.volume.specs.Planned.{IsPlace, IsEntryFor, IsPlanOf}
use Rattle.volume.specs.declared.plan.NewEntry.{NewEntry}
use Rattle.volume.specs.declared.plan.NewName.{NewName}
use Rattle.volume.specs.declared.plan.Removal.{Removal}
use Rattle.volume.specs.declared.plan.Writing.{Writing}
use Rattle.volume.specs.declared.plan.Resizing.{Resizing}
use Rattle.volume.specs.declared.plan.Action.{Action}
use Rattle.volume.specs.declared.plan.Action.TheVariants.{Make, Name, Remove, Move, Write as WriteBytes, WriteNothing, Resize, KeepSize, KeepNames, Read as ReadBytes, Status, Names, Space}
use Rattle.volume.proofs.ContentPlans.{planned_writing, planned_resizing}
use Rattle.volume.proofs.PageLists.{listed_is_in}
use Rattle.volume.proofs.PlanActions.{planned_linking, planned_removing}
use Rattle.volume.proofs.Plans.{same_entry, planned_making}
use Rattle.volume.proofs.WalkedBeside.{stands_tree}
use Rattle.unlink_ops.specs.RemovalStages.{pages_gone}
use Rattle.waiting_laws.specs.Beside.{Holding, Holds, IsReady}
use Rattle.waiting_laws.specs.Growing.{file_held_by}
use Rattle.waiting_laws.specs.Begins.{holds_nothing, held_of_plan, BeginsApartLaw}

-- ---- lists

none_has : (Q : ℕ → Type 0) (x : ℕ) → IsIn x [] → Q x
none_has Q x none = absurd none

each_has : (Q : ℕ → Type 0) (y : ℕ) (ys : List ℕ) → Q y → ((x : ℕ) → IsIn x ys → Q x) → (x : ℕ) → IsIn x (y ∷ ys) → Q x
each_has Q y ys first later x among = elim among [ inl same ↦ subst Q (sym same) first | inr there ↦ later x there ]

chosen_has : (Q : ℕ → Type 0) (b : Bool) (ys : List ℕ) → ((x : ℕ) → IsIn x ys → Q x) → (x : ℕ) → IsIn x (cond b ys []) → Q x
chosen_has Q true ys each x among = each x among
chosen_has Q false ys each x among = absurd among

both_have : (Q : ℕ → Type 0) (xs ys : List ℕ) → ((x : ℕ) → IsIn x xs → Q x) → ((x : ℕ) → IsIn x ys → Q x) → (x : ℕ) → IsIn x (xs ++ ys) → Q x
both_have Q xs ys one other x among = elim (in_either x xs ys among) [ inl here ↦ one x here | inr there ↦ other x there ]

-- ---- what a command may hold

-- an inode that it names, or a free one
abbrev IsOwnInode : ℕ → List ℕ → Tree → Command → ℕ → Type 0
IsOwnInode P I T command i = (names_inode T command i ≡ true) ⊎ IsFreeInode P I i

-- a page of an inode that it names, or an unused one
abbrev IsOwnPage : ℕ → List ℕ → Tree → Command → ℕ → Type 0
IsOwnPage P I T command j = (j < data_pages_of P) × ((names_inode T command (page_owner P I j) ≡ true) ⊎ IsUnusedPage P I j)

record IsOwn (P : ℕ) (I : List ℕ) (T : Tree) (command : Command) (held : Holding) : Type 0 where
  slots : (s : ℕ) → IsIn s held.slots → IsIn (page_of_slot s) held.pages
  pages : (j : ℕ) → IsIn j held.pages → IsOwnPage P I T command j
  inodes : (i : ℕ) → IsIn i held.inodes → IsOwnInode P I T command i

-- the command of an entry's plan, and its directory's path
entry_for : (P : ℕ) (I : List ℕ) (state : State) (kind : NodeKind) (path : Route) (entry : NewEntry) → IsPlanOf P I state (making kind path) (Make entry) → IsEntryFor P I state path kind entry
entry_for P I state File path entry (other, is, for) = subst (IsEntryFor P I state path File) (sym (same_entry entry other is)) for
entry_for P I state Directory path entry (other, is, for) = subst (IsEntryFor P I state path Directory) (sym (same_entry entry other is)) for

above_new : (kind : NodeKind) (path : Route) → Contains (paths_of (making kind path)) (parent path)
above_new File path = at_second path (parent path) []
above_new Directory path = at_second path (parent path) []

-- the paths of a removal
of_removal : (command : Command) (path : Route) → (command ≡ Unlink path) ⊎ (command ≡ Rmdir path) → Contains (paths_of command) path × Contains (paths_of command) (parent path)
of_removal command path is = elim is [
  | inl file ↦ subst (λ c. Contains (paths_of c) path × Contains (paths_of c) (parent path)) (sym file) (at_first path (parent path ∷ []), at_second path (parent path) [])
  | inr directory ↦ subst (λ c. Contains (paths_of c) path × Contains (paths_of c) (parent path)) (sym directory) (at_first path (parent path ∷ []), at_second path (parent path) [])
]

-- the page of a slot that begins it
first_slot : (slot page : ℕ) → slot ≡ 32 * page → page_of_slot slot ≡ page
unfolding page_of_slot
first_slot slot page is = omega (arith, is)

module _ (volume : VolumeView) (device : DeviceView) (state : State) (command : Command) (action : Action) (others : Residue) (ready : IsReady volume device state command action others) where
  abbrev P : ℕ
  P = volume.size

  abbrev I : List ℕ
  I = device.words

  stands : StandsBeside volume device state others
  stands = ready.prepared.stands

  tree : IsTree state.tree
  tree = stands_tree volume device state others stands

  -- what stands at a path of the command it names
  named_at : (path : Route) (i : ℕ) → Contains (paths_of command) path → id_at state.tree path ≡ Some i → names_inode state.tree command i ≡ true
  named_at path i among is = names_at state.tree tree command path i among is

  -- an inode that it names is one of the table
  named_inode : (i : ℕ) → names_inode state.tree command i ≡ true → IsInode P i
  named_inode i named =
      let range = (state_law P I state stands.sound.coherent stands.reads).fits.ids i (present_named state.tree tree command i named) in
      record { from_one = range.0; in_range = range.1 }

  -- ---- pages

  slot_page : (d s : ℕ) → names_inode state.tree command d ≡ true → s < slots_of P → slot_owner P I s ≡ d → IsOwnPage P I state.tree command (page_of_slot s)
  unfolding slot_owner
  slot_page d s named below owner = (page_of_slot_below P s below, inl (subst (λ x. names_inode state.tree command x ≡ true) (sym owner) named))

  place_page : (d s : ℕ) (new_page : Option ℕ) → names_inode state.tree command d ≡ true → IsPlace P I d s new_page → IsOwnPage P I state.tree command (page_of_slot s)
  place_page d s None named place = slot_page d s named place.vacant.page.in_range place.vacant.page.owner
  place_page d s (Some page) named place =
      subst (IsOwnPage P I state.tree command) (sym (first_slot s page place.slot_is)) (place.page_is.free.0, inr place.page_is.free.1)

  -- those that the volume lists at an inode that the command names
  listed_page : (i : ℕ) → names_inode state.tree command i ≡ true → (j : ℕ) → IsIn j (pages_of volume.index i) → IsOwnPage P I state.tree command j
  listed_page i named j among =
      let inode = named_inode i named in
      let page = listed_is_in volume device state others stands i (ready.prepared.untouched.each i named) inode.from_one inode.in_range j (in_contained j (pages_of volume.index i) among) in
      (page.in_range, inl (subst (λ x. names_inode state.tree command x ≡ true) (sym page.owner) named))

  new_page : (pages : List ℕ) → ((j : ℕ) → Contains pages j → IsUnusedDataPage P I j) → (j : ℕ) → IsIn j pages → IsOwnPage P I state.tree command j
  new_page pages unused j among = let page = unused j (in_contained j pages among) in (page.0, inr page.1)

  -- ---- by the kind of plan

  nothing_own : IsOwn P I state.tree command holds_nothing
  nothing_own = record {
    slots = none_has (λ s. IsIn (page_of_slot s) []);
    pages = none_has (IsOwnPage P I state.tree command);
    inodes = none_has (IsOwnInode P I state.tree command);
  }

  -- a name, in a directory and for an inode
  name_own : (s d i : ℕ) (pages : List ℕ) → IsOwnPage P I state.tree command (page_of_slot s) → ((j : ℕ) → IsIn j pages → IsOwnPage P I state.tree command j) → IsOwnInode P I state.tree command i → names_inode state.tree command d ≡ true
      → IsOwn P I state.tree command (record { slots = s ∷ []; pages = page_of_slot s ∷ pages; inodes = i ∷ d ∷ [] })
  name_own s d i pages page others inode named = record {
    slots = each_has (λ t. IsIn (page_of_slot t) (page_of_slot s ∷ pages)) s [] (inl refl) (none_has (λ t. IsIn (page_of_slot t) (page_of_slot s ∷ pages)));
    pages = each_has (IsOwnPage P I state.tree command) (page_of_slot s) pages page others;
    inodes = each_has (IsOwnInode P I state.tree command) i (d ∷ []) inode (each_has (IsOwnInode P I state.tree command) d [] (inl named) (none_has (IsOwnInode P I state.tree command)));
  }

  entry_own : (entry : NewEntry) → IsPlanOf P I state command (Make entry) → IsOwn P I state.tree command (held_of_plan volume (Make entry))
  entry_own entry plan =
      let (path, is) = planned_making P I state command entry plan in
      let for = entry_for P I state entry.kind path entry (subst (λ c. IsPlanOf P I state c (Make entry)) is plan) in
      let named = named_at (parent path) entry.directory (subst (λ c. Contains (paths_of c) (parent path)) (sym is) (above_new entry.kind path)) for.directory_is in
      name_own entry.slot entry.directory entry.inode [] (place_page entry.directory entry.slot entry.new_page named for.place) (none_has (IsOwnPage P I state.tree command)) (inr for.inode_is.free) named

  link_own : (link : NewName) → IsPlanOf P I state command (Name link) → IsOwn P I state.tree command (held_of_plan volume (Name link))
  link_own link plan =
      let (from, to, is, for) = planned_linking P I state command link plan in
      let named = named_at (parent to) link.directory (subst (λ c. Contains (paths_of c) (parent to)) (sym is) (at_third from to (parent to) [])) for.new_name.directory_is in
      let file = named_at from link.inode (subst (λ c. Contains (paths_of c) from) (sym is) (at_first from (to ∷ parent to ∷ []))) for.inode_is in
      name_own link.slot link.directory link.inode [] (place_page link.directory link.slot link.new_page named for.new_name.place) (none_has (IsOwnPage P I state.tree command)) (inl file) named

  removal_own : (removal : Removal) → IsPlanOf P I state command (Remove removal) → IsOwn P I state.tree command (held_of_plan volume (Remove removal))
  removal_own removal plan =
      let (path, is, for) = planned_removing P I state command removal plan in
      let paths = of_removal command path is in
      let node = named_at path removal.loss.inode paths.0 for.named.inode_is in
      let named = named_at (parent path) removal.directory paths.1 for.named.directory_is in
      name_own removal.slot removal.directory removal.loss.inode (pages_gone volume removal)
      (slot_page removal.directory removal.slot named for.named.slot_is.slot.live.held.in_range for.named.slot_is.owner)
      (chosen_has (IsOwnPage P I state.tree command) removal.loss.goes (pages_of volume.index removal.loss.inode) (listed_page removal.loss.inode node)) (inl node) named

  file_own : (i : ℕ) (pages : List ℕ) → names_inode state.tree command i ≡ true → ((j : ℕ) → Contains pages j → IsUnusedDataPage P I j) → IsOwn P I state.tree command (file_held_by volume i pages)
  file_own i pages named unused = record {
    slots = none_has (λ s. IsIn (page_of_slot s) (pages_of volume.index i ++ pages));
    pages = both_have (IsOwnPage P I state.tree command) (pages_of volume.index i) pages (listed_page i named) (new_page pages unused);
    inodes = each_has (IsOwnInode P I state.tree command) i [] (inl named) (none_has (IsOwnInode P I state.tree command));
  }

  writing_own : (writing : Writing) → IsPlanOf P I state command (WriteBytes writing) → IsOwn P I state.tree command (held_of_plan volume (WriteBytes writing))
  writing_own writing plan =
      let (path, offset, bytes, is, for) = planned_writing P I state command writing plan in
      file_own writing.inode writing.new_pages (named_at path writing.inode (subst (λ c. Contains (paths_of c) path) (sym is) (at_first path [])) for.inode_is) for.new_pages.each

  resizing_own : (resizing : Resizing) → IsPlanOf P I state command (Resize resizing) → IsOwn P I state.tree command (held_of_plan volume (Resize resizing))
  resizing_own resizing plan =
      let (path, size, is, for) = planned_resizing P I state command resizing plan in
      file_own resizing.inode resizing.new_pages (named_at path resizing.inode (subst (λ c. Contains (paths_of c) path) (sym is) (at_first path [])) for.inode_is) for.new_pages.each

  plan_own : (plan : Action) → IsPlanOf P I state command plan → IsOwn P I state.tree command (held_of_plan volume plan)
  plan_own (Make entry) plan = entry_own entry plan
  plan_own (Name link) plan = link_own link plan
  plan_own (Remove removal) plan = removal_own removal plan
  plan_own (Move moving) plan = nothing_own
  plan_own (WriteBytes writing) plan = writing_own writing plan
  plan_own WriteNothing plan = nothing_own
  plan_own (Resize resizing) plan = resizing_own resizing plan
  plan_own KeepSize plan = nothing_own
  plan_own KeepNames plan = nothing_own
  plan_own (ReadBytes reading) plan = nothing_own
  plan_own (Status inode) plan = nothing_own
  plan_own (Names inode) plan = nothing_own
  plan_own Space plan = nothing_own

-- ---- another call

module _ (volume : VolumeView) (device : DeviceView) (state : State) (command : Command) (action : Action) (other rest : Residue) (others_held : Holding) (ready : IsReady volume device state command action (joined other rest))
    (holds : Holds volume device.words other others_held) (unnamed : (i : ℕ) → names_inode state.tree command i ≡ true → ¬ IsIn i others_held.inodes) where
  inode_of : (i : ℕ) → IsOwnInode volume.size device.words state.tree command i → IsInode volume.size i
  inode_of i own = elim own [
    | inl named ↦ named_inode volume device state command action (joined other rest) ready i named
    | inr free ↦ record { from_one = free.0; in_range = free.1 }
  ]

  inode_apart : (i : ℕ) → IsOwnInode volume.size device.words state.tree command i → ¬ IsIn i others_held.inodes
  inode_apart i own theirs = elim own [ inl named ↦ unnamed i named theirs | inr free ↦ holds.used i theirs free.2 ]

  named_page_apart : (j : ℕ) → names_inode state.tree command (page_owner volume.size device.words j) ≡ true → ¬ IsIn j others_held.pages
  named_page_apart j named theirs =
      let owner = page_owner volume.size device.words j in
      elim (holds.of_pages j theirs) [
        | inl left ↦ (holds.untouched owner (unnamed owner named) (named_inode volume device state command action (joined other rest) ready owner named).from_one).apart.pages j left refl
        | inr among ↦ unnamed owner named among
      ]

  unused_page_apart : (j : ℕ) → IsUnusedPage volume.size device.words j → ¬ IsIn j others_held.pages
  unused_page_apart j unused theirs = elim (holds.of_pages j theirs) [
    | inl left ↦ elim (ready.prepared.stands.beside.marks j (in_front j other.pages rest.pages left)) [ inl owner ↦ owner unused.0 | inr kind ↦ kind unused.1 ]
    | inr among ↦ (let least = (holds.in_volume.of_inodes (page_owner volume.size device.words j) among).from_one in let none = unused.0 in omega (arith, least, none))
  ]

  page_apart : (j : ℕ) → IsOwnPage volume.size device.words state.tree command j → ¬ IsIn j others_held.pages
  page_apart j own theirs = elim own.1 [ inl named ↦ named_page_apart j named theirs | inr unused ↦ unused_page_apart j unused theirs ]

  apart_by : (held : Holding) → IsOwn volume.size device.words state.tree command held
      → AreInVolume volume.size held.pages held.inodes × AreApart held.slots held.pages held.inodes others_held.slots others_held.pages others_held.inodes
  apart_by held own = (
    record { of_pages = λ j mine. (own.pages j mine).0; of_inodes = λ i mine. inode_of i (own.inodes i mine) },
    record {
      of_slots = λ s mine theirs. page_apart (page_of_slot s) (own.pages (page_of_slot s) (own.slots s mine)) (holds.of_slots s theirs);
      of_pages = λ j mine. page_apart j (own.pages j mine);
      of_inodes = λ i mine. inode_apart i (own.inodes i mine);
      no_slot = λ s mine theirs. page_apart (page_of_slot s) (own.pages (page_of_slot s) (own.slots s mine)) theirs;
      no_other_slot = λ s theirs mine. page_apart (page_of_slot s) (own.pages (page_of_slot s) mine) (holds.of_slots s theirs);
    },
  )

pub begins_apart_law : BeginsApartLaw
begins_apart_law volume device state command action other rest others_held ready holds unnamed =
    apart_by volume device state command action other rest others_held ready holds unnamed (held_of_plan volume action)
    (plan_own volume device state command action (joined other rest) ready action ready.planned.plan_is)
