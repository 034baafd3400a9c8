-- A write inside the size of its file has one step, which commits it.
use Rattle.std.proofs.Common.{◌≡◌, inl, inr, ℕ, ◌+◌, ◌-◌, ◌≤◌, Bool, true, false, nat_le, cond, ◌==◌, List, [], ◌∷◌, ◌++◌, length, unwrap_or, refl, sym, ap, subst, ◌∙◌, arith}
use Rattle.std.specs.Prelude.{if◌then◌else◌, Some}
use Rattle.std.proofs.lemmas.Bool.{cases_eq}
use Rattle.std.proofs.lemmas.Bool.Decides.{nat_tests}
use Rattle.std.proofs.lemmas.List.{ext_get_or}
use Rattle.pm_trait.specs.DeviceView.{DeviceView}
use Rattle.layout.specs.Fields.{inode_size}
use Rattle.layout.specs.Geometry.{descriptor_word_of}
use Rattle.layout.specs.Superblock.{has_mark}
use Rattle.layout.proofs.Widths.{in_inode, in_descriptor}
use Rattle.tree_model.specs.PathText.{Route}
use Rattle.tree_model.specs.Run.{State}
use Rattle.tree_model.specs.Step.{with_bytes, overwritten, resized, tree_after, id_of}
use Rattle.tree_model.specs.Tree.{Tree, root_id, id_at, is_directory, is_directory_node, is_file_node, bytes_of}
use Rattle.tree_model.specs.declared.command.Command.TheVariants.{Write}
use Rattle.tree_model.proofs.RoomLaws.{room_after-same}
use Rattle.tree_model.proofs.TreeLaws.{node_at-with_bytes_here, node_at-with_bytes_other}
use Rattle.image_reading.specs.Residue.{Residue, no_residue}
use Rattle.image_counts.proofs.Distinct.{in_front}
use Rattle.image_counts.proofs.Nodes.{file_node}
use Rattle.image_counts.proofs.States.{is_room}
use Rattle.image_laws.specs.CreateStep.{IsStepped}
use Rattle.image_laws.specs.Frame.{SameShape}
use Rattle.image_laws.proofs.Addresses.{descriptor-ne_page}
use Rattle.content_laws.specs.Inside.{WritesInside}
use Rattle.content_laws.specs.Mix.{StoresContent}
use Rattle.content_laws.proofs.Bytes.{length-overwritten, length-resized, resized_at}
use Rattle.content_laws.proofs.Quiet as content
use Rattle.content_laws.proofs.Torn.{content_of}
use Rattle.weave_laws.specs.Beside.{StoresIn, HasPagesOf}
use Rattle.weave_laws.specs.Bytes.{MayWrite, LeavesInside}
use Rattle.weave_laws.proofs.BytesInside as inside_laws
use Rattle.weave_laws.proofs.Disjoint.{wider_law}
use Rattle.weave_laws.proofs.OwnWords.{inside_words_law}
use Rattle.weave_laws.proofs.Sized.{ChangesFile}
use Rattle.weave_laws.proofs.SizedInside.{written_inside_law}
use Rattle.weave_laws.proofs.SizedSteps.{inside_write_law}
use Rattle.weave_laws.proofs.WaitingFiles.{waiting_writing_law}
use Rattle.volatile_index.specs.Index.{pages_of}
use Rattle.volume.specs.Volume.{VolumeView}
use Rattle.volume.specs.Stages.{keeping}
use Rattle.volume.specs.declared.plan.Writing.{Writing}
use Rattle.volume.specs.declared.plan.Action.TheVariants.{Write as WriteBytes}
use Rattle.data_ops.specs.declared.grow.Progress.TheVariants.{Begun}
use Rattle.data_ops.specs.declared.write.Stage.{Stage}
use Rattle.data_ops.specs.declared.write.Stage.TheVariants.{Inside, Growing}
use Rattle.data_ops.specs.WriteStages.{EntersAt, begun_writing, step_of}
use Rattle.waiting_laws.specs.Beside.{IsReady, StandsWith, MakesStep, Leaves}
use Rattle.waiting_laws.specs.Growing.{file_held_by, TearsFile}
use Rattle.waiting_laws.specs.Writing.{WritingInsideLaw}
use Rattle.waiting_laws.proofs.Standing.{IsReached, waits, no_mark, behind, mixed_sound}
use Rattle.waiting_laws.proofs.FilePages as files
use Rattle.waiting_laws.proofs.FileKnown.{known_keeping, known_filled}
use Rattle.waiting_laws.proofs.ReadyStands.{stands_keeping}
use Rattle.waiting_laws.proofs.FileWrites as writes

-- ---- the tables

module _ (P : ℕ) (I J : List ℕ) (i offset : ℕ) (bytes : List ℕ) (may : MayWrite P I i offset bytes) (stored : WritesInside P I J i offset bytes) where
  shape : SameShape P I J
  shape = inside_laws.shape P I J i offset bytes may stored

  in_pages : StoresContent P I J
  in_pages = inside_laws.stores P I J i offset bytes may stored

  pub change : ChangesFile P I J i (λ j. ⊥)
  change = record {
    before = may.coherent;
    after = shape.coherent;
    file = may.reached;
    names = shape.names;
    version = content.head_same P I J in_pages 1 (omega arith);
    descriptors = λ j f lt l3 none. stored.others (descriptor_word_of P j f) (λ k h w page l e. descriptor-ne_page P j f h w lt (in_descriptor I f l3) e);
    unheld = λ t none held. none;
    unheld_after = λ t none held. none;
    slots = λ t f held lt. content.slot_same P I J in_pages t f lt held;
    inodes = λ x f some most lt why. content.inode_same P I J in_pages x f some most (in_inode I f lt);
  }

-- ---- the tree

-- a range that ends not past the size leaves it
same_size : (old : List ℕ) (offset size : ℕ) (bytes : List ℕ) → length old ≡ size → offset + length bytes ≤ size → resized (overwritten old offset bytes) size ≡ overwritten old offset bytes
same_size old offset size bytes is le =
    let long = length-overwritten old offset bytes in
    let cut = length-resized (overwritten old offset bytes) size in
    ext_get_or 0 (resized (overwritten old offset bytes) size) (overwritten old offset bytes) (omega (arith, long, cut, is, le))
    (λ o lt. resized_at (overwritten old offset bytes) size o (omega (arith, lt, cut)))

written_tree : (T : Tree) (path : Route) (i offset size n : ℕ) (bytes : List ℕ) → (length bytes == 0) ≡ false → id_at T path ≡ Some i → length (bytes_of T i) ≡ size → offset + length bytes ≤ size
    → tree_after n T (Write path offset bytes) ≡ with_bytes T i (resized (overwritten (bytes_of T i) offset bytes) size)
written_tree T path i offset size n bytes some at long inside =
    let e : id_of T path ≡ i = ap (λ o. unwrap_or o root_id) at in
    ap (λ b. cond b T (with_bytes T (id_of T path) (overwritten (bytes_of T (id_of T path)) offset bytes))) some
    ∙ ap (λ x. with_bytes T x (overwritten (bytes_of T x) offset bytes)) e
    ∙ ap (λ b. with_bytes T i b) (sym (same_size (bytes_of T i) offset size bytes long inside))

-- a file of other bytes is no directory
same_directories : (T : Tree) (i : ℕ) (bytes : List ℕ) → is_directory T i ≡ false → (x : ℕ) → is_directory (with_bytes T i bytes) x ≡ is_directory T x
same_directories T i bytes file x = elim (cases_eq x i) [
  | inl e ↦ subst (λ y. is_directory (with_bytes T i bytes) y ≡ is_directory T y) (sym e) (ap is_directory_node (node_at-with_bytes_here T i bytes) ∙ sym file)
  | inr ne ↦ ap is_directory_node (node_at-with_bytes_other T i bytes x ne)
]

-- ---- the step

module _ (volume : VolumeView) (before : DeviceView) (state : State) (path : Route) (writing : Writing) (bytes : List ℕ) (n : ℕ) (others : Residue)
    (ready : IsReady volume before state (Write path writing.offset bytes) (WriteBytes writing) others) (inside : writing.offset + writing.count ≤ writing.old_size) where
  abbrev P : ℕ
  P = volume.size

  abbrev I : List ℕ
  I = before.words

  abbrev i : ℕ
  i = writing.inode

  abbrev own : List ℕ
  own = pages_of volume.index i

  with : StandsWith (keeping volume (WriteBytes writing)) before state no_residue others
  with = stands_keeping volume before state (Write path writing.offset bytes) (WriteBytes writing) others ready

  ends_inside : writing.offset + length bytes ≤ inode_size I i
  ends_inside =
      let size = writes.size volume before state path writing bytes others ready in
      let count = (writes.for_writing volume before state path writing bytes others ready).count_is in
      omega (arith, size, count, inside)

  may : MayWrite P I i writing.offset bytes
  may = waiting_writing_law P I state i writing.offset bytes others (waits (keeping volume (WriteBytes writing)) before state no_residue others with)
      (writes.file volume before state path writing bytes others ready) ends_inside

  named : id_at state.tree path ≡ Some i
  named = (writes.for_writing volume before state path writing bytes others ready).inode_is

  has_pages : HasPagesOf P I i own
  has_pages = files.all_pages volume before state others ready.prepared.stands i (writes.file volume before state path writing bytes others ready) (writes.untouched volume before state path writing bytes others ready)

  unmarked : has_mark I ≡ false
  unmarked = no_mark volume before state others ready.prepared.stands ready.unmarked

  was_size : length (bytes_of state.tree i) ≡ inode_size I i
  was_size = (content_of P I state.tree i may.coherent ready.prepared.stands.reads.tree may.reached may.file).size

  no_directory : is_directory state.tree i ≡ false
  no_directory = ap is_directory_node (file_node P I state.tree may.coherent ready.prepared.stands.reads.tree i may.reached may.file).1

  -- ---- the volume behind the step, which has lost the step's events alone

  abbrev spent : ℕ → VolumeView
  spent kept = record (keeping volume (WriteBytes writing)) { kept = kept }

  -- ---- the words

  module _ (J : List ℕ) (made : (step_of volume.size bytes (Inside writing)).Makes I J) where
    stored : WritesInside P I J i writing.offset bytes
    stored = made.writes

    law : LeavesInside P I J i writing.offset bytes
    law = inside_laws.leaves_inside P I J i writing.offset bytes may stored

    pub stepped : IsStepped P J state (Write path writing.offset bytes) n
    stepped = inside_write_law P I J state path i writing.offset n bytes may stored (writes.some volume before state path writing bytes others ready) named ready.prepared.stands.reads

    -- ---- what is stored

    stores : StoresIn P I J [] (own ++ []) (i ∷ [])
    stores = wider_law P I J [] own [] [] (own ++ []) (i ∷ []) (record { of_slots = λ s among. absurd among; of_pages = λ j among. in_front j own [] among; of_inodes = λ x among. absurd among })
        (inside_words_law P I J i writing.offset bytes own has_pages stored)

    -- ---- what is torn

    tree_is : stepped.new.tree ≡ with_bytes state.tree i (resized (overwritten (bytes_of state.tree i) writing.offset bytes) (inode_size I i))
    tree_is = stepped.tree ∙ written_tree state.tree path i writing.offset (inode_size I i) n bytes (writes.some_test volume before state path writing bytes others ready) named was_size ends_inside

    room_is : stepped.new.room ≡ state.room
    room_is =
        let (gives, is, fits) = stepped.room in
        is ∙ room_after-same n state.tree state.room (Write path writing.offset bytes) gives (is_room P I state.tree may.coherent ready.prepared.stands.reads.tree state.room ready.prepared.stands.reads.room) refl refl
        (λ x. ap (λ T. is_directory T x) (sym stepped.tree ∙ tree_is) ∙ same_directories state.tree i (resized (overwritten (bytes_of state.tree i) writing.offset bytes) (inode_size I i)) no_directory x)

    pub tears : TearsFile P I J state stepped.new i writing.offset bytes
    tears = record {
      crash = λ M mix. let torn = law.torn M mix in (mixed_sound P I J M [] (own ++ []) (i ∷ []) stores unmarked mix torn.coherent, torn);
      file = ap is_file_node (file_node P I state.tree may.coherent ready.prepared.stands.reads.tree i may.reached may.file).1;
      tree = tree_is;
      room = room_is;
    }

    reached : (kept : ℕ) → IsReached (spent kept) J stepped.new no_residue others
    reached kept = record {
      coherent = law.coherent;
      beside = written_inside_law P I J i writing.offset bytes others may stored ready.prepared.stands.beside;
      reads = stepped.reads;
      knows = known_filled (spent kept) I J others others (change P I J i writing.offset bytes may stored) stored.size (known_keeping kept volume I others ready.prepared.stands.knows) [] (λ j none. none) (λ j none. (none, λ is. is)) (λ j none. absurd none) (spent kept) refl;
      no_pointer = ready.no_pointer;
    }

  -- ---- behind the step

  module _ (new : VolumeView) (after : DeviceView) (makes : MakesStep (step_of volume.size bytes (Inside writing)) (EntersAt (Inside writing)) (keeping volume (WriteBytes writing)) new before after) where
    abbrev later : IsStepped P after.words state (Write path writing.offset bytes) n
    later = stepped after.words makes.takes.makes

    abbrev kept_then : ℕ
    kept_then = (keeping volume (WriteBytes writing)).kept - (step_of volume.size bytes (Inside writing)).events

    beside : StandsWith (spent kept_then) after later.new no_residue others
    beside = behind (keeping volume (WriteBytes writing)) (spent kept_then) before after state later.new no_residue no_residue others (step_of volume.size bytes (Inside writing)) (EntersAt (Inside writing)) [] (own ++ []) (i ∷ [])
        with (record { kept = makes.kept; takes = makes.takes; enters = refl }) refl (record { size = refl; stopped = refl; marked = refl; kept = refl }) (stores after.words makes.takes.makes) (reached after.words makes.takes.makes kept_then)

    pub leaves : Leaves volume new before after later.new no_residue others (file_held_by volume i [])
    leaves = subst (λ v. Leaves volume v before after later.new no_residue others (file_held_by volume i [])) (sym makes.enters)
        (record { beside = beside; stores = stores after.words makes.takes.makes; affects = record { size = refl; others = λ x none. refl; lists = λ x j listed. inl listed } })

-- ---- where the plan begins inside

not_growing : (writing : Writing) → ◌≡◌ {A = Stage} (Growing writing Begun) (Inside writing) → ⊥
not_growing writing e = cc

pub begins_inside : (writing : Writing) → begun_writing writing ≡ Inside writing → writing.offset + writing.count ≤ writing.old_size
begins_inside writing begins = by_test (nat_le (writing.offset + writing.count) writing.old_size) refl begins
  where
    by_test : (inside : Bool) → nat_le (writing.offset + writing.count) writing.old_size ≡ inside → ◌≡◌ {A = Stage} (if inside then Inside writing else Growing writing Begun) (Inside writing) → writing.offset + writing.count ≤ writing.old_size
    by_test true test e = grind (arith, nat_tests)
    by_test false test e = absurd (not_growing writing e)

pub writing_inside_law : WritingInsideLaw
writing_inside_law volume new before after state path writing bytes n others ready begins makes =
    let inside = begins_inside writing begins in (
      stepped volume before state path writing bytes n others ready inside after.words makes.takes.makes,
      tears volume before state path writing bytes n others ready inside after.words makes.takes.makes,
      leaves volume before state path writing bytes n others ready inside new after makes,
    )
