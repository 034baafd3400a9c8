-- What the plan of a write or of another size says of its command.
use Rattle.std.proofs.Common.{◌≡◌, ℕ, ◌+◌, ◌<◌, ◌≤◌, ◌^◌, Bool, true, false, nat_lt, List, [], ◌∷◌, length, Option, Some, None, refl, sym, ap, subst, ◌∙◌, arith}
use Rattle.std.proofs.lemmas.Bool.Decides.{nat_tests}
use Rattle.pm_trait.specs.DeviceView.{DeviceView}
use Rattle.layout.specs.Geometry.{most_data_pages}
use Rattle.layout.proofs.GeometryLaws.{data_pages_below}
use Rattle.tree_model.specs.PathText.{Route}
use Rattle.tree_model.specs.Tree.{node_at, is_directory, bytes_of}
use Rattle.tree_model.specs.Walk.{walk}
use Rattle.tree_model.specs.Capacity.{free_pages, file_limit}
use Rattle.tree_model.specs.Step.{first, at, fault_of, id_of, need, lacks_pages, refusal_with}
use Rattle.tree_model.specs.Run.{State}
use Rattle.tree_model.proofs.NodeLaws.{bytes_bounded}
use Rattle.tree_model.specs.Places.{needs_places}
use Rattle.tree_model.specs.declared.command.Command.{Command}
use Rattle.tree_model.specs.declared.command.Command.TheVariants.{Create, Mkdir, Link, Unlink, Rmdir, Rename, Write, Truncate, Read, Stat as Tell, List as Show, Df}
use Rattle.tree_model.specs.declared.reply.Refusal.{Refusal}
use Rattle.tree_model.specs.declared.reply.Refusal.TheVariants.{IsDir, TooBig, NoPages}
use Rattle.image_reading.specs.Residue.{Residue}
use Rattle.image_reading.specs.Soundness.{Rule}
use Rattle.image_counts.specs.Laws.{supply_beside}
use Rattle.image_counts.proofs.States.{state_law}
use Rattle.volume.specs.Volume.{VolumeView}
use Rattle.volume.specs.Beside.{StandsBeside}
use Rattle.volume.specs.declared.plan.Action.{Action}
use Rattle.volume.specs.declared.plan.Action.TheVariants.{Make, Name, Remove, Move, Write as WriteBytes, WriteNothing, Resize, KeepSize, KeepNames, Read as ReadBytes, Status, Names, Space}
use Rattle.volume.specs.Planned.{IsMovingFor, IsWritingFor, IsResizingFor, IsPlanOf, IsPlannedWith}
use Rattle.volume.specs.Prepared.{IsBoundedWriting, IsBoundedResizing}
use Rattle.volume.specs.declared.plan.Writing.{Writing}
use Rattle.volume.specs.declared.plan.Resizing.{Resizing}
use Rattle.volume.proofs.Plans.{nothing_or}

-- ---- the command of an action

same_writing : (writing other : Writing) → WriteBytes writing ≡ WriteBytes other → writing ≡ other
same_writing writing other is = cc

same_resizing : (resizing other : Resizing) → Resize resizing ≡ Resize other → resizing ≡ other
same_resizing resizing other is = cc

abbrev writes_bytes : Action → Bool
writes_bytes (WriteBytes writing) = true
writes_bytes _ = false

abbrev sets_size : Action → Bool
sets_size (Resize resizing) = true
sets_size _ = false

-- two actions are told apart by a test
apart : {X : Type 0} (test : Action → Bool) (action other : Action) → action ≡ other → test action ≡ true → test other ≡ false → X
apart test action other is one none = let both : true ≡ false = sym one ∙ ap test is ∙ none in absurd (cc)

abbrev pub IsOfWriting : ℕ → List ℕ → State → Command → Writing → Type 0
IsOfWriting P I state command writing = (path : Route) × (offset : ℕ) × (bytes : List ℕ) × (command ≡ Write path offset bytes) × IsWritingFor P I state path offset bytes writing

pub planned_writing : (P : ℕ) (I : List ℕ) (state : State) (command : Command) (writing : Writing) → IsPlanOf P I state command (WriteBytes writing) → IsOfWriting P I state command writing
planned_writing P I state (Create path) writing (entry, is, for) = apart writes_bytes (WriteBytes writing) (Make entry) is refl refl
planned_writing P I state (Mkdir path) writing (entry, is, for) = apart writes_bytes (WriteBytes writing) (Make entry) is refl refl
planned_writing P I state (Link from to) writing (link, is, for) = apart writes_bytes (WriteBytes writing) (Name link) is refl refl
planned_writing P I state (Unlink path) writing (removal, is, for) = apart writes_bytes (WriteBytes writing) (Remove removal) is refl refl
planned_writing P I state (Rmdir path) writing (removal, is, for) = apart writes_bytes (WriteBytes writing) (Remove removal) is refl refl
planned_writing P I state (Rename from to) writing plan =
    nothing_or (IsOfWriting P I state (Rename from to) writing) Move (IsMovingFor P I state from to) KeepNames (WriteBytes writing) _ plan
    (λ is. apart writes_bytes (WriteBytes writing) KeepNames is refl refl) (λ moving is for. apart writes_bytes (WriteBytes writing) (Move moving) is refl refl)
planned_writing P I state (Write path offset bytes) writing plan =
    nothing_or (IsOfWriting P I state (Write path offset bytes) writing) WriteBytes (IsWritingFor P I state path offset bytes) WriteNothing (WriteBytes writing) _ plan
    (λ is. apart writes_bytes (WriteBytes writing) WriteNothing is refl refl)
    (λ other is for. (path, offset, bytes, refl, subst (IsWritingFor P I state path offset bytes) (sym (same_writing writing other is)) for))
planned_writing P I state (Truncate path size) writing plan =
    nothing_or (IsOfWriting P I state (Truncate path size) writing) Resize (IsResizingFor P I state path size) KeepSize (WriteBytes writing) _ plan
    (λ is. apart writes_bytes (WriteBytes writing) KeepSize is refl refl) (λ other is for. apart writes_bytes (WriteBytes writing) (Resize other) is refl refl)
planned_writing P I state (Read path offset count) writing (reading, is, for) = apart writes_bytes (WriteBytes writing) (ReadBytes reading) is refl refl
planned_writing P I state (Tell path) writing is = apart writes_bytes (WriteBytes writing) (Status _) is refl refl
planned_writing P I state (Show path) writing is = apart writes_bytes (WriteBytes writing) (Names _) is refl refl
planned_writing P I state Df writing is = apart writes_bytes (WriteBytes writing) Space is refl refl

abbrev pub IsOfResizing : ℕ → List ℕ → State → Command → Resizing → Type 0
IsOfResizing P I state command resizing = (path : Route) × (size : ℕ) × (command ≡ Truncate path size) × IsResizingFor P I state path size resizing

pub planned_resizing : (P : ℕ) (I : List ℕ) (state : State) (command : Command) (resizing : Resizing) → IsPlanOf P I state command (Resize resizing) → IsOfResizing P I state command resizing
planned_resizing P I state (Create path) resizing (entry, is, for) = apart sets_size (Resize resizing) (Make entry) is refl refl
planned_resizing P I state (Mkdir path) resizing (entry, is, for) = apart sets_size (Resize resizing) (Make entry) is refl refl
planned_resizing P I state (Link from to) resizing (link, is, for) = apart sets_size (Resize resizing) (Name link) is refl refl
planned_resizing P I state (Unlink path) resizing (removal, is, for) = apart sets_size (Resize resizing) (Remove removal) is refl refl
planned_resizing P I state (Rmdir path) resizing (removal, is, for) = apart sets_size (Resize resizing) (Remove removal) is refl refl
planned_resizing P I state (Rename from to) resizing plan =
    nothing_or (IsOfResizing P I state (Rename from to) resizing) Move (IsMovingFor P I state from to) KeepNames (Resize resizing) _ plan
    (λ is. apart sets_size (Resize resizing) KeepNames is refl refl) (λ moving is for. apart sets_size (Resize resizing) (Move moving) is refl refl)
planned_resizing P I state (Write path offset bytes) resizing plan =
    nothing_or (IsOfResizing P I state (Write path offset bytes) resizing) WriteBytes (IsWritingFor P I state path offset bytes) WriteNothing (Resize resizing) _ plan
    (λ is. apart sets_size (Resize resizing) WriteNothing is refl refl) (λ other is for. apart sets_size (Resize resizing) (WriteBytes other) is refl refl)
planned_resizing P I state (Truncate path size) resizing plan =
    nothing_or (IsOfResizing P I state (Truncate path size) resizing) Resize (IsResizingFor P I state path size) KeepSize (Resize resizing) _ plan
    (λ is. apart sets_size (Resize resizing) KeepSize is refl refl)
    (λ other is for. (path, size, refl, subst (IsResizingFor P I state path size) (sym (same_resizing resizing other is)) for))
planned_resizing P I state (Read path offset count) resizing (reading, is, for) = apart sets_size (Resize resizing) (ReadBytes reading) is refl refl
planned_resizing P I state (Tell path) resizing is = apart sets_size (Resize resizing) (Status _) is refl refl
planned_resizing P I state (Show path) resizing is = apart sets_size (Resize resizing) (Names _) is refl refl
planned_resizing P I state Df resizing is = apart sets_size (Resize resizing) Space is refl refl

-- ---- which need places

some_test : (n : ℕ) → 0 < n → nat_lt 0 n ≡ true
some_test n some = grind (arith, nat_tests)

pub writing_needs : (P : ℕ) (I : List ℕ) (state : State) (command : Command) (writing : Writing) → IsPlanOf P I state command (WriteBytes writing) → 0 < length writing.new_pages → needs_places state command ≡ true
writing_needs P I state command writing plan takes =
    let (path, offset, bytes, is, for) = planned_writing P I state command writing plan in
    ap (needs_places state) is ∙ ap (nat_lt 0) (sym for.new_pages.count_is) ∙ some_test (length writing.new_pages) takes

pub resizing_needs : (P : ℕ) (I : List ℕ) (state : State) (command : Command) (resizing : Resizing) → IsPlanOf P I state command (Resize resizing) → 0 < length resizing.new_pages → needs_places state command ≡ true
resizing_needs P I state command resizing plan takes =
    let (path, size, is, for) = planned_resizing P I state command resizing plan in
    ap (needs_places state) is ∙ ap (nat_lt 0) (sym for.new_pages.count_is) ∙ some_test (length resizing.new_pages) takes

-- ---- their limits

no_refusal : {X : Type 0} (refusal : Refusal) → ◌≡◌ {A = Option Refusal} (Some refusal) None → X
no_refusal refusal e = cc

-- where a row passes, so do its limits
passes_limits : (a b : Option Refusal) (big lacks : Bool) → first (a ∷ b ∷ at TooBig big ∷ at NoPages lacks ∷ []) ≡ None → (big ≡ false) × (lacks ≡ false)
passes_limits (Some refusal) b big lacks e = no_refusal refusal e
passes_limits None (Some refusal) big lacks e = no_refusal refusal e
passes_limits None None true lacks e = no_refusal TooBig e
passes_limits None None false true e = no_refusal NoPages e
passes_limits None None false false e = (refl, refl)

not_less : (a b : ℕ) → nat_lt a b ≡ false → b ≤ a
not_less a b is = grind (arith, nat_tests)

module _ (volume : VolumeView) (device : DeviceView) (state : State) (residue : Residue) (stands : StandsBeside volume device state residue) where
  -- a file's size
  pub size_within : (inode size : ℕ) → size ≡ length (bytes_of state.tree inode) → size ≤ file_limit
  size_within inode size is =
      let most = bytes_bounded (node_at state.tree inode) file_limit ((state_law volume.size device.words state stands.sound.coherent stands.reads).fits.sizes inode) in
      omega (arith, is, most)

  -- how many data pages there are
  pub few_pages : length volume.data_pages < 2 ^ 32
  few_pages =
      let size = (stands.sound.coherent Rule.head 0).size refl in
      let below = data_pages_below volume.size size in
      let all = stands.knows.each_page in
      omega (arith, all, below, size)

  -- the new pages of an accepted command
  pages_within : (n needed : ℕ) → n ≡ needed → nat_lt (free_pages (supply_beside volume.size residue) state.tree state.room) needed ≡ false → n ≤ most_data_pages
  pages_within n needed is enough =
      let most = not_less (free_pages (supply_beside volume.size residue) state.tree state.room) needed enough in
      let size = (stands.sound.coherent Rule.head 0).size refl in
      let below = data_pages_below volume.size size in
      omega (arith, is, most, below, size)

  pub bounded_writing : (command : Command) (writing : Writing) → IsPlannedWith (supply_beside volume.size residue) device.words state command (WriteBytes writing) → IsBoundedWriting writing
  bounded_writing command writing planned =
      let (path, offset, bytes, is, for) = planned_writing volume.size device.words state command writing planned.plan_is in
      let limits = passes_limits (fault_of (walk state.tree path)) (at IsDir (is_directory state.tree (id_of state.tree path))) (nat_lt file_limit (offset + length bytes)) (lacks_pages (supply_beside volume.size residue) state.tree state.room (Write path offset bytes))
      (ap (refusal_with (supply_beside volume.size residue) state.tree state.room) (sym is) ∙ planned.accepted) in
      let end = not_less file_limit (offset + length bytes) limits.0 in
      let first = for.offset_is in
      let count = for.count_is in
      record {
        old_size = size_within writing.inode writing.old_size for.size_is;
        end = omega (arith, end, first, count);
        new_pages = pages_within (length writing.new_pages) (need state.tree state.room (Write path offset bytes)) for.new_pages.count_is limits.1;
      }

  pub bounded_resizing : (command : Command) (resizing : Resizing) → IsPlannedWith (supply_beside volume.size residue) device.words state command (Resize resizing) → IsBoundedResizing resizing
  bounded_resizing command resizing planned =
      let (path, size, is, for) = planned_resizing volume.size device.words state command resizing planned.plan_is in
      let limits = passes_limits (fault_of (walk state.tree path)) (at IsDir (is_directory state.tree (id_of state.tree path))) (nat_lt file_limit size) (lacks_pages (supply_beside volume.size residue) state.tree state.room (Truncate path size))
      (ap (refusal_with (supply_beside volume.size residue) state.tree state.room) (sym is) ∙ planned.accepted) in
      let old = size_within resizing.inode resizing.old_size for.old_is in
      let cut = for.cut_is in
      record {
        old_size = old;
        cut = omega (arith, cut, old);
        new_pages = pages_within (length resizing.new_pages) (need state.tree state.room (Truncate path size)) for.new_pages.count_is limits.1;
      }
