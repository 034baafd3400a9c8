-- A change whose plan has no event leaves tree and room.
use Rattle.std.proofs.Common.{◌≡◌, ℕ, ◌+◌, ◌≤◌, inl, inr, Bool, true, false, cond, ◌&&◌, ◌==◌, nat_le, nat_lt, List, length, Some, None, refl, sym, ap, subst, ◌∙◌, arith, eqb-true, true≢false}
use Rattle.std.specs.Cmp.{nat_cmp_total}
use Rattle.std.specs.FinMap.{nat_cmp-IsAntisymmetric}
use Rattle.std.proofs.lemmas.Bool.{cases_eq}
use Rattle.std.proofs.lemmas.List.{ext_get_or}
use Rattle.tree_model.specs.PathText.{Route}
use Rattle.tree_model.specs.Tree.{Tree, File, IsRoom, parent, id_at, node_at, is_directory, bytes_of, bytes_of_node, is_number}
use Rattle.tree_model.specs.Capacity.{Supply}
use Rattle.tree_model.specs.Accepted.{MayTruncate}
use Rattle.tree_model.specs.Step.{refusal_with, tree_after, RoomAfterWith, id_of, is_there, is_same_node, gaining, losing, with_bytes, overwritten, resized, without_path, without_unnamed, with_moved}
use Rattle.tree_model.specs.Run.{State, IsVolumeState, is_changing}
use Rattle.tree_model.specs.declared.command.Command.{Command}
use Rattle.tree_model.specs.declared.command.Command.TheVariants.{Create, Mkdir, Link, Unlink, Rmdir, Rename, Write, Truncate, Read, Stat as Tell, List as Show, Df}
use Rattle.tree_model.proofs.AcceptedLaws.{Accepted-from_row}
use Rattle.tree_model.proofs.RoomLaws.{room_after-same}
use Rattle.tree_model.proofs.TableLaws.{same_table}
use Rattle.tree_model.proofs.TreeLaws.{node_at-with_bytes_here, node_at-with_bytes_other}
use Rattle.image_counts.specs.Laws.{supply_beside}
use Rattle.image_counts.proofs.States.{state_law}
use Rattle.content_laws.proofs.Bytes.{length-resized, resized_at}
use Rattle.volume.specs.Costs.{events_of}
use Rattle.volume.specs.Planned.{IsNothingOr, IsPlanOf, is_size_of}
use Rattle.volume.specs.declared.plan.Action.{Action}
use Rattle.volume.specs.declared.plan.Action.TheVariants.{Make, Name, Remove, Move, Write as WriteBytes, Resize}
use Rattle.waiting_laws.specs.Begins.{IdleLaw}

-- ---- plans with an event

some_of_two : (b : Bool) (m n : ℕ) → 1 ≤ m → 1 ≤ n → 1 ≤ cond b m n
some_of_two true m n one other = one
some_of_two false m n one other = other

no_event : {X : Type 0} (action other : Action) → action ≡ other → events_of action ≡ 0 → 1 ≤ events_of other → X
no_event action other is idle some = let none : events_of other ≡ 0 = ap events_of (sym is) ∙ idle in let no : ⊥ = omega (arith, some, none) in absurd no

-- Where the plan has no event, nothing is to be done.
nothing_by : {A : Type 0} (make : A → Action) (For : A → Type 0) (nothing action : Action) → ((x : A) → 1 ≤ events_of (make x)) → events_of action ≡ 0
    → (b : Bool) → IsNothingOr b nothing (λ action. (x : A) × (action ≡ make x) × For x) action → b ≡ true
nothing_by make For nothing action some idle true plan = refl
nothing_by make For nothing action some idle false (x, is, for) = no_event action (make x) is idle (some x)

both : (a b : Bool) → a && b ≡ true → b ≡ true
both true b is = is
both false b is = cc

-- ---- the same bytes

same_bytes : (bytes : List ℕ) (size : ℕ) → size ≡ length bytes → resized bytes size ≡ bytes
same_bytes bytes size is =
    let long = length-resized bytes size in
    ext_get_or 0 (resized bytes size) bytes (long ∙ is) (λ o low. resized_at bytes size o (omega (arith, low, long)))

-- a file that gets the bytes that it has
same_with_bytes : (T : Tree) (i : ℕ) (bytes : List ℕ) → node_at T i ≡ Some (File bytes) → with_bytes T i bytes ≡ T
same_with_bytes T i bytes file = λ k. record { names = T.names; nodes = nodes k }
  where
    same_node : (x : ℕ) → node_at (with_bytes T i bytes) x ≡ node_at T x
    same_node x = elim (cases_eq x i) [
      | inl here ↦ ap (node_at (with_bytes T i bytes)) here ∙ node_at-with_bytes_here T i bytes ∙ sym file ∙ ap (node_at T) (sym here)
      | inr away ↦ node_at-with_bytes_other T i bytes x away
    ]

    nodes : (with_bytes T i bytes).nodes ≡ T.nodes
    nodes = same_table nat_cmp_total nat_cmp-IsAntisymmetric (with_bytes T i bytes).nodes T.nodes same_node

-- ---- by command

module _ (P n : ℕ) (I : List ℕ) (state : State) (valid : IsVolumeState P state) where
  abbrev T : Tree
  T = state.tree

  abbrev IsIdle : Command → Type 0
  IsIdle command = (tree_after n T command ≡ T) × RoomAfterWith None n T state.room command state.room

  -- where no directory gains or loses a name, and the tree stays
  still : (command : Command) → tree_after n T command ≡ T → gaining T command ≡ None → losing T command ≡ None → IsIdle command
  still command same gains loses = (
    same,
    (
      false,
      sym (room_after-same n T state.room command false valid.room gains loses (λ x. ap (λ (U : Tree). is_directory U x) same)),
      subst (λ (U : Tree). IsRoom U state.room) (sym same) valid.room,
    ),
  )

  rename_idle : (from to : Route) → is_same_node T from to ≡ true → IsIdle (Rename from to)
  rename_idle from to same =
      still (Rename from to) (ap (λ b. cond b T (without_unnamed (with_moved (without_path T to) from to))) same)
      (ap (λ b. cond b None (Some (id_of T (parent to)))) (both (is_number (id_at T from) (id_of T to)) (is_there T to) same))
      (ap (λ b. cond b None (Some (id_of T (parent from)))) same)

  write_idle : (path : Route) (offset : ℕ) (bytes : List ℕ) → (length bytes == 0) ≡ true → IsIdle (Write path offset bytes)
  write_idle path offset bytes none =
      still (Write path offset bytes) (ap (λ b. cond b T (with_bytes T (id_of T path) (overwritten (bytes_of T (id_of T path)) offset bytes))) none) refl refl

  truncate_idle : (supply : Supply) (path : Route) (size : ℕ) → refusal_with supply T state.room (Truncate path size) ≡ None → is_size_of state path size ≡ true → IsIdle (Truncate path size)
  truncate_idle supply path size accepted same =
      let found : MayTruncate supply T state.room path size = Accepted-from_row supply T state.room (Truncate path size) valid.tree accepted in
      let i = id_of T path in
      let file : node_at T i ≡ Some (File found.source.bytes) = ap (node_at T) found.source.is ∙ found.source.file in
      let is : bytes_of T i ≡ found.source.bytes = ap bytes_of_node file in
      let kept : resized (bytes_of T i) size ≡ bytes_of T i = same_bytes (bytes_of T i) size (eqb-true size (length (bytes_of T i)) same) in
      still (Truncate path size) (ap (with_bytes T i) (kept ∙ is) ∙ same_with_bytes T i found.source.bytes file) refl refl

  idle : (supply : Supply) (command : Command) (action : Action) → refusal_with supply T state.room command ≡ None → IsPlanOf P I state command action → is_changing command ≡ true → events_of action ≡ 0 → IsIdle command
  idle supply (Create path) action accepted (entry, is, for) changing none = no_event action (Make entry) is none (omega arith)
  idle supply (Mkdir path) action accepted (entry, is, for) changing none = no_event action (Make entry) is none (omega arith)
  idle supply (Link from to) action accepted (link, is, for) changing none = no_event action (Name link) is none (omega arith)
  idle supply (Unlink path) action accepted (removal, is, for) changing none = no_event action (Remove removal) is none (omega arith)
  idle supply (Rmdir path) action accepted (removal, is, for) changing none = no_event action (Remove removal) is none (omega arith)
  idle supply (Rename from to) action accepted plan changing none = rename_idle from to (nothing_by Move _ _ action (λ moving. omega arith) none (is_same_node T from to) plan)
  idle supply (Write path offset bytes) action accepted plan changing none =
      write_idle path offset bytes (nothing_by WriteBytes _ _ action (λ writing. some_of_two (nat_le (writing.offset + writing.count) writing.old_size) _ _ (omega arith) (omega arith)) none (length bytes == 0) plan)
  idle supply (Truncate path size) action accepted plan changing none =
      truncate_idle supply path size accepted
      (nothing_by Resize _ _ action (λ resizing. some_of_two (nat_lt resizing.old_size resizing.new_size) _ _ (omega arith) (omega arith)) none (is_size_of state path size) plan)
  idle supply (Read path offset count) action accepted plan changing none = absurd (true≢false (sym changing))
  idle supply (Tell path) action accepted plan changing none = absurd (true≢false (sym changing))
  idle supply (Show path) action accepted plan changing none = absurd (true≢false (sym changing))
  idle supply Df action accepted plan changing none = absurd (true≢false (sym changing))

pub idle_law : IdleLaw
idle_law volume device state command action n others ready changing none =
    let stands = ready.prepared.stands in
    idle volume.size n device.words state (state_law volume.size device.words state stands.sound.coherent stands.reads) (supply_beside volume.size others) command action ready.planned.accepted ready.planned.plan_is changing none
