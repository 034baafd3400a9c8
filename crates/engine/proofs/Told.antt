-- What is told of an accepted command that changes nothing.
use Rattle.std.proofs.Common.{◌≡◌, ℕ, ◌≤◌, true, false, List, [], ◌∷◌, length, take, drop, Some, None, is_some, unwrap_or, refl, sym, ap, subst, ◌∙◌}
use Rattle.std.specs.Prelude.{IsTrue}
use Rattle.pm_trait.specs.DeviceView.{DeviceView}
use Rattle.tree_model.specs.PathText.{Route}
use Rattle.tree_model.specs.Tree.{Tree, Room, IsTree, IsRoom, root_id, node_at, id_at, is_directory, is_file, is_file_node, bytes_of}
use Rattle.tree_model.specs.Capacity.{untaken}
use Rattle.tree_model.specs.Walk.{walk}
use Rattle.tree_model.proofs.NodeLaws.{directory_is, a_directory}
use Rattle.tree_model.proofs.WalkLaws.{id_at-from_walk}
use Rattle.tree_model.proofs.AcceptedLaws.{Accepted-from_row}
use Rattle.tree_model.proofs.Accepted.{first-none, at-none, fault_of-none}
use Rattle.tree_model.proofs.RoomLaws.{room_after-same}
use Rattle.tree_model.specs.Step.{Answer, Status as StatusAnswer, Bytes as BytesAnswer, Listed, Space as SpaceAnswer, at, fault_of, id_of, read_limit, gaining, losing, names_in, status_of, space_of, answer_of, tree_after, least_free_id, refusal_of, outcome_of, step, RoomAfter}
use Rattle.tree_model.specs.Run.{State, IsVolumeState, Steps, is_changing}
use Rattle.tree_model.specs.declared.command.Command.{Command}
use Rattle.tree_model.specs.declared.command.Command.TheVariants.{Create, Mkdir, Link, Unlink, Rmdir, Rename, Write, Truncate, Read, Stat as Tell, List as Show, Df}
use Rattle.tree_model.specs.declared.reply.Refusal.TheVariants.{NotDir}
use Rattle.tree_model.specs.declared.reply.Reply.{Reply}
use Rattle.tree_model.specs.declared.reply.Reply.TheVariants as reply
use Rattle.tree_model.specs.declared.reply.Stat.{Stat}
use Rattle.tree_model.specs.declared.reply.Free.{Free}
use Rattle.image_reading.specs.Residue.{Residue, no_residue}
use Rattle.image_reading.proofs.Tidied.{tidied}
use Rattle.image_counts.proofs.States.{state_law}
use Rattle.volatile_index.specs.Index.{inodes_of_index}
use Rattle.volume.specs.Volume.{VolumeView}
use Rattle.volume.specs.Stands.{StandsFor, HasNode}
use Rattle.volume.specs.Beside.{StandsBeside}
use Rattle.volume.proofs.Beside.{stands_beside}
use Rattle.volume.specs.declared.plan.Action.TheVariants.{Read as ReadBytes, Status, Names, Space}
use Rattle.volume.specs.Planned.{IsPlanOf}
use Rattle.volume.specs.declared.plan.Reading.{Reading}
use Rattle.volume.specs.declared.plan.Action.{Action}
use Rattle.volume.specs.Carried.{IsPlanFor}
use Rattle.volume.specs.Prepared.{is_change}
use Rattle.volume.proofs.Plans.{change_is}
use Rattle.engine.specs.Replies.{IsReplyOf}
use Rattle.engine.specs.Session.{SessionView, session_of}

-- ---- the step of an accepted command

pub accepted_answer : (P : ℕ) (T : Tree) (room : Room) (c : Command) → refusal_of P T room c ≡ None → (step P T room c).answer ≡ answer_of (untaken P) T room c
accepted_answer P T room c e = ap (λ o. (outcome_of o (untaken P) (least_free_id T) T room c).answer) e

accepted_tree : (P : ℕ) (T : Tree) (room : Room) (c : Command) → refusal_of P T room c ≡ None → (step P T room c).tree ≡ tree_after (least_free_id T) T c
accepted_tree P T room c e = ap (λ o. (outcome_of o (untaken P) (least_free_id T) T room c).tree) e

-- where the tree stays and no directory gains or loses a name, all stays
stays_by : (P : ℕ) (state : State) (c : Command) → IsRoom state.tree state.room → refusal_of P state.tree state.room c ≡ None
    → gaining state.tree c ≡ None → losing state.tree c ≡ None → tree_after (least_free_id state.tree) state.tree c ≡ state.tree → Steps P state c (step P state.tree state.room c).answer state
stays_by P state c fits e gains loses same = record {
  answered = refl;
  tree = sym (accepted_tree P state.tree state.room c e ∙ same);
  room = subst (λ o. RoomAfter o state.tree state.room c state.room) (sym e) (
    false,
    sym (room_after-same (least_free_id state.tree) state.tree state.room c false fits gains loses (λ directory. ap (λ T. is_directory T directory) same)),
    subst (λ T. IsRoom T state.room) (sym same) fits,
  );
}

pub told_steps : (P : ℕ) (state : State) (c : Command) → is_changing c ≡ false → IsRoom state.tree state.room → refusal_of P state.tree state.room c ≡ None → Steps P state c (step P state.tree state.room c).answer state
told_steps P state (Create path) reads fits e = absurd (cc reads)
told_steps P state (Mkdir path) reads fits e = absurd (cc reads)
told_steps P state (Link from to) reads fits e = absurd (cc reads)
told_steps P state (Unlink path) reads fits e = absurd (cc reads)
told_steps P state (Rmdir path) reads fits e = absurd (cc reads)
told_steps P state (Rename from to) reads fits e = absurd (cc reads)
told_steps P state (Write path offset bytes) reads fits e = absurd (cc reads)
told_steps P state (Truncate path size) reads fits e = absurd (cc reads)
told_steps P state (Read path offset count) reads fits e = stays_by P state (Read path offset count) fits e refl refl refl
told_steps P state (Tell path) reads fits e = stays_by P state (Tell path) fits e refl refl refl
told_steps P state (Show path) reads fits e = stays_by P state (Show path) fits e refl refl refl
told_steps P state Df reads fits e = stays_by P state Df fits e refl refl refl

-- ---- the node of an accepted command

module _ (P : ℕ) (T : Tree) (room : Room) (path : Route) (t : IsTree T) where
  id_is : (id : ℕ) → id_at T path ≡ Some id → id_of T path ≡ id
  id_is id is = ap (λ o. unwrap_or o root_id) is

  walked : fault_of (walk T path) ≡ None → IsTrue (is_some (node_at T (id_of T path)))
  walked none =
      let (here, is) = fault_of-none (walk T path) none in
      let named = id_at-from_walk T path here t is in
      subst (λ id. IsTrue (is_some (node_at T id))) (sym (id_is here.id named)) (t.present path here.id named)

  pub status_there : refusal_of P T room (Tell path) ≡ None → IsTrue (is_some (node_at T (id_of T path)))
  status_there e = walked (first-none (fault_of (walk T path)) [] e).0

  pub listed_there : refusal_of P T room (Show path) ≡ None → is_directory T (id_of T path) ≡ true
  listed_there e =
      let walk_none = first-none (fault_of (walk T path)) (at NotDir (is_file T (id_of T path)) ∷ []) e in
      let file = at-none NotDir (is_file T (id_of T path)) (first-none (at NotDir (is_file T (id_of T path))) [] walk_none.1).0 in
      a_directory (node_at T (id_of T path)) (walked walk_none.0) file

  pub read_there : (offset count : ℕ) → refusal_of P T room (Read path offset count) ≡ None → IsTrue (is_file T (id_of T path)) × (count ≤ read_limit)
  read_there offset count e =
      let may = Accepted-from_row (untaken P) T room (Read path offset count) t e in
      (ap (is_file T) may.source.is ∙ ap is_file_node may.source.file, may.within)

-- ---- the command of a plan that makes nothing

module _ (P : ℕ) (I : List ℕ) (state : State) where
  pub status_of_plan : (c : Command) (inode : ℕ) → is_changing c ≡ false → IsPlanOf P I state c (Status inode) → (path : Route) × (c ≡ Tell path) × (inode ≡ id_of state.tree path)
  status_of_plan (Create path) inode reads plan = absurd (cc reads)
  status_of_plan (Mkdir path) inode reads plan = absurd (cc reads)
  status_of_plan (Link from to) inode reads plan = absurd (cc reads)
  status_of_plan (Unlink path) inode reads plan = absurd (cc reads)
  status_of_plan (Rmdir path) inode reads plan = absurd (cc reads)
  status_of_plan (Rename from to) inode reads plan = absurd (cc reads)
  status_of_plan (Write path offset bytes) inode reads plan = absurd (cc reads)
  status_of_plan (Truncate path size) inode reads plan = absurd (cc reads)
  status_of_plan (Read path offset count) inode reads (reading, is, rest) = absurd (cc is)
  status_of_plan (Tell path) inode reads plan = (path, refl, cc plan)
  status_of_plan (Show path) inode reads plan = absurd (cc plan)
  status_of_plan Df inode reads plan = absurd (cc plan)

  pub names_of_plan : (c : Command) (inode : ℕ) → is_changing c ≡ false → IsPlanOf P I state c (Names inode) → (path : Route) × (c ≡ Show path) × (inode ≡ id_of state.tree path)
  names_of_plan (Create path) inode reads plan = absurd (cc reads)
  names_of_plan (Mkdir path) inode reads plan = absurd (cc reads)
  names_of_plan (Link from to) inode reads plan = absurd (cc reads)
  names_of_plan (Unlink path) inode reads plan = absurd (cc reads)
  names_of_plan (Rmdir path) inode reads plan = absurd (cc reads)
  names_of_plan (Rename from to) inode reads plan = absurd (cc reads)
  names_of_plan (Write path offset bytes) inode reads plan = absurd (cc reads)
  names_of_plan (Truncate path size) inode reads plan = absurd (cc reads)
  names_of_plan (Read path offset count) inode reads (reading, is, rest) = absurd (cc is)
  names_of_plan (Tell path) inode reads plan = absurd (cc plan)
  names_of_plan (Show path) inode reads plan = (path, refl, cc plan)
  names_of_plan Df inode reads plan = absurd (cc plan)

  same_reading : (one other : Reading) → ReadBytes one ≡ ReadBytes other → one ≡ other
  same_reading one other e = cc e

  pub reading_of_plan : (c : Command) (reading : Reading) → is_changing c ≡ false → IsPlanOf P I state c (ReadBytes reading)
      → (path : Route) × (c ≡ Read path reading.offset reading.count) × (id_at state.tree path ≡ Some reading.inode)
  reading_of_plan (Create path) reading reads plan = absurd (cc reads)
  reading_of_plan (Mkdir path) reading reads plan = absurd (cc reads)
  reading_of_plan (Link from to) reading reads plan = absurd (cc reads)
  reading_of_plan (Unlink path) reading reads plan = absurd (cc reads)
  reading_of_plan (Rmdir path) reading reads plan = absurd (cc reads)
  reading_of_plan (Rename from to) reading reads plan = absurd (cc reads)
  reading_of_plan (Write path offset bytes) reading reads plan = absurd (cc reads)
  reading_of_plan (Truncate path size) reading reads plan = absurd (cc reads)
  reading_of_plan (Read path offset count) reading reads (other, is, for) =
      let same = same_reading reading other is in (
        path,
        ap (λ (o : ℕ). Read path o count) (sym (ap (λ (r : Reading). r.offset) same ∙ for.offset_is)) ∙ ap (Read path reading.offset) (sym (ap (λ (r : Reading). r.count) same ∙ for.count_is)),
        for.inode_is ∙ ap (λ (r : Reading). Some r.inode) (sym same),
      )
  reading_of_plan (Tell path) reading reads plan = absurd (cc plan)
  reading_of_plan (Show path) reading reads plan = absurd (cc plan)
  reading_of_plan Df reading reads plan = absurd (cc plan)

  pub space_of_plan : (c : Command) → is_changing c ≡ false → IsPlanOf P I state c Space → c ≡ Df
  space_of_plan (Create path) reads plan = absurd (cc reads)
  space_of_plan (Mkdir path) reads plan = absurd (cc reads)
  space_of_plan (Link from to) reads plan = absurd (cc reads)
  space_of_plan (Unlink path) reads plan = absurd (cc reads)
  space_of_plan (Rmdir path) reads plan = absurd (cc reads)
  space_of_plan (Rename from to) reads plan = absurd (cc reads)
  space_of_plan (Write path offset bytes) reads plan = absurd (cc reads)
  space_of_plan (Truncate path size) reads plan = absurd (cc reads)
  space_of_plan (Read path offset count) reads (reading, is, rest) = absurd (cc is)
  space_of_plan (Tell path) reads plan = absurd (cc plan)
  space_of_plan (Show path) reads plan = absurd (cc plan)
  space_of_plan Df reads plan = refl

-- ---- what a volume tells

module _ (volume : VolumeView) (device : DeviceView) where
  pub state_is : {state : State} → StandsFor volume device state → IsVolumeState volume.size state
  state_is {state} stands = state_law volume.size device.words state (tidied stands.tidy).coherent stands.reads

  -- the inode of a directory is one of the volume's
  pub directory_within : {state : State} {residue : Residue} (inode : ℕ) → StandsBeside volume device state residue → is_directory state.tree inode ≡ true
      → (1 ≤ inode) × (inode ≤ inodes_of_index volume.index)
  directory_within {state} inode stands directory =
      let within = (state_law volume.size device.words state stands.sound.coherent stands.reads).fits.ids inode (ap is_some (directory_is (node_at state.tree inode) directory)) in
      let as_many = stands.knows.nodes.each_inode in
      (within.0, subst (λ (n : ℕ). inode ≤ n) (sym as_many) within.1)

-- ---- what is told where a plan was made for the command

module _ {volume : VolumeView} {device : DeviceView} {state : State} {c : Command} {action : Action} (planned : IsPlanFor volume device state c action) where
  -- it may change the tree where its action does
  pub changes_as : {other : Action} → action ≡ other → is_changing c ≡ is_change other
  changes_as is = change_is volume.size device.words state c action planned.planned.plan_is ∙ ap is_change is

  plan_as : {other : Action} → action ≡ other → IsPlanOf volume.size device.words state c other
  plan_as is = subst (IsPlanOf volume.size device.words state c) is planned.planned.plan_is

  accepted_as : {other : Command} → c ≡ other → refusal_of volume.size state.tree state.room other ≡ None
  accepted_as is = ap (refusal_of volume.size state.tree state.room) (sym is) ∙ planned.planned.accepted

  is_tree : IsTree state.tree
  is_tree = (state_is volume device planned.stands).tree

  -- the node that is told of
  pub node_told : {inode : ℕ} → action ≡ Status inode → HasNode volume device inode
  node_told {inode} is =
      let (path, c_is, inode_is) = status_of_plan volume.size device.words state c inode (changes_as is) (plan_as is) in
      let there = status_there volume.size state.tree state.room path is_tree (accepted_as c_is) in
      (state, planned.stands, subst (λ (id : ℕ). IsTrue (is_some (node_at state.tree id))) (sym inode_is) there)

  -- the directory that is listed
  pub directory_listed : {inode : ℕ} → action ≡ Names inode → is_directory state.tree inode ≡ true
  directory_listed {inode} is =
      let (path, c_is, inode_is) = names_of_plan volume.size device.words state c inode (changes_as is) (plan_as is) in
      ap (is_directory state.tree) inode_is ∙ listed_there volume.size state.tree state.room path is_tree (accepted_as c_is)

  answered_by : {session : SessionView} {answer : Answer} {replied : Reply} → answer_of (untaken volume.size) state.tree state.room c ≡ answer → IsReplyOf session device answer replied
      → IsReplyOf session device (step volume.size state.tree state.room c).answer replied
  answered_by {session} {answer} {replied} is told =
      subst (λ (a : Answer). IsReplyOf session device a replied) (sym (accepted_answer volume.size state.tree state.room c planned.planned.accepted ∙ is)) told

  pub status_replied : {inode : ℕ} {status : Stat} (bytes : List ℕ) → action ≡ Status inode → status ≡ status_of state.tree inode
      → IsReplyOf (session_of volume bytes) device (step volume.size state.tree state.room c).answer (reply.Status status)
  status_replied {inode} bytes is told =
      let (path, c_is, inode_is) = status_of_plan volume.size device.words state c inode (changes_as is) (plan_as is) in
      answered_by (ap (answer_of (untaken volume.size) state.tree state.room) c_is ∙ ap (λ (id : ℕ). StatusAnswer (status_of state.tree id)) (sym inode_is) ∙ ap StatusAnswer (sym told))
      (record { reply_is = refl; told = tt })

  pub names_replied : {inode count : ℕ} (bytes : List ℕ) → action ≡ Names inode → volume.stopped ≡ false → count ≡ length (names_in state.tree inode)
      → IsReplyOf (session_of volume bytes) device (step volume.size state.tree state.room c).answer (reply.Names inode count)
  names_replied {inode} bytes is going counted =
      let (path, c_is, inode_is) = names_of_plan volume.size device.words state c inode (changes_as is) (plan_as is) in
      answered_by (ap (answer_of (untaken volume.size) state.tree state.room) c_is ∙ ap (λ (id : ℕ). Listed id (names_in state.tree id)) (sym inode_is))
      (record {
        reply_is = ap (λ (n : ℕ). reply.Names inode n) counted;
        told = record { state = state; residue = no_residue; stands = stands_beside planned.stands; going = going; directory = directory_listed is; names_are = refl };
      })

  -- the inode of the path that is read
  path_read : {reading : Reading} → action ≡ ReadBytes reading → (path : Route) × (c ≡ Read path reading.offset reading.count) × (id_of state.tree path ≡ reading.inode)
  path_read {reading} is =
      let (path, c_is, inode_is) = reading_of_plan volume.size device.words state c reading (changes_as is) (plan_as is) in
      (path, c_is, id_is volume.size state.tree state.room path is_tree reading.inode inode_is)

  -- the file that is read
  pub file_read : {reading : Reading} → action ≡ ReadBytes reading → IsTrue (is_file state.tree reading.inode) × (reading.count ≤ read_limit)
  file_read {reading} is =
      let (path, c_is, id) = path_read is in
      let there = read_there volume.size state.tree state.room path is_tree reading.offset reading.count (accepted_as c_is) in
      (subst (λ (i : ℕ). IsTrue (is_file state.tree i)) id there.0, there.1)

  pub read_replied : {bytes : List ℕ} {reading : Reading} {count : ℕ} → action ≡ ReadBytes reading → bytes ≡ take reading.count (drop reading.offset (bytes_of state.tree reading.inode)) → count ≡ length bytes
      → IsReplyOf (session_of volume bytes) device (step volume.size state.tree state.room c).answer (reply.Bytes count)
  read_replied {bytes} {reading} is read counted =
      let (path, c_is, id) = path_read is in
      answered_by (ap (answer_of (untaken volume.size) state.tree state.room) c_is
      ∙ ap (λ (i : ℕ). BytesAnswer (take reading.count (drop reading.offset (bytes_of state.tree i)))) id ∙ ap BytesAnswer (sym read))
      (record { reply_is = ap reply.Bytes counted; told = refl })

  pub space_replied : {free : Free} (bytes : List ℕ) → action ≡ Space → free ≡ space_of (untaken volume.size) state.tree state.room
      → IsReplyOf (session_of volume bytes) device (step volume.size state.tree state.room c).answer (reply.Space free)
  space_replied bytes is told =
      let c_is = space_of_plan volume.size device.words state c (changes_as is) (plan_as is) in
      answered_by (ap (answer_of (untaken volume.size) state.tree state.room) c_is ∙ ap SpaceAnswer (sym told)) (record { reply_is = refl; told = tt })
