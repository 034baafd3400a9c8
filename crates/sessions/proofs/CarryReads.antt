-- A plan that reads among running calls: what it asks for is there and untouched, and its reply is that of the words' tree.
use Rattle.std.proofs.Common.{◌≡◌, ◌≢◌, ℕ, ◌≤◌, true, IsTrue, List, [], length, take, drop, Option, None, Some, Ok, is_some, refl, sym, ap, subst, ◌∙◌}
use Rattle.pm_trait.specs.DeviceView.{DeviceView}
use Rattle.tree_model.specs.Accepted.{Accepted}
use Rattle.tree_model.specs.Capacity.{Supply}
use Rattle.tree_model.specs.PathText.{Route}
use Rattle.tree_model.specs.Replies.{reply_of}
use Rattle.tree_model.specs.Run.{State, Line, IsVolumeState, is_changing}
use Rattle.tree_model.specs.Step.{refusal_with, answer_of, id_of, names_in, read_limit, space_of, status_of}
use Rattle.tree_model.specs.Tree.{Tree, Node, node_at, id_at, is_directory, is_file, is_directory_node, is_file_node, bytes_of}
use Rattle.tree_model.specs.declared.command.Command.{Command}
use Rattle.tree_model.specs.declared.command.Command.TheVariants.{Read, Stat as Tell, List as Show}
use Rattle.tree_model.specs.declared.reply.Free.{Free}
use Rattle.tree_model.specs.declared.reply.Reply.{Reply}
use Rattle.tree_model.specs.declared.reply.Reply.TheVariants as reply
use Rattle.tree_model.specs.declared.reply.Stat.{Stat}
use Rattle.tree_model.proofs.AcceptedLaws.{Accepted-from_row}
use Rattle.tree_model.proofs.TreeKept.{same_some}
use Rattle.naming_laws.specs.Naming.{names_inode}
use Rattle.naming_laws.proofs.Named.{at_first, names_at}
use Rattle.image_reading.specs.Residue.{Residue}
use Rattle.image_counts.proofs.States.{state_law}
use Rattle.image_counts.specs.Laws.{supply_beside}
use Rattle.volatile_index.specs.Index.{inodes_of_index}
use Rattle.volume.specs.Beside.{StandsBeside, IsStandingBeside, HasNodeBeside}
use Rattle.volume.specs.Planned.{IsPlanOf}
use Rattle.volume.specs.Prepared.{is_change}
use Rattle.volume.specs.declared.named.NamedNodes.{NamedNodes}
use Rattle.volume.specs.declared.plan.Action.{Action}
use Rattle.volume.specs.declared.plan.Action.TheVariants.{Read as ReadBytes, Status, Names, Space}
use Rattle.volume.specs.declared.plan.Reading.{Reading}
use Rattle.volume.proofs.Plans.{change_is}
use Rattle.data_ops.specs.Reading.{HasFile}
use Rattle.engine.proofs.Told.{status_of_plan, names_of_plan, reading_of_plan, space_of_plan}
use Rattle.session_laws.specs.Calls.{Calls, left_of_all}
use Rattle.sessions.specs.Interleave.{InterleaveView}
use Rattle.sessions.specs.Laws.{WeavesOn}
use Rattle.sessions.specs.Planned.{IsPlannedAmong}
use Rattle.sessions.specs.Steps.{HasReadBytes}
use Rattle.sessions.specs.declared.entry.WeaveReply.TheVariants.{Plain}
use Rattle.sessions.proofs.WeavesOn.{weaves_on_law}

-- ---- a line that reads

path_in : Route → Line → Route
path_in other (Ok (Read path offset count)) = path
path_in other _ = other

offset_in : Line → ℕ
offset_in (Ok (Read path offset count)) = offset
offset_in _ = 0

count_in : Line → ℕ
count_in (Ok (Read path offset count)) = count
count_in _ = 0

-- the bytes are told that it reads, and no others
read_bytes : (T : Tree) (path : Route) (offset count read inode : ℕ) (command : Command) (old bytes : List ℕ) → command ≡ Read path offset count → id_of T path ≡ inode
    → bytes ≡ take count (drop offset (bytes_of T inode)) → HasReadBytes old bytes T (Ok command) (Plain (reply.Bytes read))
unfolding path_in offset_in count_in
read_bytes T path offset count read inode command old bytes is id are = record {
  kept = λ not. absurd (not read refl);
  read = λ other from most told line told_is.
      let paths : path ≡ other = ap (λ (c : Command). path_in path (Ok c)) (sym is) ∙ ap (path_in path) line in
      let offsets : offset ≡ from = ap (λ (c : Command). offset_in (Ok c)) (sym is) ∙ ap offset_in line in
      let counts : count ≡ most = ap (λ (c : Command). count_in (Ok c)) (sym is) ∙ ap count_in line in
      are ∙ (λ k. take (counts k) (drop (offsets k) (bytes_of T (sym id k)))) ∙ ap (λ (p : Route). take most (drop from (bytes_of T (id_of T p)))) paths;
}

-- none is told by another reply
no_bytes : (T : Tree) (command : Command) (old : List ℕ) (told : Reply) → ((count : ℕ) → told ≢ reply.Bytes count) → HasReadBytes old old T (Ok command) (Plain told)
no_bytes T command old told not = record {
  kept = λ others. refl;
  read = λ path offset count read line is. absurd (not read (let same : ◌≡◌ (Plain told) (Plain (reply.Bytes read)) = is in cc));
}

-- ---- the node that is read

there : (o : Option Node) → is_directory_node o ≡ true → IsTrue (is_some o)
there None directory = directory
there (Some node) directory = refl

module _ (weave : InterleaveView) (device : DeviceView) (calls : Calls) (history : State) (session : ℕ) (command : Command) (named : NamedNodes) (action : Action)
    (planned : IsPlannedAmong weave device calls history session command named action) where
  abbrev words : State
  words = planned.weaving.words

  abbrev left : Residue
  left = left_of_all weave.volume calls

  abbrev supply : Supply
  supply = supply_beside weave.volume.size left

  on : WeavesOn weave device calls words
  on = weaves_on_law weave device calls history planned.weaving

  valid : IsVolumeState weave.volume.size words
  valid = let stands = on.stands in state_law weave.volume.size device.words words stands.sound.coherent stands.reads

  accepted_as : (other : Command) → command ≡ other → Accepted supply words.tree words.room other
  accepted_as other is =
      Accepted-from_row supply words.tree words.room other valid.tree (ap (refusal_with supply words.tree words.room) (sym is) ∙ planned.planned.accepted)

  plan_as : (other : Action) → action ≡ other → IsPlanOf weave.volume.size device.words words command other
  plan_as other is = subst (IsPlanOf weave.volume.size device.words words command) is planned.planned.plan_is

  pub reads_as : (other : Action) → action ≡ other → is_changing command ≡ is_change other
  reads_as other is = change_is weave.volume.size device.words words command action planned.planned.plan_is ∙ ap is_change is

  pub reads_stands : IsStandingBeside weave.volume device
  reads_stands = (words, left, on.stands)

  -- ---- bytes

  module _ (reading : Reading) (is : action ≡ ReadBytes reading) where
    path_read : (path : Route) × (command ≡ Read path reading.offset reading.count) × (id_at words.tree path ≡ Some reading.inode)
    path_read = reading_of_plan weave.volume.size device.words words command reading (reads_as (ReadBytes reading) is) (plan_as (ReadBytes reading) is)

    pub read_file : HasFile weave.volume device reading.inode
    read_file =
        let (path, command_is, inode_is) = path_read in
        let source = (accepted_as (Read path reading.offset reading.count) command_is).source in
        let same = same_some source.id reading.inode (sym source.named ∙ inode_is) in (
          words,
          left,
          on.stands,
          ap (is_file words.tree) (sym same) ∙ ap is_file_node source.file,
          planned.may.untouched.each reading.inode
              (subst (λ (c : Command). names_inode words.tree c reading.inode ≡ true) (sym command_is)
              (names_at words.tree valid.tree (Read path reading.offset reading.count) path reading.inode (at_first path []) inode_is)),
        )

    pub read_short : reading.count ≤ read_limit
    read_short = let (path, command_is, inode_is) = path_read in (accepted_as (Read path reading.offset reading.count) command_is).within

    pub read_told : (old bytes : List ℕ) (count : ℕ) → bytes ≡ take reading.count (drop reading.offset (bytes_of words.tree reading.inode)) → count ≡ length bytes
        → (reply.Bytes count ≡ reply_of (answer_of supply words.tree words.room command)) × HasReadBytes old bytes words.tree (Ok command) (Plain (reply.Bytes count))
    read_told old bytes count are long =
        let (path, command_is, inode_is) = path_read in
        let source = (accepted_as (Read path reading.offset reading.count) command_is).source in
        let id : id_of words.tree path ≡ reading.inode = source.is ∙ same_some source.id reading.inode (sym source.named ∙ inode_is) in (
          ap reply.Bytes (long ∙ ap length are) ∙ ap (λ (i : ℕ). reply.Bytes (length (take reading.count (drop reading.offset (bytes_of words.tree i))))) (sym id)
              ∙ ap (λ (c : Command). reply_of (answer_of supply words.tree words.room c)) (sym command_is),
          read_bytes words.tree path reading.offset reading.count count reading.inode command old bytes command_is id are,
        )

  -- ---- what is told of a node

  module _ (inode : ℕ) (is : action ≡ Status inode) where
    path_told : (path : Route) × (command ≡ Tell path) × (inode ≡ id_of words.tree path)
    path_told = status_of_plan weave.volume.size device.words words command inode (reads_as (Status inode) is) (plan_as (Status inode) is)

    pub status_there : HasNodeBeside weave.volume device inode
    status_there =
        let (path, command_is, inode_is) = path_told in
        let source = accepted_as (Tell path) command_is in
        let same : source.id ≡ inode = sym (inode_is ∙ source.is) in (
          words,
          left,
          on.stands,
          ap (λ (i : ℕ). is_some (node_at words.tree i)) (sym same) ∙ ap is_some source.present,
          planned.may.untouched.each inode
              (subst (λ (c : Command). names_inode words.tree c inode ≡ true) (sym command_is)
              (names_at words.tree valid.tree (Tell path) path inode (at_first path []) (source.named ∙ ap Some same))),
        )

    pub status_told : (old : List ℕ) (status : Stat) → status ≡ status_of words.tree inode
        → (reply.Status status ≡ reply_of (answer_of supply words.tree words.room command)) × HasReadBytes old old words.tree (Ok command) (Plain (reply.Status status))
    status_told old status told =
        let (path, command_is, inode_is) = path_told in (
          ap reply.Status (told ∙ ap (status_of words.tree) inode_is) ∙ ap (λ (c : Command). reply_of (answer_of supply words.tree words.room c)) (sym command_is),
          no_bytes words.tree command old (reply.Status status) (λ count same. cc),
        )

  -- ---- names

  module _ (inode : ℕ) (is : action ≡ Names inode) where
    path_listed : (path : Route) × (command ≡ Show path) × (inode ≡ id_of words.tree path)
    path_listed = names_of_plan weave.volume.size device.words words command inode (reads_as (Names inode) is) (plan_as (Names inode) is)

    pub names_directory : is_directory words.tree inode ≡ true
    names_directory =
        let (path, command_is, inode_is) = path_listed in
        let source = accepted_as (Show path) command_is in
        ap (is_directory words.tree) (inode_is ∙ source.is) ∙ source.directory

    pub names_within : (1 ≤ inode) × (inode ≤ inodes_of_index weave.volume.index)
    names_within =
        let within = valid.fits.ids inode (there (node_at words.tree inode) names_directory) in
        let as_many = on.stands.knows.nodes.each_inode in
        (within.0, subst (λ (n : ℕ). inode ≤ n) (sym as_many) within.1)

    pub names_told : (old : List ℕ) (count : ℕ) → count ≡ length (names_in words.tree inode)
        → (reply.Names inode count ≡ reply_of (answer_of supply words.tree words.room command)) × HasReadBytes old old words.tree (Ok command) (Plain (reply.Names inode count))
    names_told old count counted =
        let (path, command_is, inode_is) = path_listed in (
          ap (reply.Names inode) counted ∙ ap (λ (i : ℕ). reply.Names i (length (names_in words.tree i))) inode_is
              ∙ ap (λ (c : Command). reply_of (answer_of supply words.tree words.room c)) (sym command_is),
          no_bytes words.tree command old (reply.Names inode count) (λ n same. cc),
        )

  -- ---- what is free

  pub space_told : action ≡ Space → (old : List ℕ) (free : Free) → free ≡ space_of supply words.tree words.room
      → (reply.Space free ≡ reply_of (answer_of supply words.tree words.room command)) × HasReadBytes old old words.tree (Ok command) (Plain (reply.Space free))
  space_told is old free told =
      let command_is = space_of_plan weave.volume.size device.words words command (reads_as Space is) (plan_as Space is) in (
        ap reply.Space told ∙ ap (λ (c : Command). reply_of (answer_of supply words.tree words.room c)) (sym command_is),
        no_bytes words.tree command old (reply.Space free) (λ n same. cc),
      )

  pub reads_beside : StandsBeside weave.volume device words left
  reads_beside = on.stands
