-- A step that commits carries its command out: what another call holds or finds that the command doesn't name stays as it is.
use Rattle.std.proofs.Common.{◌≡◌, ◌≢◌, inl, ℕ, ◌≤◌, Bool, true, false, List, Option, None, Some, is_some, refl, sym, subst, arith}
use Rattle.pm_trait.specs.DeviceView.{DeviceView}
use Rattle.tree_model.specs.Capacity.{Supply}
use Rattle.tree_model.specs.Tree.{Node, node_at}
use Rattle.tree_model.specs.Step.{refusal_with}
use Rattle.tree_model.specs.Run.{State, IsVolumeState}
use Rattle.tree_model.specs.declared.command.Command.{Command}
use Rattle.naming_laws.specs.Naming.{names_inode}
use Rattle.naming_laws.specs.Still.{Enters, FindsSame}
use Rattle.naming_laws.proofs.Named.{present_named}
use Rattle.naming_laws.proofs.Stays.{untouched_law}
use Rattle.image_reading.specs.Counts.{IsIn}
use Rattle.image_reading.specs.Residue.{Residue}
use Rattle.image_counts.proofs.States.{state_law}
use Rattle.weave_laws.specs.Joined.{joined}
use Rattle.volume.specs.Volume.{VolumeView}
use Rattle.volume.specs.Named.{AreNamedBy}
use Rattle.volume.specs.declared.named.NamedNodes.{NamedNodes}
use Rattle.volume.specs.declared.named.NamedNodes.TheVariants.{All, These}
use Rattle.volume.proofs.Statuses.{node_reached_beside}
use Rattle.running_calls.specs.declared.running.Running.{Running}
use Rattle.running_calls.specs.declared.running.Running.TheVariants.{Makes, Links, Removes, Moves, Writes, Resizes}
use Rattle.waiting_laws.specs.Beside.{StandsWith, KeepsNodes}
use Rattle.running_laws.specs.Waits.{left_by, held_by}
use Rattle.running_laws.specs.Steps.{IsAfter, Means, commits, given_inode}
use Rattle.session_laws.specs.Calls.{IsNamed}

pub none_there : (node : Option Node) → (is_some node ≡ true → ⊥) → node ≡ None
none_there None not = refl
none_there (Some node) not = absurd (not refl)

pub not_there : (node : Option Node) → node ≡ None → is_some node ≡ true → ⊥
not_there None none there = cc
not_there (Some node) none there = cc

pub not_true : (b : Bool) → (b ≡ true → ⊥) → b ≡ false
not_true true not = absurd (not refl)
not_true false not = refl

-- ---- where nothing is changed

pub keeps_themselves : (inodes : List ℕ) (words later : State) → later ≡ words → KeepsNodes inodes words later
keeps_themselves inodes words later same = subst (λ (state : State). KeepsNodes inodes words state) (sym same) (record {
  nodes = λ id among. record { node = refl; names = refl; links = refl; paths = refl; pages = refl };
  paths = λ path id among is. is;
  names = λ path id among is. refl;
})

pub finds_itself : (command : Command) (words later : State) → later ≡ words → FindsSame command words later
finds_itself command words later same = subst (λ (state : State). FindsSame command words state) (sym same) (record {
  walks = refl;
  ids = λ path asked. refl;
  named = λ id. refl;
  nodes = λ id named. refl;
  names = λ id named. refl;
  links = λ id named. refl;
  paths = λ id named. refl;
  pages = λ id named. refl;
})

-- ---- what the words have

module _ (volume : VolumeView) (device : DeviceView) (words : State) (own others : Residue) (with : StandsWith volume device words own others) where
  pub is_state : IsVolumeState volume.size words
  is_state = state_law volume.size device.words words with.stands.sound.coherent with.stands.reads

  -- a command names nodes alone, and these are numbered from 1
  pub named_there : (command : Command) (i : ℕ) → names_inode words.tree command i ≡ true → is_some (node_at words.tree i) ≡ true
  named_there command i named = present_named words.tree is_state.tree command i named

  pub is_named : (command : Command) (named : NamedNodes) → AreNamedBy words.tree command named → (i : ℕ) → names_inode words.tree command i ≡ true → IsNamed named i
  is_named command All names i is = (is_state.fits.ids i (named_there command i is)).0
  is_named command (These inodes) names i is = (names.1 i).1 is

  no_zero : node_at words.tree 0 ≡ None
  no_zero = none_there (node_at words.tree 0) (λ there. (let least = (is_state.fits.ids 0 there).0 in omega (arith, least)))

-- The inode that is given to a node no node has.
pub given_unused : (volume : VolumeView) (device : DeviceView) (words : State) (others : Residue) (running : Running)
    → StandsWith volume device words (left_by volume running) others → node_at words.tree (given_inode running) ≡ None
given_unused volume device words others (Makes running) with =
    none_there (node_at words.tree running.entry.inode)
    (λ there. ((with.stands.beside.of_inodes.each running.entry.inode).0 (inl refl)).unreached
    (node_reached_beside volume device words (joined (left_by volume (Makes running)) others) with.stands running.entry.inode there))
given_unused volume device words others (Links running) with = no_zero volume device words (left_by volume (Links running)) others with
given_unused volume device words others (Removes running) with = no_zero volume device words (left_by volume (Removes running)) others with
given_unused volume device words others (Moves running) with = no_zero volume device words (left_by volume (Moves running)) others with
given_unused volume device words others (Writes running) with = no_zero volume device words (left_by volume (Writes running)) others with
given_unused volume device words others (Resizes running) with = no_zero volume device words (left_by volume (Resizes running)) others with

-- it is one that the call holds, or 0
pub given_apart : (volume : VolumeView) (running : Running) (inodes : List ℕ) → ((i : ℕ) → IsIn i (held_by volume running).inodes → ¬ IsIn i inodes)
    → ((i : ℕ) → IsIn i inodes → 1 ≤ i) → (i : ℕ) → IsIn i inodes → i ≢ given_inode running
given_apart volume (Makes running) inodes apart least i among same = apart i (inl same) among
given_apart volume (Links running) inodes apart least i among same = let one = least i among in omega (arith, one, same)
given_apart volume (Removes running) inodes apart least i among same = let one = least i among in omega (arith, one, same)
given_apart volume (Moves running) inodes apart least i among same = let one = least i among in omega (arith, one, same)
given_apart volume (Writes running) inodes apart least i among same = let one = least i among in omega (arith, one, same)
given_apart volume (Resizes running) inodes apart least i among same = let one = least i among in omega (arith, one, same)

-- ---- it is carried out

pub enters : (supply : Supply) (words later : State) (command : Command) (running : Running) → commits running ≡ true
    → Means (commits running) words later command (given_inode running) → refusal_with supply words.tree words.room command ≡ None
    → node_at words.tree (given_inode running) ≡ None → Enters supply (given_inode running) words later command
enters supply words later command running is means accepted unused =
    let after : IsAfter words later command (given_inode running) = subst (λ (b : Bool). Means b words later command (given_inode running)) is means in
    record { accepted = accepted; unused = unused; tree = after.tree; room = after.room }

-- these inodes stay, which it doesn't name
pub keeps_unnamed : (P id : ℕ) (supply : Supply) (words later : State) (command : Command) → IsVolumeState P words → Enters supply id words later command → (inodes : List ℕ)
    → ((i : ℕ) → IsIn i inodes → names_inode words.tree command i ≡ false) → ((i : ℕ) → IsIn i inodes → i ≢ id) → KeepsNodes inodes words later
keeps_unnamed P id supply words later command state entered inodes unnamed other =
    let keeps = untouched_law P supply id words later command state entered in
    record {
      nodes = λ i among. keeps.nodes i (unnamed i among) (other i among);
      paths = λ path i among is. keeps.paths path i is (unnamed i among);
      names = λ path i among is. keeps.names path i is (unnamed i among);
    }
