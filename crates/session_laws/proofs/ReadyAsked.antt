-- A command that names nothing of what running calls name may be prepared among them, and is ready then; and the events of them all are few.
use Rattle.std.proofs.Common.{◌≡◌, inl, inr, ℕ, suc, ◌*◌, ◌^◌, ◌<◌, ◌≤◌, true, [], ◌∷◌, length, Option, Some, None, refl, arith}
use Rattle.std.specs.Prelude.{is_some}
use Rattle.pm_trait.specs.DeviceView.{DeviceView}
use Rattle.tree_model.specs.Run.{State}
use Rattle.tree_model.specs.Tree.{Node, node_at}
use Rattle.tree_model.specs.declared.command.Command.{Command}
use Rattle.naming_laws.specs.Naming.{names_inode, names_all}
use Rattle.naming_laws.proofs.Named.{present_named}
use Rattle.image_reading.specs.Residue.{no_residue}
use Rattle.image_counts.proofs.States.{state_law}
use Rattle.volume.specs.Volume.{VolumeView}
use Rattle.volume.specs.Beside.{NamesUntouched}
use Rattle.volume.specs.Named.{AreNamedBy}
use Rattle.volume.specs.declared.named.NamedNodes.{NamedNodes}
use Rattle.volume.specs.declared.named.NamedNodes.TheVariants.{All, These}
use Rattle.volume.proofs.WalkedBeside.{stands_tree}
use Rattle.waiting_laws.specs.Beside.{IsReady}
use Rattle.waiting_laws.proofs.Preparing.{few_events}
use Rattle.running_laws.specs.Waits.{HoldsLaw}
use Rattle.session_laws.specs.Calls.{Call, Calls, call_at, left_of_all, events_of_all, events_of_call, CallsWait}
use Rattle.session_laws.specs.Going.{AreFree, AsksLaw, ReadyLaw, FewKeptLaw}
use Rattle.session_laws.proofs.Lists.{left_idle}
use Rattle.session_laws.proofs.OrderAlone.{AllHold, NoneHolds, all_hold, untouched_by_all, bare_of_all}

-- ---- it may be prepared

no_node : (node : Option Node) → node ≡ None → is_some node ≡ true → ⊥
no_node None none some = cc
no_node (Some node) none some = cc

module _ (holds : HoldsLaw) where
  module _ (volume : VolumeView) (device : DeviceView) (words : State) (calls : Calls) (wait : CallsWait volume device words no_residue calls) where
    hold : AllHold volume device.words calls
    hold = all_hold holds volume device words no_residue calls wait

    module _ (command : Command) where
      -- a node that the command names
      present : (i : ℕ) → names_inode words.tree command i ≡ true → is_some (node_at words.tree i) ≡ true
      present i named = present_named words.tree (stands_tree volume device words (left_of_all volume calls) wait.beside.stands) command i named

      from_one : (i : ℕ) → names_inode words.tree command i ≡ true → 1 ≤ i
      from_one i named =
          let stands = wait.beside.stands in
          ((state_law volume.size device.words words stands.sound.coherent stands.reads).fits.ids i (present i named)).0

      -- An inode that a call holds is named by it, or has no node yet.
      none_holds : (named : NamedNodes) → AreNamedBy words.tree command named → AreFree named calls → (i : ℕ) → names_inode words.tree command i ≡ true → NoneHolds volume calls i
      none_holds All names free i is s call runs held = let idle = free s in cc
      none_holds (These inodes) names free i is s call runs held = elim ((wait.each s call runs).holds i held) [
        | inl named ↦ free s call runs i ((names.1 i).1 is) named
        | inr none ↦ no_node (node_at words.tree i) none (present i is)
      ]

      none_left : (named : NamedNodes) → AreNamedBy words.tree command named → AreFree named calls → names_all command ≡ true → left_of_all volume calls ≡ no_residue
      none_left All names free all = left_idle volume calls free
      none_left (These inodes) names free all = let not_all = names.0 in cc

      untouched : (named : NamedNodes) → AreNamedBy words.tree command named → AreFree named calls
          → NamesUntouched volume device.words (left_of_all volume calls) words.tree command
      untouched named names free = record {
        each = λ i is. untouched_by_all volume device.words calls hold i (none_holds named names free i is) (from_one i is);
        alone = none_left named names free;
      }

  pub asks_law : AsksLaw
  asks_law volume device words calls command named wait names free = record {
    stands = wait.beside.stands;
    untouched = untouched volume device words calls wait command named names free;
  }

  -- ---- it is ready

  pub ready_law : ReadyLaw
  ready_law volume device words calls command action wait prepared planned reserved few =
      let others = left_of_all volume calls in
      let hold = all_hold holds volume device words no_residue calls wait in
      let ready : IsReady volume device words command action others = record {
        prepared = prepared;
        planned = planned;
        reserved = reserved;
        going = wait.beside.going;
        unmarked = wait.beside.unmarked;
        no_pointer = wait.beside.no_pointer;
        few = few;
        unused = λ i least unused. (untouched_by_all volume device.words calls hold i (λ s call runs held. (hold s call runs).used i held unused) least).apart.pages;
        bare = bare_of_all volume device.words calls hold;
      } in
      record { ready = ready; few = few_events volume device words command action others ready }

-- ---- the events of all

events_few : (volume : VolumeView) (calls : Calls) → ((s : ℕ) (call : Call) → call_at calls s ≡ Some call → events_of_call volume call < 2 ^ 41)
    → events_of_all volume calls ≤ 2 ^ 41 * length calls
events_few volume [] few = omega arith
events_few volume (None ∷ calls) few = let rest = events_few volume calls (λ s. few (suc s)) in omega (arith, rest)
events_few volume (Some call ∷ calls) few = let first = few 0 call refl in let rest = events_few volume calls (λ s. few (suc s)) in omega (arith, first, rest)

pub few_kept_law : FewKeptLaw
few_kept_law volume device words calls wait most = let few = events_few volume calls (λ s call runs. (wait.each s call runs).few) in omega (arith, few, most)
