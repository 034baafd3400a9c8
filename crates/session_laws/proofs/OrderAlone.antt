-- What calls that wait have left leaves alone what none of them holds, and in which order it stands doesn't matter.
use Rattle.std.proofs.Common.{◌≡◌, ℕ, ◌≤◌, List, Some}
use Rattle.pm_trait.specs.DeviceView.{DeviceView}
use Rattle.layout.specs.Geometry.{page_of_slot}
use Rattle.tree_model.specs.Run.{State}
use Rattle.image_reading.specs.Counts.{IsIn}
use Rattle.image_reading.specs.Residue.{Residue}
use Rattle.weave_laws.specs.Joined.{joined}
use Rattle.volume.specs.Volume.{VolumeView}
use Rattle.volume.specs.Beside.{IsUntouched}
use Rattle.waiting_laws.specs.Beside.{Holding, Holds, NamesNothing, StandsWith}
use Rattle.waiting_laws.proofs.Preparing.{stands_in_order}
use Rattle.running_laws.specs.Waits.{left_by, held_by, LeavesAlone, HoldsLaw}
use Rattle.session_laws.specs.Calls.{Call, Calls, call_at, without, left_of_all, AreApartCalls, CallsWait}
use Rattle.session_laws.proofs.Lists.{call_kept, slot_left, page_left, count_left, HasSameLeft, left_moved_past, same_places}

-- ---- what all hold

-- what each has left lies in what it holds
abbrev pub AllHold : VolumeView → List ℕ → Calls → Type 0
AllHold volume I calls = (s : ℕ) (call : Call) → call_at calls s ≡ Some call → Holds volume I (left_by volume call.running) (held_by volume call.running)

-- none holds the inode
abbrev pub NoneHolds : VolumeView → Calls → ℕ → Type 0
NoneHolds volume calls i = (s : ℕ) (call : Call) → call_at calls s ≡ Some call → ¬ IsIn i (held_by volume call.running).inodes

-- each two are apart
abbrev pub AreAllApart : VolumeView → Calls → Type 0
AreAllApart volume calls = (s r : ℕ) (call other : Call) → (s ≡ r → ⊥) → call_at calls s ≡ Some call → call_at calls r ≡ Some other → AreApartCalls volume call other

pub all_hold : HoldsLaw → (volume : VolumeView) (device : DeviceView) (words : State) (own : Residue) (calls : Calls) → CallsWait volume device words own calls
    → AllHold volume device.words calls
all_hold holds volume device words own calls wait s call runs =
    holds volume device words call.command call.running (joined own (left_of_all volume (without calls s))) (wait.each s call runs).waits

module _ (volume : VolumeView) (I : List ℕ) (calls : Calls) (hold : AllHold volume I calls) where
  -- An inode that none holds is untouched,
  pub untouched_by_all : (i : ℕ) → NoneHolds volume calls i → 1 ≤ i → IsUntouched volume I (left_of_all volume calls) i
  untouched_by_all i none least = record {
    apart = record {
      slots = λ t left. (let (s, call, runs, here) = slot_left volume calls t left in ((hold s call runs).untouched i (none s call runs) least).apart.slots t here);
      pages = λ j left. (let (s, call, runs, here) = page_left volume calls j left in ((hold s call runs).untouched i (none s call runs) least).apart.pages j here);
      links = λ left. (let (s, call, runs, here) = count_left volume calls i left in ((hold s call runs).untouched i (none s call runs) least).apart.links here);
    };
    listed = λ j left. (let (s, call, runs, here) = page_left volume calls j left in ((hold s call runs).untouched i (none s call runs) least).listed j here);
  }

  -- and a slot of a page that is left names nothing.
  pub bare_of_all : NamesNothing volume.size I (left_of_all volume calls)
  bare_of_all t left held = let (s, call, runs, here) = page_left volume calls (page_of_slot t) left in (hold s call runs).bare t here held

  -- So they leave alone what none of them holds,
  pub alone_from_all : (held : Holding) → ((i : ℕ) → IsIn i held.inodes → 1 ≤ i) → ((i : ℕ) → IsIn i held.inodes → NoneHolds volume calls i)
      → LeavesAlone volume.size I held (left_of_all volume calls)
  alone_from_all held least none = record { pages = λ i mine. (untouched_by_all i (none i mine) (least i mine)).apart.pages; bare = bare_of_all }

-- and the others what one of them holds.
pub others_alone : (volume : VolumeView) (I : List ℕ) (calls : Calls) → AllHold volume I calls → AreAllApart volume calls → (r : ℕ) (other : Call) → call_at calls r ≡ Some other
    → LeavesAlone volume.size I (held_by volume other.running) (left_of_all volume (without calls r))
others_alone volume I calls hold apart r other runs =
    alone_from_all volume I (without calls r) (λ s call there. hold s call (call_kept calls r s call there).1) (held_by volume other.running)
    (λ i mine. ((hold r other runs).in_volume.of_inodes i mine).from_one)
    (λ i mine s call there. let (different, at) = call_kept calls r s call there in (apart r s other call different runs at).held i mine)

-- ---- in any order

pub alone_same : (P : ℕ) (I : List ℕ) (held : Holding) (one other : Residue) → HasSameLeft one other → LeavesAlone P I held one → LeavesAlone P I held other
alone_same P I held one other same alone = record {
  pages = λ i mine j left. alone.pages i mine j ((same.pages.each j).1 left);
  bare = λ t left. alone.bare t ((same.pages.each (page_of_slot t)).1 left);
}

pub stands_same : (volume : VolumeView) (device : DeviceView) (words : State) (own others next now : Residue) → HasSameLeft (joined own others) (joined next now)
    → StandsWith volume device words own others
    → StandsWith volume device words next now
stands_same volume device words own others next now same with = record {
  stands = stands_in_order volume device words (joined own others) (joined next now)
      (same_places volume.size device.words (joined own others) (joined next now) same with.stands.beside with.no_pointer) with.stands;
  going = with.going;
  unmarked = with.unmarked;
  no_pointer = same.pointer.0 with.no_pointer;
}

-- each of the calls stands beside the others
pub each_stands : (volume : VolumeView) (device : DeviceView) (words : State) (own : Residue) (calls : Calls) → StandsWith volume device words own (left_of_all volume calls)
    → (r : ℕ) (other : Call)
    → call_at calls r ≡ Some other → StandsWith volume device words (left_by volume other.running) (joined own (left_of_all volume (without calls r)))
each_stands volume device words own calls with r other runs =
    stands_same volume device words own (left_of_all volume calls) (left_by volume other.running) (joined own (left_of_all volume (without calls r)))
    (left_moved_past volume own calls r other runs) with
