-- A command is ready beside what others have left, in whatever order; and what it will hold is apart from what each of them holds.
use Rattle.std.proofs.Common.{◌≡◌, ℕ, List, [], length, sym, ap, subst, ◌∙◌}
use Rattle.std.proofs.lemmas.List.{nil_from_length}
use Rattle.pm_trait.specs.DeviceView.{DeviceView}
use Rattle.layout.specs.Geometry.{page_of_slot}
use Rattle.tree_model.specs.Capacity.{Supply}
use Rattle.tree_model.specs.Run.{State}
use Rattle.tree_model.specs.declared.command.Command.{Command}
use Rattle.image_reading.specs.Residue.{Residue, no_residue}
use Rattle.image_counts.proofs.Apart.{apart_nothing}
use Rattle.volume.specs.Volume.{VolumeView}
use Rattle.volume.specs.Beside.{IsUntouched}
use Rattle.volume.specs.Planned.{IsPlannedWith}
use Rattle.volume.specs.declared.plan.Action.{Action}
use Rattle.weave_laws.specs.Beside.{AreInVolume}
use Rattle.waiting_laws.specs.Beside.{Holds, IsReady}
use Rattle.waiting_laws.specs.Begins.{holds_nothing, held_of_plan}
use Rattle.waiting_laws.proofs.BeginsApart.{begins_apart_law}
use Rattle.waiting_laws.proofs.Preparing.{stands_in_order}
use Rattle.session_laws.proofs.Lists.{HasSameNumbers, HasSameLeft, same_places, same_supply}

-- ---- in whatever order

no_numbers : (xs ys : List ℕ) → HasSameNumbers xs ys → xs ≡ [] → ys ≡ []
no_numbers xs ys same none = nil_from_length ys (sym same.long ∙ ap length none)

none_left : (one other : Residue) → HasSameLeft one other → one ≡ no_residue → other ≡ no_residue
none_left one other same none =
    let pointer = same.pointer.0 (ap (λ (r : Residue). r.pointer) none) in
    let slots = no_numbers one.slots other.slots same.slots (ap (λ (r : Residue). r.slots) none) in
    let pages = no_numbers one.pages other.pages same.pages (ap (λ (r : Residue). r.pages) none) in
    let inodes = no_numbers one.inodes other.inodes same.inodes (ap (λ (r : Residue). r.inodes) none) in
    let counts = no_numbers one.counts other.counts same.counts (ap (λ (r : Residue). r.counts) none) in
    λ k. record { pointer = pointer k; slots = slots k; pages = pages k; inodes = inodes k; counts = counts k }

untouched_same : (volume : VolumeView) (I : List ℕ) (one other : Residue) (i : ℕ) → HasSameLeft one other → IsUntouched volume I one i → IsUntouched volume I other i
untouched_same volume I one other i same untouched = record {
  apart = record {
    slots = λ s among. untouched.apart.slots s ((same.slots.each s).1 among);
    pages = λ j among. untouched.apart.pages j ((same.pages.each j).1 among);
    links = λ among. untouched.apart.links ((same.counts.each i).1 among);
  };
  listed = λ j among. untouched.listed j ((same.pages.each j).1 among);
}

pub ready_in_order : (volume : VolumeView) (device : DeviceView) (words : State) (command : Command) (action : Action) (one other : Residue) → HasSameLeft one other
    → IsReady volume device words command action one → IsReady volume device words command action other
ready_in_order volume device words command action one other same ready = record {
  prepared = record {
    stands = stands_in_order volume device words one other
        (same_places volume.size device.words one other same ready.prepared.stands.beside ready.no_pointer) ready.prepared.stands;
    untouched = record {
      each = λ i named. untouched_same volume device.words one other i same (ready.prepared.untouched.each i named);
      alone = λ all. none_left one other same (ready.prepared.untouched.alone all);
    };
  };
  planned = subst (λ (supply : Supply). IsPlannedWith supply device.words words command action) (same_supply volume.size one other same) ready.planned;
  reserved = ready.reserved;
  going = ready.going;
  unmarked = ready.unmarked;
  no_pointer = same.pointer.0 ready.no_pointer;
  few = ready.few;
  unused = λ i least unused j among. ready.unused i least unused j ((same.pages.each j).1 among);
  bare = λ t among. ready.bare t ((same.pages.each (page_of_slot t)).1 among);
}

-- ---- where nothing is left

pub untouched_nothing : (volume : VolumeView) (I : List ℕ) (i : ℕ) → IsUntouched volume I no_residue i
untouched_nothing volume I i = record { apart = apart_nothing volume.size I i; listed = λ j among. absurd among }

holds_none : (volume : VolumeView) (I : List ℕ) → Holds volume I no_residue holds_nothing
holds_none volume I = record {
  in_volume = record { of_pages = λ j among. absurd among; of_inodes = λ i among. absurd among };
  of_slots = λ s among. absurd among;
  of_pages = λ j among. absurd among;
  used = λ i among. absurd among;
  bare = λ t among held. absurd among;
  left_slots = λ s among. absurd among;
  left_pages = λ j among. absurd among;
  left_inodes = λ i among. absurd among;
  untouched = λ i none least. untouched_nothing volume I i;
}

-- What a ready command will hold is the volume's.
pub plan_in_volume : (volume : VolumeView) (device : DeviceView) (words : State) (command : Command) (action : Action) (others : Residue)
    → IsReady volume device words command action others → AreInVolume volume.size (held_of_plan volume action).pages (held_of_plan volume action).inodes
plan_in_volume volume device words command action others ready =
    (begins_apart_law volume device words command action no_residue others holds_nothing ready (holds_none volume device.words) (λ i named theirs. absurd theirs)).0
