-- A name may be written: its slot and its inode are as they were when the call began, and a new page may get its owner.
use Rattle.std.proofs.Common.{◌≡◌, inl, inr, ℕ, ◌≤◌, List, reverse, refl, sym, subst, arith}
use Rattle.std.proofs.lemmas.Bool.{cases_eq}
use Rattle.layout.specs.Fields.{page_owner, slot_inode}
use Rattle.layout.specs.Geometry.{page_of_slot}
use Rattle.layout.proofs.GeometryLaws.{page_of_slot_below}
use Rattle.tree_model.specs.PathText.{Route}
use Rattle.tree_model.specs.Run.{State}
use Rattle.tree_model.specs.Tree.{parent}
use Rattle.image_reading.specs.Reading.{IsDirectory, HasBytes, slot_owner, Reached, IsRoomOf}
use Rattle.image_reading.specs.Residue.{Residue, no_residue}
use Rattle.image_reading.specs.Soundness.{Rule}
use Rattle.image_counts.proofs.Beside.{has_pages_beside}
use Rattle.image_counts.proofs.Inodes.{has_inodes_beside}
use Rattle.image_counts.proofs.Links.{not_both_kinds}
use Rattle.image_counts.proofs.Nodes.{has_sizes}
use Rattle.image_laws.specs.Stages.{IsReadySlot}
use Rattle.image_laws.proofs.Paths.{reached_pos}
use Rattle.weave_laws.specs.Joined.{joined}
use Rattle.weave_laws.specs.Naming.{IsBlankSlot}
use Rattle.weave_laws.specs.Waiting.{WaitsBeside, HasNoPageOf, IsVacantPlace, WaitingPlaceLaw, WaitingInodeLaw, WaitingClaimingLaw}
use Rattle.weave_laws.proofs.WaitingNames.{directory_above, is_new, free_slot}
use Rattle.weave_laws.proofs.WaitingPlaces.{unreached_page}

module _ (P : ℕ) (I : List ℕ) (state : State) (path : Route) (d s : ℕ) (name : List ℕ) (others : Residue) (waits : WaitsBeside P I no_residue others state) (vacant : IsVacantPlace P I state.tree path d s name) where
  number : slot_inode P I s ≡ 0
  unfolding slot_inode
  number = vacant.zero 0 (omega arith)

  pub ready_slot : IsReadySlot P I (reverse (parent path)) d s name
  ready_slot = record {
    coherent = waits.holds.coherent;
    slot = free_slot P I (joined no_residue others) state path d s waits.holds waits.no_pointer vacant.place number;
    is_name = vacant.words;
    new = is_new P I state waits.holds.coherent waits.holds.reads path d s vacant.place vacant.absent _ vacant.name_is;
  }

  directory : IsDirectory I d
  directory = directory_above P I state waits.holds.coherent waits.holds.reads path d s vacant.place

  -- a page of d that hasn't been left has a name
  room : HasNoPageOf P I others d → IsRoomOf P I d (page_of_slot s)
  unfolding slot_owner
  room apart = elim (((has_pages_beside P I (joined no_residue others) state waits.holds).used (page_of_slot s) (page_of_slot_below P s vacant.held.in_range)).1 (λ unused. vacant.held.owned unused.0)) [
    | inl kept ↦ elim kept [
      | inl page ↦ absurd (not_both_kinds I d (subst (HasBytes I) vacant.owner page.file) directory)
      | inr here ↦ subst (λ x. IsRoomOf P I x (page_of_slot s)) vacant.owner here
    ]
    | inr left ↦ absurd (apart (page_of_slot s) left vacant.owner)
  ]

  pub blank : HasNoPageOf P I others d → IsBlankSlot P I d s
  blank apart = record { kept = room apart; zero = vacant.zero }

pub waiting_place_law : WaitingPlaceLaw
waiting_place_law P I state path d s name others waits vacant apart = (ready_slot P I state path d s name others waits vacant, blank P I state path d s name others waits vacant apart)

pub waiting_inode_law : WaitingInodeLaw
waiting_inode_law P I state i others waits (some, most, free) apart =
    let unreached : ¬ Reached P I i = λ reached. ((has_inodes_beside P I (joined no_residue others) state.tree waits.holds.coherent waits.holds.beside waits.holds.reads.tree).used i some most).0 (inl reached) free in
    let least : 2 ≤ i = elim (cases_eq i 1) [
      | inl root ↦ (let two = subst (IsDirectory I) (sym root) ((waits.holds.coherent Rule.root 1).directory refl) in absurd (omega (arith, two, free)))
      | inr other ↦ omega (arith, some, other)
    ] in
    record {
      least = least;
      most = most;
      unreached = unreached;
      no_pages = λ j within owner. apart j (unreached_page P I (joined no_residue others) state i j waits.holds unreached (omega (arith, least)) within owner) owner;
    }

pub waiting_claiming_law : WaitingClaimingLaw
waiting_claiming_law P I state d j own others waits is unowned bare =
    let (reached, directory) = ((has_sizes P I state.tree waits.holds.coherent waits.holds.reads.tree).directories d).0 is in (
      reached,
      directory,
      record { kind = bare.kind; directory = λ owned. absurd (reached_pos P I (page_owner P I j) owned unowned); numbers = bare.numbers; pointers = bare.pointers },
    )
