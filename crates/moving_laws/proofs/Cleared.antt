-- The pointer and slot s are cleared and a link falls, and then the pages that go lose their owner: what that leaves to be repaired.
use Rattle.std.proofs.Common.{◌≡◌, ◌≢◌, inl, inr, ℕ, Bool, List, ◌++◌, Option, None, Some, sym, subst, arith}
use Rattle.std.specs.Prelude.{Contains}
use Rattle.layout.specs.Fields.{word, page_kind, slot_inode, slot_pointer}
use Rattle.layout.specs.Geometry.{slot_word_of}
use Rattle.tree_model.specs.PathText.{Route}
use Rattle.image_reading.specs.Repairs.{IsPointer, IsLitterSlot, IsLitterCount}
use Rattle.image_reading.specs.Residue.{IsTidyBeside}
use Rattle.image_laws.specs.Drop.{GivesPages}
use Rattle.image_laws.specs.Move.{CanMove, moved}
use Rattle.image_laws.specs.Stages.{IsNeedless, MayGive}
use Rattle.image_laws.proofs.Stages.{same_give}
use Rattle.rename_laws.specs.Target.{Target, old_number}
use Rattle.rename_laws.specs.Ready.{IsMoveReady}
use Rattle.rename_laws.specs.Intervals.{IsCleared, IsGiven}
use Rattle.rename_laws.proofs.MovedCounts.{IsAlmostTidy}
use Rattle.rename_laws.proofs.MoveIntervals as intervals
use Rattle.rename_laws.proofs.MoveNear as before
use Rattle.rename_laws.proofs.MoveSpare as spares
use Rattle.rename_laws.proofs.MoveSpare.{HasCleared}
use Rattle.weave_laws.specs.Naming.{pages_left}
use Rattle.weave_laws.specs.Removing.{cleared_left, IsLeftPage}
use Rattle.weave_laws.proofs.Contained.{in_contained, contained_in, contained_or_not}
use Rattle.weave_laws.proofs.GivenPages as given_pages
use Rattle.moving_laws.specs.Moving.{GoesWithMove, MoveClearedLaw, MoveGivenLaw}
use Rattle.moving_laws.proofs.Behind as behind_it
use Rattle.moving_laws.proofs.Behind.{IsBehind}
use Rattle.moving_laws.proofs.GoneWith as gone
use Rattle.moving_laws.proofs.Lists.{list_none}

module _ (P : ℕ) (I J : List ℕ) (pa pb : Route) (s d : ℕ) (c : CanMove P I pa pb s d) (near : IsAlmostTidy P I s d) (cleared : HasCleared P I J s d) where
  behind : IsBehind P I J s d
  unfolding slot_pointer slot_inode
  behind = record {
    means = cleared.means;
    descriptors = cleared.descriptors;
    inodes = cleared.inodes;
    links = λ y some most. elim (behind_it.low_or_not P I pa pb s d c y) [ inl low ↦ inr low | inr never ↦ inl ((cleared.links y some most).stays never) ];
    slots = cleared.slots;
    number = cleared.number;
    pointer = inl cleared.pointer;
    source = cleared.source 1 (omega arith);
    dead = λ live. live.names (cleared.source 0 (omega arith));
    version = cleared.version;
  }

  no_pointer : (t : ℕ) → ¬ IsPointer P J t
  no_pointer t l = l.nonzero (subst (λ u. slot_pointer P J u ≡ 0) (sym (behind_it.only_pointer P I J pa pb s d c near behind t l)) cleared.pointer)

  no_slot : (t : ℕ) → ¬ IsLitterSlot P J t
  no_slot t l =
      let (f, lt, nonzero) = l.nonzero in
      nonzero (subst (λ u. word J (slot_word_of P u f) ≡ 0) (sym (behind_it.only_slot P I J pa pb s d c near behind t l)) (cleared.source f lt))

  no_count : (y : ℕ) → ¬ IsLitterCount P J y
  no_count = behind_it.fallen_right P I J pa pb s d c near behind cleared.links

no_some : (t : ℕ) → None ≡ Some t → ⊥
no_some t e = cc

module _ (P : ℕ) (W I J : List ℕ) (pa pb : Route) (s x d : ℕ) (target : Target) (rising given_back : Option ℕ) (pages : List ℕ) (goes : Bool) (falling : Option ℕ)
    (ready : IsMoveReady P W I pa pb s x d target rising) (clears : IsCleared P W I J s x d target falling) (with : GoesWithMove P W (moved P I s d) s x target given_back pages goes falling) where
  c : CanMove P I pa pb s d
  c = ready.can_move

  near : IsAlmostTidy P I s d
  near = before.near P W I pa pb s x d target rising ready

  cleared : HasCleared P I J s d
  cleared = intervals.has_cleared P W I pa pb s x d target rising ready J falling clears

  cleared_beside : IsTidyBeside P J (cleared_left (pages ++ pages_left given_back) goes (old_number target))
  cleared_beside = record {
    of_pointer = λ t. ((λ e. absurd (no_some t e)), (λ l. absurd (no_pointer P I J pa pb s d c near cleared t l)));
    of_slots = list_none (IsLitterSlot P J) (no_slot P I J pa pb s d c near cleared);
    of_pages = gone.of_pages P W I pa pb s x d target rising ready given_back pages goes falling with J (behind P I J pa pb s d c near cleared);
    of_inodes = gone.of_inodes P W I pa pb s x d target rising ready given_back pages goes falling with J (behind P I J pa pb s d c near cleared);
    of_counts = list_none (IsLitterCount P J) (no_count P I J pa pb s d c near cleared);
    kinds = gone.kinds P W I pa pb s x d target rising ready given_back pages goes falling with J (behind P I J pa pb s d c near cleared);
    marks = gone.marks P W I pa pb s x d target rising ready given_back pages goes falling with J (behind P I J pa pb s d c near cleared);
  }

  -- ---- then the pages that go lose their owner

  Goes : ℕ → Type 0
  Goes = Contains (pages ++ pages_left given_back)

  needless : (j : ℕ) → Goes j → IsNeedless P J j
  unfolding Goes
  needless j is = (spares.may_give P I pa pb s d c J near cleared).needless j
      (gone.in_spare P W I pa pb s x d target rising ready given_back pages goes falling with j (contained_in j (pages ++ pages_left given_back) is))

  may_give : MayGive P J Goes
  unfolding Goes
  may_give = record {
    coherent = cleared.means.coherent;
    no_pointer = (spares.may_give P I pa pb s d c J near cleared).no_pointer;
    decided = contained_or_not (pages ++ pages_left given_back);
    needless = needless;
  }

  some_kind : (j : ℕ) → Goes j → page_kind P J j ≢ 0
  some_kind j is z = elim (needless j is).why [
    | inl file ↦ (let one = file.0 in omega (arith, one, z))
    | inr empty ↦ (let two = empty.kind in omega (arith, two, z))
  ]

  left_page : (j : ℕ) → Goes j → IsLeftPage P J (cleared_left (pages ++ pages_left given_back) goes (old_number target)) j
  unfolding Goes
  left_page j is = record {
    left = contained_in j (pages ++ pages_left given_back) is;
    kind = some_kind j is;
    pointers = λ t at held. may_give.no_pointer t held;
  }

  given_beside : (G : List ℕ) → IsGiven P W I J G s x d target falling → IsTidyBeside P G (cleared_left (pages ++ pages_left given_back) goes (old_number target))
  unfolding Goes
  given_beside G given =
      let gives : GivesPages P J G (Contains (pages ++ pages_left given_back)) = record {
        size = given.gives.size;
        owners = λ j is. given.gives.owners j (gone.in_given_up P W I pa pb s x d target rising ready given_back pages goes falling with j (contained_in j (pages ++ pages_left given_back) is));
        others = λ a other. given.gives.others a (λ j is. other j (in_contained j (pages ++ pages_left given_back) (gone.given_up_in P W I pa pb s x d target rising ready given_back pages goes falling with j is)));
      } in
      given_pages.given_law P J G (pages ++ pages_left given_back) (cleared_left (pages ++ pages_left given_back) goes (old_number target))
      (same_give P J G (Contains (pages ++ pages_left given_back)) may_give gives) gives left_page cleared_beside

pub move_cleared_law : MoveClearedLaw
move_cleared_law P W I J pa pb s x d target rising given_back pages goes falling ready clears with = cleared_beside P W I J pa pb s x d target rising given_back pages goes falling ready clears with

pub move_given_law : MoveGivenLaw
move_given_law P W I J G pa pb s x d target rising given_back pages goes falling ready given with = given_beside P W I J pa pb s x d target rising given_back pages goes falling ready given.cleared with G given
