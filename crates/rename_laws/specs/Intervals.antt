-- The intervals of a rename from its commit on, each by what stands before it. I are the words from which slot d may take its number,
-- J, G and K those after the last three intervals.
use Rattle.std.specs.Prelude.{◌≡◌, ◌≢◌, ◌⊎◌, ℕ, ◌<◌, ◌≤◌, List, length, Option}
use Rattle.layout.specs.Fields.{word, page_owner, slot_pointer}
use Rattle.layout.specs.Geometry.{data_pages_of, page_of_slot, slot_word_of}
use Rattle.tree_model.specs.PathText.{Route}
use Rattle.image_reading.specs.Reading.{slot_owner, Reached, IsRoomOf}
use Rattle.image_laws.specs.Drop.{GivesPages, ClearsRest, dropped}
use Rattle.image_laws.specs.Frame.{SameMeaning}
use Rattle.image_laws.specs.Move.{moved}
use Rattle.image_laws.specs.Quiet.{IsMix}
use Rattle.rename_laws.specs.Target.{Target, Vacant, Opened, Taken, Holds, IsFalling, old_number}
use Rattle.rename_laws.specs.Ready.{IsMoveReady}
use Rattle.image_laws.specs.Links.{IsLinkWord, Falls}

-- ---- the words

-- the words after the commit, when slot s has given up its number
abbrev pub left : ℕ → List ℕ → ℕ → ℕ → List ℕ
left P I s d = dropped P (moved P I s d) s

-- From D to J slot d points nowhere, words 1 to 15 of slot s are zero, and the falling inode has a link less. No other word changes.
pub record ClearsSource (P : ℕ) (D J : List ℕ) (s d : ℕ) (falling : Option ℕ) : Type 0 where
  pub size : length J ≡ length D
  pub pointer : slot_pointer P J d ≡ 0
  pub zeros : (f : ℕ) → 1 ≤ f → f < 16 → word J (slot_word_of P s f) ≡ 0
  pub links : Falls D J falling
  pub others : (a : ℕ) → a ≢ slot_word_of P d 1 → ((f : ℕ) → 1 ≤ f → f < 16 → a ≢ slot_word_of P s f) → (IsLinkWord falling a → ⊥) → word J a ≡ word D a

-- the inode was replaced, and no path names it in C, the words after the commit
abbrev pub IsGone : ℕ → List ℕ → Target → Type 0
IsGone P C (Vacant name) = ⊥
IsGone P C (Opened j name) = ⊥
IsGone P C (Taken r) = Reached P C r → ⊥

-- Page j goes with the move: it is one of a replaced inode that is gone, or that of slot s, where no slot of it is live in C.
pub record IsGivenUp (P : ℕ) (C : List ℕ) (s : ℕ) (target : Target) (j : ℕ) : Type 0 where
  pub in_range : j < data_pages_of P
  pub why : (IsGone P C target × (page_owner P C j ≡ old_number target)) ⊎ ((j ≡ page_of_slot s) × (IsRoomOf P C (slot_owner P C s) j → ⊥))

-- ---- what stands before each

pub record IsCleared (P : ℕ) (W I J : List ℕ) (s x d : ℕ) (target : Target) (falling : Option ℕ) : Type 0 where
  pub falls : Holds (IsFalling P W s x target) falling
  pub clears : ClearsSource P (left P I s d) J s d falling

pub record IsGiven (P : ℕ) (W I J G : List ℕ) (s x d : ℕ) (target : Target) (falling : Option ℕ) : Type 0 where
  pub cleared : IsCleared P W I J s x d target falling
  pub gives : GivesPages P J G (IsGivenUp P (moved P I s d) s target)

-- all intervals after the commit
pub record Finishes (P : ℕ) (W I J G K : List ℕ) (s x d : ℕ) (target : Target) (falling : Option ℕ) : Type 0 where
  pub given : IsGiven P W I J G s x d target falling
  pub frees : ClearsRest P G K (IsGivenUp P (moved P I s d) s target) (IsGone P (moved P I s d) target) (old_number target)

-- ---- what a crash leaves

-- The commit is one word.
abbrev pub CommitLaw : Type 0
CommitLaw = (P : ℕ) (W I M : List ℕ) (pa pb : Route) (s x d : ℕ) (target : Target) (rising : Option ℕ) → IsMoveReady P W I pa pb s x d target rising
    → IsMix I (moved P I s d) M → (M ≡ I) ⊎ (M ≡ moved P I s d)

-- From then on it leaves what means the words after the commit: while slot s gives up its number,
abbrev pub LeavingLaw : Type 0
LeavingLaw = (P : ℕ) (W I M : List ℕ) (pa pb : Route) (s x d : ℕ) (target : Target) (rising : Option ℕ) → IsMoveReady P W I pa pb s x d target rising
    → IsMix (moved P I s d) (left P I s d) M → SameMeaning P (moved P I s d) M

-- while the pointer and the rest of slot s are cleared,
abbrev pub MoveClearingLaw : Type 0
MoveClearingLaw = (P : ℕ) (W I J M : List ℕ) (pa pb : Route) (s x d : ℕ) (target : Target) (rising falling : Option ℕ) → IsMoveReady P W I pa pb s x d target rising
    → IsCleared P W I J s x d target falling → IsMix (left P I s d) J M → SameMeaning P (moved P I s d) M

-- while the pages that go lose their owner,
abbrev pub MoveGivingLaw : Type 0
MoveGivingLaw = (P : ℕ) (W I J G M : List ℕ) (pa pb : Route) (s x d : ℕ) (target : Target) (rising falling : Option ℕ) → IsMoveReady P W I pa pb s x d target rising
    → IsGiven P W I J G s x d target falling → IsMix J G M → SameMeaning P (moved P I s d) M

-- and while the rest of them and of a replaced inode is cleared.
abbrev pub MoveFreeingLaw : Type 0
MoveFreeingLaw = (P : ℕ) (W I J G K M : List ℕ) (pa pb : Route) (s x d : ℕ) (target : Target) (rising falling : Option ℕ) → IsMoveReady P W I pa pb s x d target rising
    → Finishes P W I J G K s x d target falling → IsMix G K M → SameMeaning P (moved P I s d) M
