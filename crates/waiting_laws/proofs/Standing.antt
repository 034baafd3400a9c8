-- A volume that stands beside a call and others: what the laws of words ask of it, and when it stands so behind a step.
use Rattle.std.proofs.Common.{◌≡◌, inl, inr, ℕ, ◌-◌, ◌==◌, Bool, true, false, List, Ok, refl, sym, ap, ◌∙◌, arith}
use Rattle.std.specs.Prelude.{None}
use Rattle.pm_trait.specs.DeviceView.{DeviceView, StoresAndFences}
use Rattle.pm_trait.specs.Unfolds.{Step, Fenced}
use Rattle.layout.specs.Geometry.{inode_word_of, descriptor_word_of, slot_word_of, page_word_of, first_data_word_of}
use Rattle.layout.specs.Fields.{word}
use Rattle.layout.specs.Superblock.{mark_word, closed_mark, has_mark}
use Rattle.tree_model.specs.Run.{State}
use Rattle.image_reading.specs.Reading.{ReadsAs}
use Rattle.image_reading.specs.Residue.{Residue, IsTidyBeside}
use Rattle.image_reading.specs.Soundness.{IsCoherent, Sound}
use Rattle.image_laws.specs.Frame.{SameMeaning}
use Rattle.image_laws.specs.Quiet.{IsMix}
use Rattle.weave_laws.specs.Beside.{IsWordOf, slot, page, descriptor, inode, StoresIn}
use Rattle.weave_laws.specs.Joined.{joined}
use Rattle.weave_laws.specs.Waiting.{WaitsBeside}
use Rattle.volume.specs.Volume.{VolumeView}
use Rattle.volume.specs.Beside.{KnowsBeside, StandsBeside}
use Rattle.waiting_laws.specs.Beside.{StandsWith, MakesStep, KeepsMeaning}

-- ---- before a step

-- what the laws of words ask
pub waits : (volume : VolumeView) (device : DeviceView) (state : State) (own others : Residue) → StandsWith volume device state own others
    → WaitsBeside volume.size device.words own others state
waits volume device state own others with = record {
  holds = record { coherent = with.stands.sound.coherent; beside = with.stands.beside; reads = with.stands.reads };
  no_pointer = with.no_pointer;
}

pub no_mark : (volume : VolumeView) (device : DeviceView) (state : State) (residue : Residue) → StandsBeside volume device state residue → volume.marked ≡ false → has_mark device.words ≡ false
no_mark volume device state residue stands unmarked = sym stands.mark ∙ unmarked

-- ---- the mark stays

-- no word of a call is the mark
mark_apart : (P a : ℕ) (I slots pages inodes : List ℕ) → IsWordOf P I slots pages inodes a → a ≡ mark_word → ⊥
unfolding inode_word_of descriptor_word_of slot_word_of page_word_of first_data_word_of
mark_apart P _ I slots pages inodes (slot s f among below) same = omega (arith, same)
mark_apart P _ I slots pages inodes (page j w among below) same = omega (arith, same)
mark_apart P _ I slots pages inodes (descriptor j f among below) same = omega (arith, same)
mark_apart P _ I slots pages inodes (inode i f among below) same = omega (arith, same)

pub same_mark : (P : ℕ) (I J slots pages inodes : List ℕ) → StoresIn P I J slots pages inodes → has_mark J ≡ has_mark I
unfolding word
same_mark P I J slots pages inodes stores = ap (λ (w : ℕ). w == closed_mark) (stores.others mark_word (λ of. mark_apart P mark_word I slots pages inodes of refl))

-- words that fit together are sound without a mark
pub sound_without : (P : ℕ) (I : List ℕ) → IsCoherent P I → has_mark I ≡ false → Sound P I
sound_without P I coherent none = record { coherent = coherent; mark = λ marked. cc }

-- ---- behind a step

-- what a step doesn't change of the volume, and the events that are kept no more
pub record IsBehind (old new : VolumeView) (events : ℕ) : Type 0 where
  pub size : new.size ≡ old.size
  pub stopped : new.stopped ≡ old.stopped
  pub marked : new.marked ≡ old.marked
  pub kept : new.kept ≡ old.kept - events

pub fenced_if : (stores : Bool) (events : ℕ) (before after : DeviceView) → stores ≡ true → Fenced {T = Unit {0}} {E = Unit {0}} stores events before after (Ok tt)
    → StoresAndFences {T = Unit {0}} {E = Unit {0}} before after events (Ok tt)
fenced_if true events before after is fenced = fenced
fenced_if false events before after is fenced = cc

-- The words after it fit together, are tidy beside what is left, and read as the state, and the volume knows them.
pub record IsReachedBeside (new : VolumeView) (words : List ℕ) (later : State) (residue : Residue) : Type 0 where
  pub coherent : IsCoherent new.size words
  pub beside : IsTidyBeside new.size words residue
  pub reads : ReadsAs new.size words later
  pub knows : KnowsBeside new words residue

pub stands_behind : (old new : VolumeView) (before after : DeviceView) (state later : State) (own next : Residue) (step : Step) (Enters : VolumeView → VolumeView → Type 0) → StandsBeside old before state own
    → old.marked ≡ false → MakesStep step Enters old new before after → step.stores ≡ true → IsBehind old new step.events → has_mark after.words ≡ has_mark before.words
    → IsReachedBeside new after.words later next → StandsBeside new after later next
stands_behind old new before after state later own next step Enters stands unmarked makes stores same mark reached =
    let fenced = fenced_if step.stores step.events before after stores makes.takes.fenced in
    let none : has_mark after.words ≡ false = mark ∙ no_mark old before state own stands unmarked in
    record {
      settled = fenced.fenced.settled;
      sound = sound_without new.size after.words reached.coherent none;
      beside = reached.beside;
      reads = reached.reads;
      knows = reached.knows;
      mark = same.marked ∙ unmarked ∙ sym none;
      room = omega (arith, stands.room, fenced.counts.room, same.kept, makes.kept);
    }

-- and beside what others have left, where no slot points
pub record IsReached (new : VolumeView) (words : List ℕ) (later : State) (next others : Residue) : Type 0 where
  pub coherent : IsCoherent new.size words
  pub beside : IsTidyBeside new.size words (joined next others)
  pub reads : ReadsAs new.size words later
  pub knows : KnowsBeside new words (joined next others)
  pub no_pointer : (joined next others).pointer ≡ None

pub behind : (old new : VolumeView) (before after : DeviceView) (state later : State) (own next others : Residue) (step : Step) (Enters : VolumeView → VolumeView → Type 0) (slots pages inodes : List ℕ)
    → StandsWith old before state own others → MakesStep step Enters old new before after → step.stores ≡ true → IsBehind old new step.events
    → StoresIn old.size before.words after.words slots pages inodes → IsReached new after.words later next others → StandsWith new after later next others
behind old new before after state later own next others step Enters slots pages inodes with makes stores same only reached = record {
  stands = stands_behind old new before after state later (joined own others) (joined next others) step Enters with.stands with.unmarked makes stores same
      (same_mark old.size before.words after.words slots pages inodes only)
      (record { coherent = reached.coherent; beside = reached.beside; reads = reached.reads; knows = reached.knows });
  going = same.stopped ∙ with.going;
  unmarked = same.marked ∙ with.unmarked;
  no_pointer = reached.no_pointer;
}

mixed_mark : (I J M : List ℕ) → has_mark J ≡ has_mark I → IsMix I J M → has_mark M ≡ has_mark I
unfolding word
mixed_mark I J M same mix = elim (mix.words mark_word) [ inl old ↦ ap (λ (w : ℕ). w == closed_mark) old | inr new ↦ ap (λ (w : ℕ). w == closed_mark) new ∙ same ]

-- a crash in a step that changes no meaning, where the mark stays,
pub quiet_crash : (P : ℕ) (I J : List ℕ) → has_mark J ≡ has_mark I → has_mark I ≡ false → ((M : List ℕ) → IsMix I J M → SameMeaning P I M) → KeepsMeaning P I J
quiet_crash P I J mark none same M mix = record { sound = sound_without P M (same M mix).coherent (mixed_mark I J M mark mix ∙ none); same = same M mix }

-- as it does where the step stores to words of the call; and what fits together is sound
pub mixed_sound : (P : ℕ) (I J M slots pages inodes : List ℕ) → StoresIn P I J slots pages inodes → has_mark I ≡ false → IsMix I J M → IsCoherent P M → Sound P M
mixed_sound P I J M slots pages inodes only none mix coherent = sound_without P M coherent (mixed_mark I J M (same_mark P I J slots pages inodes only) mix ∙ none)

pub quiet : (P : ℕ) (I J slots pages inodes : List ℕ) → StoresIn P I J slots pages inodes → has_mark I ≡ false → ((M : List ℕ) → IsMix I J M → SameMeaning P I M) → KeepsMeaning P I J
quiet P I J slots pages inodes only none same = quiet_crash P I J (same_mark P I J slots pages inodes only) none same
