-- What a removal has that waits behind its commit, before its next step; and that it waits again behind a step that keeps the state.
use Rattle.std.proofs.Common.{◌≡◌, ◌⊎◌, inl, inr, ℕ, ◌-◌, ◌<◌, Bool, true, false, cond, nat_lt, List, [], ◌∷◌, ◌++◌, Option, Some, None, refl, sym, ap, subst, ◌∙◌, arith}
use Rattle.std.specs.Prelude.{Contains, if◌then◌else◌, ◌||◌}
use Rattle.std.proofs.lemmas.Bool.{lt-ltb}
use Rattle.pm_trait.specs.DeviceView.{DeviceView}
use Rattle.layout.specs.Geometry.{slots_of, page_of_slot}
use Rattle.layout.proofs.GeometryLaws.{page_of_slot_below}
use Rattle.layout.specs.Fields.{page_owner, page_kind}
use Rattle.layout.specs.Superblock.{has_mark}
use Rattle.layout.specs.declared.kinds.NodeKind.{NodeKind}
use Rattle.layout.specs.declared.kinds.NodeKind.TheVariants.{File, Directory}
use Rattle.tree_model.specs.Run.{State}
use Rattle.tree_model.specs.declared.reply.Reply.TheVariants.{Done}
use Rattle.image_reading.specs.Counts.{IsIn}
use Rattle.image_reading.specs.Reading.{IsDirectory, slot_owner, IsHeld, Reached}
use Rattle.image_reading.specs.Residue.{Residue}
use Rattle.image_reading.specs.Soundness.{Rule, IsCoherent}
use Rattle.image_counts.proofs.Distinct.{in_front, in_back, in_either}
use Rattle.image_counts.proofs.Nodes.{size_law}
use Rattle.removal_steps.specs.Steps.{MayEmpty, IsCut, count_cut}
use Rattle.weave_laws.specs.Beside.{StoresIn}
use Rattle.weave_laws.specs.Joined.{joined}
use Rattle.weave_laws.specs.Naming.{pages_left}
use Rattle.weave_laws.specs.Removing.{IsPageOfName}
use Rattle.weave_laws.specs.Waiting.{WaitsBeside, HasNoPageOf, IsClearedLink}
use Rattle.weave_laws.proofs.Contained.{in_contained, contained_in}
use Rattle.weave_laws.proofs.Disjoint.{wider_law}
use Rattle.volatile_index.specs.Index.{pages_of}
use Rattle.volume.specs.Volume.{VolumeView}
use Rattle.volume.specs.Costs.{pages_removed}
use Rattle.volume.specs.declared.next.Next.{Next}
use Rattle.volume.specs.declared.next.Next.TheVariants.{More, Ended}
use Rattle.volume.specs.declared.plan.Removal.{Removal}
use Rattle.volume.proofs.Moments.{with_kept}
use Rattle.unlink_ops.specs.declared.removal.Stage.{Stage}
use Rattle.unlink_ops.specs.declared.removal.Stage.TheVariants.{Begun, Unnamed, Cleared, Disowned}
use Rattle.unlink_ops.specs.RemovalStages.{RunningView, HasLosses, pages_gone, step_at, next_of, at_stage, StandsStage}
use Rattle.unlink_ops.specs.Taking.{falling_by}
use Rattle.unlink_ops.proofs.Passing.{as_planned}
use Rattle.waiting_laws.specs.Beside.{StandsWith, Affects}
use Rattle.waiting_laws.specs.Removing.{held_by, falling_of, left_at, HasFalling, HasItsPage, IsPlaced, AreListed, WaitsToRemove, WaitsOn}
use Rattle.waiting_laws.proofs.Standing as standing
use Rattle.waiting_laws.proofs.Standing.{IsBehind}

abbrev pub at : Removal → Stage → RunningView
at removal stage = record { removal = removal; stage = stage }

-- ---- which step comes next

pub same_next : (one other : RunningView) → ◌≡◌ {A = Next RunningView} (More one) (More other) → one ≡ other
same_next one other is = cc

pub not_more : (next : RunningView) → ◌≡◌ {A = Next RunningView} (Ended Done) (More next) → ⊥
not_more next is = cc

pub after_clearing : (removal : Removal) (next : RunningView) → next_of removal Unnamed ≡ More next → (at removal Cleared ≡ next) ⊎ (at removal Disowned ≡ next)
after_clearing removal next =
    elim (nat_lt 0 (pages_removed removal)) as (λ t. (if t then at_stage removal Cleared else (if removal.loss.goes then at_stage removal Disowned else Ended Done)) ≡ More next
    → (at removal Cleared ≡ next) ⊎ (at removal Disowned ≡ next)) [
      | true ↦ λ is. inl (same_next (at removal Cleared) next is)
      | false ↦ elim removal.loss.goes as (λ t. (if t then at_stage removal Disowned else Ended Done) ≡ More next → (at removal Cleared ≡ next) ⊎ (at removal Disowned ≡ next)) [
        | true ↦ λ is. inr (same_next (at removal Disowned) next is)
        | false ↦ λ is. absurd (not_more next is)
      ]
    ]

pub not_ended : (running : RunningView) → ◌≡◌ {A = Next RunningView} (More running) (Ended Done) → ⊥
not_ended running is = cc

pub ended_clearing : (removal : Removal) → next_of removal Unnamed ≡ Ended Done → (nat_lt 0 (pages_removed removal) ≡ false) × (removal.loss.goes ≡ false)
ended_clearing removal =
    elim (nat_lt 0 (pages_removed removal)) as (λ t. (if t then at_stage removal Cleared else (if removal.loss.goes then at_stage removal Disowned else Ended Done)) ≡ Ended Done → (t ≡ false) × (removal.loss.goes ≡ false)) [
      | true ↦ λ is. absurd (not_ended (at removal Cleared) is)
      | false ↦ elim removal.loss.goes as (λ t. (if t then at_stage removal Disowned else Ended Done) ≡ Ended Done → (false ≡ false) × (t ≡ false)) [
        | true ↦ λ is. absurd (not_ended (at removal Disowned) is)
        | false ↦ λ is. (refl, refl)
      ]
    ]

-- ---- the pages that are left

-- those that go with the node, and the one that is given back
abbrev pub all_left : List ℕ → Option ℕ → List ℕ
all_left pages given = pages ++ pages_left given

pub left_given : (given : Option ℕ) (j : ℕ) → IsIn j (pages_left given) → given ≡ Some j
left_given None j among = absurd among
left_given (Some page) j among = elim among [ inl same ↦ ap (λ (k : ℕ). Some k) (sym same) | inr none ↦ absurd none ]

pub given_left : (given : Option ℕ) (j : ℕ) → given ≡ Some j → IsIn j (pages_left given)
given_left given j is = subst (λ (o : Option ℕ). IsIn j (pages_left o)) (sym is) (inl refl)

-- a stage leaves no other pages
pub pages_at : (volume : VolumeView) (removal : Removal) (stage : Stage) (j : ℕ) → IsIn j (left_at volume removal stage).pages → IsIn j (all_left (pages_gone volume removal) removal.given_back)
pages_at volume removal Begun j among = absurd among
pages_at volume removal Unnamed j among = among
pages_at volume removal Cleared j among = among
pages_at volume removal Disowned j among = among

pub cut_by : (pages : List ℕ) (given : Option ℕ) (j : ℕ) → Contains (all_left pages given) j → IsCut pages given j
cut_by pages given j there = elim (in_either j pages (pages_left given) (contained_in j (all_left pages given) there)) [
  | inl node ↦ inl (in_contained j pages node)
  | inr back ↦ inr (left_given given j back)
]

pub by_cut : (pages : List ℕ) (given : Option ℕ) (j : ℕ) → IsCut pages given j → Contains (all_left pages given) j
by_cut pages given j (inl node) = in_contained j (all_left pages given) (in_front j pages (pages_left given) (contained_in j pages node))
by_cut pages given j (inr back) = in_contained j (all_left pages given) (in_back j pages (pages_left given) (given_left given j back))

-- pages go with a node that goes alone
pub goes_by : (volume : VolumeView) (removal : Removal) (j : ℕ) → Contains (pages_gone volume removal) j → removal.loss.goes ≡ true
goes_by volume removal j =
    elim removal.loss.goes as (λ t. Contains (cond t (pages_of volume.index removal.loss.inode) []) j → t ≡ true) [
      | true ↦ λ there. refl
      | false ↦ λ there. absurd (contained_in j [] there)
    ]

-- the page that is given back is the slot's
pub page_of_name : (P : ℕ) (I : List ℕ) (removal : Removal) (given : Option ℕ) → HasItsPage P I removal given → IsPageOfName removal.slot given
page_of_name P I removal None is = tt
page_of_name P I removal (Some page) is = is

pub given_here : (P : ℕ) (I : List ℕ) (removal : Removal) (given : Option ℕ) → HasItsPage P I removal given → (j : ℕ) → given ≡ Some j → j ≡ page_of_slot removal.slot
given_here P I removal None is j given = absurd (let none : None ≡ Some j = given in cc)
given_here P I removal (Some page) is j given = let same : page ≡ j = cc in sym same ∙ sym is

-- ---- the link that falls

pub cleared_link : (kind : NodeKind) (removal : Removal) → IsClearedLink removal.loss.goes removal.loss.inode (falling_of kind removal) (falling_by kind removal)
cleared_link File removal = elim removal.loss.goes as (λ t. IsClearedLink t removal.loss.inode (if t then None else Some removal.loss.inode) removal.loss.inode) [
  | true ↦ (refl, refl)
  | false ↦ refl
]
cleared_link Directory removal = refl

pub falls_held : (kind : NodeKind) (removal : Removal) → IsIn (falling_by kind removal) (removal.loss.inode ∷ removal.directory ∷ [])
falls_held File removal = inl refl
falls_held Directory removal = inr (inl refl)

-- ---- pages that it holds

-- words of the pages that are left are of what it holds
pub all_held : (volume : VolumeView) (I : List ℕ) (removal : Removal) → HasItsPage volume.size I removal removal.given_back → (j : ℕ) → IsIn j (all_left (pages_gone volume removal) removal.given_back) → IsIn j (held_by volume removal).pages
all_held volume I removal its j among = elim (in_either j (pages_gone volume removal) (pages_left removal.given_back) among) [
  | inl node ↦ inr node
  | inr back ↦ inl (given_here volume.size I removal removal.given_back its j (left_given removal.given_back j back))
]

pub stores_cut : (volume : VolumeView) (removal : Removal) (I J : List ℕ) → HasItsPage volume.size I removal removal.given_back
    → StoresIn volume.size I J [] (all_left (pages_gone volume removal) removal.given_back) [] → StoresIn volume.size I J (held_by volume removal).slots (held_by volume removal).pages (held_by volume removal).inodes
stores_cut volume removal I J its stores = wider_law volume.size I J [] (all_left (pages_gone volume removal) removal.given_back) [] (held_by volume removal).slots (held_by volume removal).pages (held_by volume removal).inodes
    (record { of_slots = λ t none. absurd none; of_pages = all_held volume I removal its; of_inodes = λ i none. absurd none }) stores

-- where the plan has pages, some lose their owner
pub some_pages : (volume : VolumeView) (removal : Removal) → HasLosses volume removal → 0 < pages_removed removal → (step_at volume.size removal (pages_gone volume removal) Cleared).stores ≡ true
some_pages volume removal losses some = let same = as_planned volume removal losses in lt-ltb 0 (count_cut (pages_gone volume removal) removal.given_back) (omega (arith, some, same))

-- where it has pages or a node that goes, some of their words are cleared
pub some_left : (volume : VolumeView) (removal : Removal) → HasLosses volume removal → (0 < pages_removed removal) ⊎ (removal.loss.goes ≡ true) → (step_at volume.size removal (pages_gone volume removal) Disowned).stores ≡ true
some_left volume removal losses some = elim some [
  | inl pages ↦ let same = as_planned volume removal losses in ap (λ (t : Bool). t || removal.loss.goes) (lt-ltb 0 (count_cut (pages_gone volume removal) removal.given_back) (omega (arith, pages, same)))
  | inr goes ↦ either (nat_lt 0 (count_cut (pages_gone volume removal) removal.given_back)) removal.loss.goes goes
]
  where
    either : (one other : Bool) → other ≡ true → (one || other) ≡ true
    either true other is = refl
    either false other is = is

-- ---- what the volume is behind a step that enters nothing

pub behind_kept : (old : VolumeView) (k : ℕ) → IsBehind old (with_kept (old.kept - k) old) k
behind_kept old k = record { size = refl; stopped = refl; marked = refl; kept = refl }

pub affects_none : (old : VolumeView) (k : ℕ) (removal : Removal) → Affects old (with_kept k old) (held_by old removal)
affects_none old k removal = record { size = refl; others = λ i other. refl; lists = λ i j there. inl there }

-- What a step leaves, whose words are J: the slot with its page, and nothing of the node at others. It stored to words of what the removal holds.
pub record KeepsPlace (old : VolumeView) (I J : List ℕ) (removal : Removal) (others : Residue) : Type 0 where
  pub page : HasItsPage old.size J removal removal.given_back
  pub place : IsPlaced old.size J removal
  pub alone : HasNoPageOf old.size J others removal.loss.inode
  pub stores : StoresIn old.size I J (held_by old removal).slots (held_by old removal).pages (held_by old removal).inodes

module _ (old : VolumeView) (before : DeviceView) (state : State) (removal : Removal) (stage : Stage) (others : Residue) (waits : WaitsToRemove old before state (at removal stage) others) where
  abbrev P : ℕ
  P = old.size

  abbrev I : List ℕ
  I = before.words

  abbrev pages : List ℕ
  pages = pages_gone old removal

  abbrev all : List ℕ
  all = all_left pages removal.given_back

  pub beside_words : WaitsBeside P I (left_at old removal stage) others state
  beside_words = standing.waits old before state (left_at old removal stage) others waits.beside

  coherent : IsCoherent P I
  coherent = waits.beside.stands.sound.coherent

  pub no_mark : has_mark I ≡ false
  no_mark = standing.no_mark old before state (joined (left_at old removal stage) others) waits.beside.stands waits.beside.unmarked

  pub is_parent : Reached P I removal.directory × IsDirectory I removal.directory
  is_parent = ((size_law P I state coherent waits.beside.stands.reads).directories removal.directory).0 waits.parent

  -- the slot stands in a page of the kind of slots
  held_by_page : (given : Option ℕ) → HasItsPage P I removal given → MayEmpty P I given → removal.slot < slots_of P → IsHeld P I removal.slot
  unfolding slot_owner
  held_by_page None is may low =
      let page_low = page_of_slot_below P removal.slot low in
      let (reached, directory) = is_parent in
      let least = waits.losses.directory.0 in
      record {
        in_range = low;
        kind = (coherent Rule.page_kinds (page_of_slot removal.slot)).directory page_low (subst (Reached P I) (sym is) reached) (subst (IsDirectory I) (sym is) directory);
        owned = λ zero. omega (arith, zero, is, least);
      }
  held_by_page (Some page) is may low = record {
    in_range = low;
    kind = ap (page_kind P I) is ∙ may.kind;
    owned = λ zero. may.owned (ap (page_owner P I) (sym is) ∙ zero);
  }

  pub held : MayEmpty P I removal.given_back → IsHeld P I removal.slot
  held may = held_by_page removal.given_back waits.page may waits.place.in_range

  -- behind a step that keeps the state it waits again
  module _ (k : ℕ) (after : DeviceView) (to : Stage) where
    abbrev N : VolumeView
    N = with_kept k old

    listed_still : AreListed N removal
    listed_still = record { node = waits.listed.node; directory = waits.listed.directory }

    pub waits_again : StandsWith N after state (left_at N removal to) others → StandsStage N after (at removal to) → HasFalling after.words state removal to → KeepsPlace old I after.words removal others
        → WaitsOn old N before after state (at removal to) others
    waits_again beside stands falling keeps = record {
      waits = record {
        beside = beside;
        words = stands.words;
        losses = stands.losses;
        falling = falling;
        page = keeps.page;
        place = keeps.place;
        stays = waits.stays;
        parent = waits.parent;
        listed = listed_still;
        alone = keeps.alone;
      };
      leaves = record { beside = beside; stores = keeps.stores; affects = affects_none old k removal };
    }
