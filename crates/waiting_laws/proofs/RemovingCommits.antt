-- The first step of a removal commits it, and behind that it waits.
use Rattle.std.proofs.Common.{◌≡◌, ◌≢◌, ◌⊎◌, inl, inr, ℕ, ◌+◌, ◌-◌, ◌<◌, ◌≤◌, Bool, true, false, cond, List, [], ◌∷◌, reverse, Option, Some, None, refl, sym, ap, subst, ◌∙◌, arith}
use Rattle.std.specs.Prelude.{Contains, nat_lt}
use Rattle.std.proofs.lemmas.Bool.{ltb-false}
use Rattle.pm_trait.specs.DeviceView.{DeviceView}
use Rattle.layout.specs.Geometry.{inodes_of, slot_word_of}
use Rattle.layout.specs.Fields.{inode_links, page_owner, slot_inode, slot_name}
use Rattle.layout.specs.Name.{name_in_words}
use Rattle.layout.specs.Superblock.{has_mark}
use Rattle.layout.specs.declared.kinds.NodeKind.{NodeKind}
use Rattle.layout.specs.declared.kinds.NodeKind.TheVariants.{File, Directory}
use Rattle.tree_model.specs.PathText.{Route}
use Rattle.tree_model.specs.Tree.{parent, is_directory, is_file, link_count}
use Rattle.tree_model.specs.Run.{State}
use Rattle.image_reading.specs.Counts.{IsIn}
use Rattle.image_reading.specs.Reading.{IsFile, IsDirectory, slot_owner, Reached, IsNameOf, IsChildOf, ReadsAs}
use Rattle.image_reading.specs.Residue.{Residue, no_residue, IsTidyBeside}
use Rattle.image_reading.specs.Soundness.{IsCoherent, Sound}
use Rattle.image_reading.proofs.Counts.{count_one}
use Rattle.image_counts.specs.Entries.{IsEntryOf}
use Rattle.image_counts.proofs.Distinct.{in_back}
use Rattle.image_counts.proofs.Links.{links_counted, link_word_beside_law}
use Rattle.image_counts.proofs.Nodes.{size_law}
use Rattle.image_counts.proofs.Paths as paths
use Rattle.image_laws.specs.CreateStep.{IsStepped}
use Rattle.image_laws.specs.Drop.{dropped}
use Rattle.image_laws.specs.DropStep.{removing}
use Rattle.image_laws.specs.DropStep as steps
use Rattle.image_laws.specs.Quiet.{IsMix}
use Rattle.image_laws.proofs.KeptSlots as slot_laws
use Rattle.image_laws.proofs.OnlySlot.{OnlySlot}
use Rattle.image_laws.proofs.RemoveFacts as facts
use Rattle.weave_laws.specs.Beside.{StoresIn}
use Rattle.weave_laws.specs.Joined.{joined}
use Rattle.weave_laws.specs.Removing.{unnamed_left}
use Rattle.weave_laws.specs.Waiting.{HasNoPageOf, HasFallingLinks}
use Rattle.weave_laws.proofs.Contained.{in_contained}
use Rattle.weave_laws.proofs.Disjoint.{wider_law}
use Rattle.weave_laws.proofs.OneWord.{one_word_law}
use Rattle.weave_laws.proofs.OwnWords.{dropped_words_law}
use Rattle.weave_laws.proofs.Removed.{removed_entered_law}
use Rattle.weave_laws.proofs.Unnamed.{unnamed_law}
use Rattle.weave_laws.proofs.UnnamedLinks as links
use Rattle.weave_laws.proofs.UnnamedSlots as unnamed
use Rattle.volume.specs.Volume.{VolumeView}
use Rattle.volume.specs.Costs.{mark_events, kept_events, events_of}
use Rattle.volume.specs.Entered.{LeavesName}
use Rattle.volume.specs.Stages.{keeping}
use Rattle.volume.specs.declared.next.Next.TheVariants.{More}
use Rattle.volume.specs.declared.plan.Action.TheVariants.{Remove}
use Rattle.volume.specs.declared.plan.Removal.{Removal}
use Rattle.volume.proofs.Moments.{with_kept, removal_beside}
use Rattle.knowing_laws.specs.Knowing.{KeepsPagesBut, ChangesNumbers, TakesNameAway, AreListedAt}
use Rattle.knowing_laws.proofs.Gone.{name_gone_law}
use Rattle.unlink_ops.specs.declared.removal.Stage.TheVariants.{Begun, Unnamed}
use Rattle.unlink_ops.specs.RemovalStages.{RunningView, begun, pages_gone, step_of, next_of, EntersAt, StandsStage}
use Rattle.waiting_laws.specs.Beside.{IsReady, StandsWith, MakesStep, Affects, Commits}
use Rattle.waiting_laws.specs.Crashes.{RemovingFirstCrashLaw}
use Rattle.waiting_laws.specs.Removing.{of_kind, held_by, falling_of, left_at, HasItsPage, IsPlaced, AreListed, WaitsOn, RemovingCommitsLaw}
use Rattle.waiting_laws.proofs.RemovingKnows.{unused_as, same_numbers, known_keeping, same_pages}
use Rattle.waiting_laws.proofs.RemovingPlanned as planned
use Rattle.waiting_laws.proofs.RemovingWaits.{at, same_next, left_given}
use Rattle.waiting_laws.proofs.Standing as standing
use Rattle.waiting_laws.proofs.Standing.{IsBehind}
use Rattle.volume.specs.Costs.{where_true}
use Rattle.image_laws.specs.Remove.{CanRemove}
use Rattle.image_counts.specs.Laws.{IsApart}
use Rattle.weave_laws.specs.Unnaming.{IsFallen}
use Rattle.volume.specs.Beside.{KnowsBeside}
use Rattle.volume.specs.Planned.{IsGivenBack, IsAlone}
use Rattle.waiting_laws.proofs.RemovingWaits.{given_here}
use Rattle.weave_laws.specs.Naming.{pages_left}

kind_of : NodeKind → steps.Removal
kind_of File = steps.file
kind_of Directory = steps.directory

same_command : (kind : NodeKind) (path : Route) → removing (kind_of kind) path ≡ of_kind kind path
unfolding kind_of
same_command File path = refl
same_command Directory path = refl

-- room for the events of closing and for those that are kept
room_for : (marked : Bool) (kept events spare : ℕ) → 0 < events → where_true (nat_lt 0 events) (events + (kept_events marked + kept)) ≤ spare → mark_events + (kept + events) ≤ spare
room_for marked kept events spare some =
    elim (nat_lt 0 events) as (λ t. nat_lt 0 events ≡ t → where_true t (events + (kept_events marked + kept)) ≤ spare → mark_events + (kept + events) ≤ spare) [
      | true ↦ λ is room. omega (arith, room)
      | false ↦ λ is room. (let none = ltb-false 0 events is in omega (arith, none, some))
    ] refl

-- ---- the words: A are those of the step

module _ (volume : VolumeView) (before : DeviceView) (state : State) (path : Route) (removal : Removal) (n : ℕ) (others : Residue)
    (ready : IsReady volume before state (of_kind removal.loss.kind path) (Remove removal) others) where
  abbrev P : ℕ
  P = volume.size

  abbrev I : List ℕ
  I = before.words

  abbrev s : ℕ
  s = removal.slot

  abbrev A : List ℕ
  A = dropped P I s

  abbrev i : ℕ
  i = removal.loss.inode

  abbrev d : ℕ
  d = removal.directory

  abbrev way : Route
  way = reverse (parent path)

  abbrev pages : List ℕ
  pages = pages_gone volume removal

  abbrev falling : Option ℕ
  falling = falling_of removal.loss.kind removal

  can : CanRemove P I way s
  can = planned.can volume before state path removal others ready

  only_slot : OnlySlot P I A s
  only_slot = unnamed.only can

  coherent : IsCoherent P I
  coherent = planned.coherent volume before state path removal others ready

  coherent_after : IsCoherent P A
  coherent_after = unnamed.coherent can

  inode_is : slot_inode P I s ≡ i
  inode_is = planned.inode_is volume before state path removal others ready

  owner_is : slot_owner P I s ≡ d
  owner_is = planned.owner_is volume before state path removal others ready

  -- ---- it commits

  stepped : IsStepped P A state (of_kind removal.loss.kind path) n
  stepped = subst (λ c. IsStepped P A state c n) (same_command removal.loss.kind path)
      (removed_entered_law P I state way path s n (kind_of removal.loss.kind) can (planned.path_is volume before state path removal others ready) ready.prepared.stands.reads)

  abbrev later : State
  later = stepped.new

  only : StoresIn P I A (held_by volume removal).slots (held_by volume removal).pages (held_by volume removal).inodes
  only = wider_law P I A (s ∷ []) [] [] (held_by volume removal).slots (held_by volume removal).pages (held_by volume removal).inodes
      (record { of_slots = λ t among. inl among; of_pages = λ j none. absurd none; of_inodes = λ x none. absurd none })
      (dropped_words_law P I s)

  unmarked : has_mark A ≡ false
  unmarked = standing.same_mark P I A (held_by volume removal).slots (held_by volume removal).pages (held_by volume removal).inodes only ∙ standing.no_mark volume before state others ready.prepared.stands ready.unmarked

  commits_words : Commits P I A state (of_kind removal.loss.kind path) n
  commits_words = record {
    crash = λ M mix. one_word_law I M (slot_word_of P s 0) 0 mix;
    sound = standing.sound_without P A coherent_after unmarked;
    stepped = stepped;
  }

  -- whatever words the step makes
  pub commits : (J : List ℕ) → (step_of volume (begun removal)).Makes I J → Commits P I J state (of_kind removal.loss.kind path) n
  commits J made = record {
    crash = subst (λ (l : List ℕ). (M : List ℕ) → IsMix I l M → (M ≡ I) ⊎ (M ≡ l)) (sym made) commits_words.crash;
    sound = subst (λ (l : List ℕ). Sound P l) (sym made) commits_words.sound;
    stepped = record { new = later; reads = subst (λ (l : List ℕ). ReadsAs P l later) (sym made) stepped.reads; tree = stepped.tree; room = stepped.room };
  }

  -- ---- what is left

  node_apart : IsApart P I others (slot_inode P I s)
  node_apart = subst (IsApart P I others) (sym inode_is) (planned.node_untouched volume before state path removal others ready).apart

  owner_apart : IsApart P I others (slot_owner P I s)
  owner_apart = subst (IsApart P I others) (sym owner_is) (planned.directory_untouched volume before state path removal others ready).apart

  tidy : IsTidyBeside P A (joined (left_at volume removal Unnamed) others)
  tidy = subst (λ (x : ℕ). IsTidyBeside P A (joined (unnamed_left s removal.given_back pages removal.loss.goes x falling) others)) inode_is
      (unnamed_law P I way s removal.given_back pages removal.loss.goes falling others can (planned.goes_with volume before state path removal others ready) node_apart owner_apart ready.prepared.stands.beside)

  -- ---- the link that falls

  word_before : (x : ℕ) → Reached P I x → IsApart P I others x → inode_links I x ≡ link_count state.tree x
  word_before x reached apart = sym (link_word_beside_law P I others state (planned.holds volume before state path removal others ready) x reached apart)

  word_same : (x : ℕ) → Reached P I x → inode_links A x ≡ inode_links I x
  word_same x reached = only_slot.links x (paths.in_range P I coherent x reached).1

  -- a file that stays has a name less
  file_falls : IsFile I (slot_inode P I s) → Reached P A (slot_inode P I s) → inode_links A (slot_inode P I s) ≡ link_count later.tree (slot_inode P I s) + 1
  file_falls bytes stays =
      let x = slot_inode P I s in
      let was = facts.i_reached P I way s can in
      let now = (links_counted P A later.tree coherent_after stepped.reads.tree x stays).file (facts.kind_same P I way s can x was ∙ bytes) in
      let more = slot_laws.count_gained (IsNameOf P A x) (IsNameOf P I x) s (link_count later.tree x)
      (λ t other. let same = slot_laws.names (unnamed.kept can) x t other in (same.1, same.0)) (λ name. (facts.slot_back P I way s can s name.slot).1 refl) (record { slot = facts.old_slot P I way s can; inode = refl }) now in
      let had = (links_counted P I state.tree coherent ready.prepared.stands.reads.tree x was).file bytes in
      word_same x was ∙ word_before x was node_apart ∙ sym (count_one (IsNameOf P I x) (link_count later.tree x + 1) (link_count state.tree x) more had)

  -- and the directory that a directory goes from has a directory less
  parent_falls : IsDirectory I (slot_inode P I s) → inode_links A (slot_owner P I s) ≡ link_count later.tree (slot_owner P I s) + 1
  parent_falls two =
      let x = slot_owner P I s in
      let was : Reached P I x = (way, can.path) in
      let (m, now, now_is) = (links_counted P A later.tree coherent_after stepped.reads.tree x (facts.d_reached P I way s can)).directory (facts.kind_same P I way s can x was ∙ can.directory) in
      let more = slot_laws.count_gained (IsChildOf P A x) (IsChildOf P I x) s m
      (λ t other. let same = slot_laws.children (unnamed.kept can) x t other in (same.1, same.0)) (λ child. (facts.slot_back P I way s can s child.slot).1 refl) (record { slot = facts.old_slot P I way s can; owner = refl; directory = two }) now in
      let (k, had, had_is) = (links_counted P I state.tree coherent ready.prepared.stands.reads.tree x was).directory can.directory in
      let same = count_one (IsChildOf P I x) (m + 1) k more had in
      let word = word_same x was ∙ word_before x was owner_apart in
      omega (arith, word, same, now_is, had_is)

  stays_reached : removal.loss.goes ≡ false → Reached P A (slot_inode P I s)
  stays_reached stays = links.stays can removal.loss.goes (planned.goes_with volume before state path removal others ready).node stays

  falls_by : (o : Option ℕ) → IsFallen P I s removal.loss.goes o → HasFallingLinks A later.tree o
  falls_by None fallen = tt
  falls_by (Some y) (inl (bytes, stays, is)) = subst (λ (x : ℕ). inode_links A x ≡ link_count later.tree x + 1) (sym is) (file_falls bytes (stays_reached stays))
  falls_by (Some y) (inr (two, is)) = subst (λ (x : ℕ). inode_links A x ≡ link_count later.tree x + 1) (sym is) (parent_falls two)

  falls : HasFallingLinks A later.tree falling
  falls = falls_by falling (planned.goes_with volume before state path removal others ready).link

  -- ---- what stays

  -- a node that stays is a file
  file_stays : removal.loss.goes ≡ false → is_file later.tree i ≡ true
  file_stays stays =
      let was = facts.i_reached P I way s can in
      let kind = facts.kind_same P I way s can (slot_inode P I s) was in
      let bytes : IsFile I (slot_inode P I s) = file_by falling (planned.goes_with volume before state path removal others ready).link stays in
      subst (λ (x : ℕ). is_file later.tree x ≡ true) inode_is (((size_law P A later coherent_after stepped.reads).files (slot_inode P I s)).1 (stays_reached stays, kind ∙ bytes))
    where
      gone_directory : IsDirectory I (slot_inode P I s) → removal.loss.goes ≡ false → IsFile I (slot_inode P I s)
      gone_directory two stays = absurd (facts.directory_gone P I way s can two (stays_reached stays))

      file_by : (o : Option ℕ) → IsFallen P I s removal.loss.goes o → removal.loss.goes ≡ false → IsFile I (slot_inode P I s)
      file_by None (bytes, goes) stays = bytes
      file_by (Some y) (inl (bytes, part, is)) stays = bytes
      file_by (Some y) (inr (two, is)) stays = gone_directory two stays

  parent_stays : is_directory later.tree d ≡ true
  parent_stays =
      subst (λ (x : ℕ). is_directory later.tree x ≡ true) owner_is
      (((size_law P A later coherent_after stepped.reads).directories (slot_owner P I s)).1 (facts.d_reached P I way s can, facts.kind_same P I way s can (slot_owner P I s) (way, can.path) ∙ can.directory))

  -- ---- the name in the index

  name_kept : (t : ℕ) → slot_name P A t ≡ slot_name P I t
  unfolding slot_name
  name_kept t = ap name_in_words (only_slot.words t)

  away : TakesNameAway P I A d removal.name
  away = record {
    entries = λ e t bytes. (
      (λ entry.
          let (was, other) = facts.slot_back P I way s can t entry.slot in
          let owner = sym (facts.owner_same P I way s can t was) ∙ entry.owner in
          let name = sym (name_kept t) ∙ entry.name in
          (record { slot = was; owner = owner; name = name }, one_name e t bytes (record { slot = was; owner = owner; name = name }) other)),
      (λ (was, differs). named_still e t bytes was differs),
    );
    files = λ x reached bytes.
        let was = facts.reached_back P I way s can x reached in
        let (least, most) = paths.in_range P I coherent x was in
        record { least = least; most = most; reached = was; file = sym (facts.kind_same P I way s can x was) ∙ bytes };
  }
    where
      entry : IsEntryOf P I d removal.name s
      entry = (planned.for volume before state path removal others ready).named.slot_is

      one_name : (e t : ℕ) (bytes : List ℕ) → IsEntryOf P I e bytes t → t ≢ s → (e ≡ d) → bytes ≢ removal.name
      one_name e t bytes was other here same =
          other (paths.same_slot P I coherent t s was.slot entry.slot (was.owner ∙ here ∙ sym entry.owner) (was.name ∙ same ∙ sym entry.name))

      named_still : (e t : ℕ) (bytes : List ℕ) → IsEntryOf P I e bytes t → ((e ≡ d) → bytes ≢ removal.name) → IsEntryOf P A e bytes t
      named_still e t bytes was differs =
          let other : t ≢ s = λ same. differs (sym was.owner ∙ ap (slot_owner P I) same ∙ entry.owner) (sym was.name ∙ ap (slot_name P I) same ∙ entry.name) in
          record { slot = facts.slot_forward P I way s can t other was.slot; owner = facts.owner_same P I way s can t was.slot ∙ was.owner; name = name_kept t ∙ was.name }

  keeps_pages : KeepsPagesBut P I A others (joined (left_at volume removal Unnamed) others) []
  keeps_pages = record {
    left = λ j out kept among. out (in_back j (left_at volume removal Unnamed).pages others.pages among);
    owners = λ j low out kept. only_slot.owner j low;
    offsets = λ j low out kept. only_slot.offset j low;
  }

  numbers : ChangesNumbers P I A [] []
  numbers = same_numbers P I A (λ x least most. only_slot.node_kind x most) (λ j low. unused_as P I A j (only_slot.owner j low) (only_slot.kind j low))

  -- ---- the places

  page_after : (given : Option ℕ) → HasItsPage P I removal given → HasItsPage P A removal given
  page_after None is = facts.owner_same P I way s can s (facts.old_slot P I way s can) ∙ is
  page_after (Some page) is = is

  page_before : (given : Option ℕ) → IsGivenBack (IsAlone P I s) s given → HasItsPage P I removal given
  page_before None busy = owner_is
  page_before (Some page) (alone, same) = sym same

  its_page : HasItsPage P I removal removal.given_back
  its_page = page_before removal.given_back (planned.for volume before state path removal others ready).given_back

  place : IsPlaced P A removal
  place = record { in_range = can.live.held.in_range; owner = inl (facts.owner_same P I way s can s (facts.old_slot P I way s can) ∙ owner_is) }

  -- a page of the node is in no other list
  listed_node : AreListedAt volume pages i
  listed_node x j among least most other there =
      let (goes, inside) = (planned.gone_among volume before state path removal others ready j).0 (in_contained j pages among) in
      let out : ¬ IsIn j others.pages = λ left. (planned.node_untouched volume before state path removal others ready).apart.pages j left inside.owner in
      other (sym ((ready.prepared.stands.knows.nodes.pages x j least most out).0 there).owner ∙ inside.owner)

  given_owner : (j : ℕ) → removal.given_back ≡ Some j → page_owner P I j ≡ d
  unfolding slot_owner
  given_owner j is = ap (page_owner P I) (given_here P I removal removal.given_back its_page j is) ∙ owner_is

  listed_directory : AreListedAt volume (pages_left removal.given_back) d
  listed_directory x j among least most other there =
      let owner = given_owner j (left_given removal.given_back j among) in
      let out : ¬ IsIn j others.pages = λ left. (planned.directory_untouched volume before state path removal others ready).apart.pages j left owner in
      other (sym ((ready.prepared.stands.knows.nodes.pages x j least most out).0 there).owner ∙ owner)

  alone : HasNoPageOf P A others i
  alone j among is =
      let low = ((ready.prepared.stands.beside.of_pages.each j).0 among).in_range in
      (planned.node_untouched volume before state path removal others ready).apart.pages j among (sym (only_slot.owner j low) ∙ is)

  -- ---- the volume that has taken it in, behind the step's fence

  module _ (new : VolumeView) (after : DeviceView) (makes : MakesStep (step_of (keeping volume (Remove removal)) (begun removal)) (EntersAt (begun removal)) (keeping volume (Remove removal)) new before after) where
    abbrev J : List ℕ
    J = after.words

    made : J ≡ A
    made = makes.takes.makes

    abbrev committed : Commits P I J state (of_kind removal.loss.kind path) n
    committed = commits J made

    stored : StoresIn P I J (held_by volume removal).slots (held_by volume removal).pages (held_by volume removal).inodes
    stored = subst (λ (l : List ℕ). StoresIn P I l (held_by volume removal).slots (held_by volume removal).pages (held_by volume removal).inodes) (sym made) only

    abbrev K : VolumeView
    K = keeping volume (Remove removal)

    abbrev spent : ℕ
    spent = (step_of K (begun removal)).events

    abbrev M : VolumeView
    M = with_kept (K.kept - spent) volume

    leaves : LeavesName M new d removal.name
    leaves = makes.enters

    behind : IsBehind K new spent
    behind = let is = removal_beside M new d removal.name leaves in record { size = is.size; stopped = is.stopped; marked = is.marked; kept = is.kept }

    size : new.size ≡ P
    size = behind.size

    stands_ready : StandsWith K before state no_residue others
    stands_ready = record {
      stands = record {
        settled = ready.prepared.stands.settled;
        sound = ready.prepared.stands.sound;
        beside = ready.prepared.stands.beside;
        reads = ready.prepared.stands.reads;
        knows = known_keeping K.kept volume I others ready.prepared.stands.knows;
        mark = ready.prepared.stands.mark;
        room = room_for volume.marked volume.kept (events_of (Remove removal)) before.spare (omega arith) ready.reserved.room;
      };
      going = ready.going;
      unmarked = ready.unmarked;
      no_pointer = ready.no_pointer;
    }

    same_gone : pages_gone new removal ≡ pages
    same_gone = ap (λ (l : List ℕ). cond removal.loss.goes l []) (same_pages M new d removal.name leaves i)

    same_left : left_at new removal Unnamed ≡ left_at volume removal Unnamed
    same_left = ap (λ (l : List ℕ). unnamed_left s removal.given_back l removal.loss.goes i falling) same_gone

    knows : KnowsBeside new J (joined (left_at volume removal Unnamed) others)
    knows = subst (λ (l : List ℕ). KnowsBeside new l (joined (left_at volume removal Unnamed) others)) (sym made)
        (name_gone_law M new I A others (joined (left_at volume removal Unnamed) others) d removal.name (known_keeping M.kept volume I others ready.prepared.stands.knows) only_slot.size away keeps_pages numbers leaves)

    -- of the words after it, by the size that the volume has
    of_new : (Q : ℕ → List ℕ → Type 0) → Q P A → Q new.size J
    of_new Q is = subst (λ (p : ℕ). Q p J) (sym size) (subst (Q P) (sym made) is)

    beside : StandsWith new after later (left_at volume removal Unnamed) others
    beside = standing.behind K new before after state later no_residue (left_at volume removal Unnamed) others (step_of K (begun removal)) (EntersAt (begun removal)) (held_by volume removal).slots (held_by volume removal).pages (held_by volume removal).inodes
        stands_ready makes refl behind stored
        (record {
          coherent = of_new IsCoherent coherent_after;
          beside = of_new (λ p l. IsTidyBeside p l (joined (left_at volume removal Unnamed) others)) tidy;
          reads = of_new (λ p l. ReadsAs p l later) stepped.reads;
          knows = knows;
          no_pointer = ready.no_pointer;
        })

    affects : Affects volume new (held_by volume removal)
    affects = record {
      size = size;
      others = λ x out. leaves.index.elsewhere.others x (λ same. out (inr (inl same)));
      lists = λ x j there. inl (subst (λ (l : List ℕ). Contains l j) (same_pages M new d removal.name leaves x) there);
    }

    still_listed : (l : List ℕ) (y : ℕ) → AreListedAt volume l y → AreListedAt new l y
    still_listed l y listed x j among least most other there =
        listed x j among least (subst (λ (p : ℕ). x ≤ inodes_of p) size most) other (subst (λ (m : List ℕ). Contains m j) (same_pages M new d removal.name leaves x) there)

    listed : AreListed new removal
    listed = record {
      node = subst (λ (l : List ℕ). AreListedAt new l i) (sym same_gone) (still_listed pages i listed_node);
      directory = still_listed (pages_left removal.given_back) d listed_directory;
    }

    waits : StandsStage new after (at removal Unnamed) → WaitsOn volume new before after later (at removal Unnamed) others
    waits stands =
        let with = subst (λ (r : Residue). StandsWith new after later r others) (sym same_left) beside in
        record {
          waits = record {
            beside = with;
            words = stands.words;
            losses = stands.losses;
            falling = subst (λ (l : List ℕ). HasFallingLinks l later.tree falling) (sym made) falls;
            page = of_new (λ p l. HasItsPage p l removal removal.given_back) (page_after removal.given_back its_page);
            place = of_new (λ p l. IsPlaced p l removal) place;
            stays = file_stays;
            parent = parent_stays;
            listed = listed;
            alone = of_new (λ p l. HasNoPageOf p l others i) alone;
          };
          leaves = record { beside = with; stores = stored; affects = affects };
        }

    pub commit : (next : RunningView) → next_of removal Begun ≡ More next → StandsStage new after next
        → (commits : Commits P I J state (of_kind removal.loss.kind path) n) × WaitsOn volume new before after commits.stepped.new next others
    unfolding commits
    commit next is stands =
        subst (λ (r : RunningView). StandsStage new after r → (commits : Commits P I J state (of_kind removal.loss.kind path) n) × WaitsOn volume new before after commits.stepped.new r others)
        (same_next (at removal Unnamed) next is) (λ stood. (committed, waits stood)) stands

pub removing_first_crash_law : RemovingFirstCrashLaw
removing_first_crash_law volume device state path removal n others J ready made = commits volume device state path removal n others ready J made

pub removing_commits_law : RemovingCommitsLaw
removing_commits_law volume new before after state path removal next n others ready makes is stands = commit volume before state path removal n others ready new after makes next is stands
