-- What a volume knows once it has taken in the names of a move: the old name is out, the new one in, and a page that goes is listed where it was.
use Rattle.std.proofs.Common.{◌≡◌, ◌≢◌, ◌↔◌, inl, inr, ℕ, ◌+◌, ◌≤◌, true, List, [], ◌++◌, length, Contains, Option, Some, None, refl, sym, ap, subst, ◌∙◌, arith, length-set}
use Rattle.std.specs.Prelude.{slice_get}
use Rattle.std.proofs.lemmas.Bool.{cases_eq}
use Rattle.layout.specs.Geometry.{inodes_of, slot_word_of}
use Rattle.layout.specs.Fields.{inode_kind, page_owner, slot_inode}
use Rattle.tree_model.specs.PathText.{Route}
use Rattle.tree_model.specs.Run.{State}
use Rattle.image_reading.specs.Counts.{IsIn}
use Rattle.image_reading.specs.Reading.{HasBytes, Reached}
use Rattle.image_reading.specs.Residue.{Residue}
use Rattle.image_reading.specs.Soundness.{IsCoherent}
use Rattle.image_counts.specs.Entries.{IsEntryOf, IsUnusedPage}
use Rattle.image_counts.proofs.Distinct.{in_either}
use Rattle.image_counts.proofs.Paths.{in_range}
use Rattle.image_laws.specs.Move.{CanMove, moved}
use Rattle.image_laws.proofs.OnlySlot.{OnlySlot}
use Rattle.rename_laws.specs.Ready.{IsMoveReady}
use Rattle.rename_laws.proofs.MovedNames as here
use Rattle.weave_laws.specs.Naming.{pages_left}
use Rattle.moving_laws.specs.Moving.{new_page, pointed_left}
use Rattle.volatile_index.specs.Index.{NodeView, pages_of}
use Rattle.volume.specs.Costs.{goes_of}
use Rattle.volume.specs.Moves.{rising_of}
use Rattle.volume.specs.Volume.{VolumeView}
use Rattle.volume.specs.Beside.{KnowsNodesBeside, KnowsBeside}
use Rattle.volume.specs.Entered.{pages_of_option, with_taken, EntersName, PutsName, LeavesName}
use Rattle.volume.specs.declared.plan.Loss.{Loss}
use Rattle.volume.specs.declared.plan.Moving.{Moving}
use Rattle.volume.proofs.PageLists.{in_contained}
use Rattle.entry_steps.proofs.Facts.{Facts, IsTold, option_once, in_option, with_entry, with_page, without_name, enters_name, leaves_name}
use Rattle.entry_steps.proofs.Lists.{not_none}
use Rattle.knowing_laws.specs.Knowing.{IsFileOf, KeepsPagesBut, ChangesNumbers, ArePagesOf, TakesNameAway}
use Rattle.knowing_laws.proofs.Quiet.{inodes_told}
use Rattle.knowing_laws.proofs.Pages.{with_index, known_by_nodes, IsGrown, grown}
use Rattle.knowing_laws.proofs.Gone.{name_gone_law}
use Rattle.removal_steps.specs.Steps.{AreGonePages, number_of}
use Rattle.rename_ptr.specs.Steps.{target_of}
use Rattle.rename_ptr.specs.Renaming.{IsMovingAt}
use Rattle.rename_ptr.specs.Stages.{MovesName, PutsTarget}
use Rattle.rename_ptr.specs.declared.rename.Progress.TheVariants.{Moved}
use Rattle.rename_ptr.proofs.Moves
use Rattle.waiting_laws.proofs.MovingQuiet.{IsQuietSince, paged_slot, unused_same}
use Rattle.waiting_laws.proofs.MovingBefore as before_it
use Rattle.waiting_laws.proofs.MovingCourse.{left_with}
use Rattle.waiting_laws.proofs.MovingEnds.{given_owner}
use Rattle.waiting_laws.proofs.MovingEntries as entries

-- what a volume holds: the entries and the free numbers by the words, the pages by its own lists
abbrev held_facts : VolumeView → List ℕ → Facts
held_facts volume I = record {
  entry = λ d bytes slot. IsEntryOf volume.size I d bytes slot;
  page = λ i j. Contains (pages_of volume.index i) j;
  place = λ i k j. slice_get (pages_of volume.index i) k ≡ Some j;
  free_inode = λ k. inode_kind I (k + 1) ≡ 0;
  free_page = λ j. IsUnusedPage volume.size I j;
  stopped = volume.stopped;
}

told_held : (volume : VolumeView) (I : List ℕ) (residue : Residue) → KnowsBeside volume I residue → IsTold volume.size volume (held_facts volume I)
told_held volume I residue knows = record {
  size = refl;
  stopped = refl;
  each_inode = knows.nodes.each_inode;
  entries = knows.nodes.entries;
  pages = record { pages = λ i j least most. ((λ there. there), (λ there. there)); once = knows.nodes.once; places = λ i k j least most stands. stands };
  inodes = inodes_told (inodes_of volume.size) volume.inodes I knows.each_inode knows.inodes;
  data_pages = record { each = knows.each_page; free = knows.data_pages };
}

-- The volume knows the words with the pointer, I; a page that is left is listed where it was owned at the begin. These are the words W.
module _ {W : List ℕ} {state : State} (old new : VolumeView) (from to : Route) {moving : Moving} (at : IsMovingAt old.size W state from to moving)
    (pages : List ℕ) (are : AreGonePages old.size W moving.replaced pages) (I : List ℕ)
    (ready : IsMoveReady old.size W I (Moves.from_way from to at) (Moves.to_way from to at) moving.from_slot moving.to_directory moving.to_slot (target_of moving) (rising_of moving))
    (since : IsQuietSince old.size W I (pointed_left moving.to_slot (target_of moving) (rising_of moving)))
    (knows : KnowsBeside old I (pointed_left moving.to_slot (target_of moving) (rising_of moving)))
    (listed : (i j : ℕ) → 1 ≤ i → i ≤ inodes_of old.size → IsIn j (pages_left (new_page (target_of moving))) → Contains (pages_of old.index i) j → page_owner old.size W j ≡ i) where
  abbrev P : ℕ
  P = old.size

  abbrev before : Residue
  before = pointed_left moving.to_slot (target_of moving) (rising_of moving)

  abbrev after : Residue
  after = left_with moving pages Moved

  abbrev C : List ℕ
  C = moved P I moving.from_slot moving.to_slot

  abbrev all : List ℕ
  all = pages ++ pages_left moving.given_back

  can : CanMove P I (Moves.from_way from to at) (Moves.to_way from to at) moving.from_slot moving.to_slot
  can = ready.can_move

  coherent_old : IsCoherent P W
  coherent_old = Moves.coherent from to at

  same : OnlySlot P I C moving.to_slot
  same = here.only P I (Moves.from_way from to at) (Moves.to_way from to at) moving.from_slot moving.to_slot can

  -- the pages that were left are the new one
  is_left : (j : ℕ) → IsIn j (pages_left (new_page (target_of moving))) ↔ (moving.new_page ≡ Some j)
  is_left j =
      let both = in_option moving.new_page j in
      let e = before_it.pages_same from to at in
      ((λ among. both.0 (subst (λ (l : List ℕ). IsIn j l) e among)), (λ is. subst (λ (l : List ℕ). IsIn j l) (sym e) (both.1 is)))

  -- a list has no new page
  not_listed : (i j : ℕ) → 1 ≤ i → i ≤ inodes_of P → Contains (pages_of old.index i) j → moving.new_page ≢ Some j
  not_listed i j least most there is =
      let owner = listed i j least most ((is_left j).1 is) there in
      let zero = entries.new_page_free from to at I ready since (before_it.none_replaced from to at j is) j is in
      omega (arith, owner, zero, least)

  -- a listed page was owned so at the begin
  old_owner : (i j : ℕ) → 1 ≤ i → i ≤ inodes_of P → Contains (pages_of old.index i) j → page_owner P W j ≡ i
  old_owner i j least most there =
      let out : ¬ IsIn j (pages_left (new_page (target_of moving))) = λ among. not_listed i j least most there ((is_left j).0 among) in
      let was = (knows.nodes.pages i j least most out).0 there in
      sym (since.paged.owner j was.in_range out) ∙ was.owner

  files : (i : ℕ) → Reached P C i → HasBytes C i → IsFileOf P I i
  files i reached one =
      let was = here.reached_back P I (Moves.from_way from to at) (Moves.to_way from to at) moving.from_slot moving.to_slot can i reached in
      let (least, most) = in_range P I can.coherent i was in
      record { least = least; most = most; reached = was; file = sym (same.node_kind i most) ∙ one }

  -- no number is taken or given back
  numbers : ChangesNumbers P I C [] []
  numbers = record {
    inodes_within = λ i none. absurd none;
    other_inodes = λ i least most none. let kind = same.node_kind i most in ((λ zero. kind ∙ zero), (λ zero. sym kind ∙ zero));
    other_pages = λ j low none. unused_same {Out = λ page. ⊥} (paged_slot same) j low (λ none. none);
  }

  keeps : (more : List ℕ) → ((j : ℕ) → moving.new_page ≡ Some j → IsIn j more) → KeepsPagesBut P I C before after more
  keeps more new = record {
    left = λ j out other among. other (new j ((is_left j).0 among));
    owners = λ j low out other. same.owner j low;
    offsets = λ j low out other. same.offset j low;
  }

  long : length C ≡ length I
  long = length-set I (slot_word_of P moving.to_slot 0) (slot_inode P I moving.from_slot)

  -- the directory of the new name is no file
  to_within : (1 ≤ moving.to_directory) × (moving.to_directory ≤ inodes_of P)
  to_within = in_range P W coherent_old moving.to_directory (Moves.to_holds from to at).0

  no_file : HasBytes C moving.to_directory → ⊥
  no_file one =
      let two = (Moves.to_holds from to at).1 in
      let was = since.kinds moving.to_directory to_within.0 to_within.1 in
      let kind = same.node_kind moving.to_directory to_within.1 in
      omega (arith, one, two, was, kind)

  -- a page that goes was owned
  gone_owned : (j : ℕ) → IsIn j all → 1 ≤ page_owner P W j
  gone_owned j among = elim (in_either j pages (pages_left moving.given_back) among) [
    | inl went ↦ (let (goes, page) = (are.among j).0 (in_contained j pages went) in let least = number_least moving.replaced refl goes in let owner = page.owner in omega (arith, least, owner))
    | inr back ↦ (let owner = given_owner from to at j ((in_option moving.given_back j).0 back) in let least = from_least in omega (arith, owner, least))
  ]
    where
      number_least : (replaced : Option Loss) → moving.replaced ≡ replaced → goes_of replaced ≡ true → 1 ≤ number_of replaced
      number_least None is goes = absurd (let clash = goes in cc)
      number_least (Some loss) is goes = (in_range P W coherent_old loss.inode (Moves.replaced_reached from to at loss (Moves.target_at from to at loss is))).0

      from_least : 1 ≤ moving.from_directory
      from_least = let source = (Moves.for_move from to at).source.slot_is in (in_range P W coherent_old moving.from_directory (subst (λ (i : ℕ). Reached P W i) source.owner source.slot.owner)).0

  -- ---- by what the volume took in

  -- what it knows now, and where it lists what goes
  pub record KnowsMoved : Type 0 where
    pub known : KnowsBeside new C after
    pub lists : (i j : ℕ) → 1 ≤ i → i ≤ inodes_of P → IsIn j all → Contains (pages_of new.index i) j → page_owner P W j ≡ i

  abbrev base : Facts
  base = without_name (held_facts old I) moving.from_directory moving.from_name

  module _ (unnamed : VolumeView) (leaves : LeavesName old unnamed moving.from_directory moving.from_name) where
    told_unnamed : IsTold P unnamed base
    told_unnamed = leaves_name (told_held old I before knows) unnamed moving.from_directory moving.from_name leaves

    -- the new name is a replaced node's: the old name goes
    name_goes : (loss : Loss) → moving.replaced ≡ Some loss → TakesNameAway P I C moving.from_directory moving.from_name
    name_goes loss some = record {
      entries = entries.entry_stays_over from to at I ready since loss some;
      files = files;
    }

    stays : (loss : Loss) → moving.replaced ≡ Some loss → new ≡ unnamed → KnowsMoved
    stays loss some is = record {
      known = subst (λ (v : VolumeView). KnowsBeside v C after) (sym is)
          (name_gone_law old unnamed I C before after moving.from_directory moving.from_name knows long (name_goes loss some)
          (keeps [] (λ j new. not_none j (sym (Moves.target_at from to at loss some).2 ∙ new))) numbers leaves);
      lists = λ i j least most among there. old_owner i j least most ((told_unnamed.pages.pages i j least most).0 (subst (λ (v : VolumeView). Contains (pages_of v.index i) j) is there));
    }

    -- Or it comes where the old one goes: no words stand between, since what is below a directory would have no path there.
    module _ (none : moving.replaced ≡ None) (puts : PutsName unnamed new moving.to_directory moving.to_name moving.to_slot moving.new_page) where
      -- as if the new page's number were taken with it
      abbrev taking : VolumeView → VolumeView
      taking volume = record volume { data_pages = with_taken unnamed.data_pages (pages_of_option moving.new_page) }

      enters : EntersName unnamed (taking new) moving.to_directory moving.to_name moving.to_slot moving.new_page
      enters = record {
        opened = taking puts.opened;
        page = record { index = puts.page.index; rest = ap taking puts.page.rest };
        index = puts.index;
        rest = ap taking puts.rest;
      }

      told : IsTold P (taking new) (with_entry (with_page base moving.to_directory moving.new_page) moving.to_directory moving.to_name moving.to_slot)
      told =
          enters_name told_unnamed (taking new) moving.to_directory moving.to_name moving.to_slot moving.new_page enters to_within.0 to_within.1
          (λ j is listed_there. not_listed moving.to_directory j to_within.0 to_within.1 listed_there is)

      same_unnamed : (x : ℕ) → pages_of unnamed.index x ≡ pages_of old.index x
      same_unnamed x = elim (cases_eq x moving.from_directory) [
        | inl same ↦ subst (λ (y : ℕ). pages_of unnamed.index y ≡ pages_of old.index y) (sym same) leaves.index.node.pages
        | inr other ↦ ap (λ (node : NodeView). node.pages) (leaves.index.elsewhere.others x other)
      ]

      same_lists : (x : ℕ) → x ≢ moving.to_directory → pages_of new.index x ≡ pages_of old.index x
      same_lists x other = ap (λ (node : NodeView). node.pages) (puts.index.elsewhere.others x other ∙ puts.page.index.elsewhere.others x other) ∙ same_unnamed x

      grown_list : pages_of new.index moving.to_directory ≡ pages_of old.index moving.to_directory ++ pages_of_option moving.new_page
      grown_list = puts.index.node.pages ∙ puts.page.index.node.pages ∙ ap (λ (l : List ℕ). l ++ pages_of_option moving.new_page) (same_unnamed moving.to_directory)

      new_pages : ArePagesOf old C (pages_of_option moving.new_page) moving.to_directory
      new_pages = record {
        owned = λ j among. entries.new_page_owned from to at I ready since none j ((in_option moving.new_page j).0 among);
        unlisted = λ i j among least most there. not_listed i j least most there ((in_option moving.new_page j).0 among);
        once = option_once moving.new_page;
      }

      now : IsGrown old new.index I C after moving.to_directory (pages_of_option moving.new_page)
      now =
          grown old new.index I C before after moving.to_directory (pages_of_option moving.new_page) knows to_within.0 to_within.1
          (keeps (pages_of_option moving.new_page) (λ j is. (in_option moving.new_page j).1 is)) new_pages grown_list same_lists

      nodes : KnowsNodesBeside P new.index C after
      nodes = record {
        each_inode = told.each_inode;
        entries = λ e t bytes least most. let a = told.entries e t bytes least most in let b = entries.entry_comes from to at I ready since e t bytes in ((λ there. b.0 (a.0 there)), (λ is. a.1 (b.1 is)));
        pages = now.listed;
        once = now.once;
        offsets = λ i k j reached bytes out stands. elim (now.offsets i k j (files i reached bytes) out stands) [
          | inl is ↦ is
          | inr (same, n, at, count) ↦ absurd (no_file (subst (HasBytes C) same bytes))
        ];
      }

      index_alone : new ≡ with_index old new.index
      index_alone = puts.rest ∙ ap (λ (v : VolumeView). with_index v new.index) (puts.page.rest ∙ ap (λ (v : VolumeView). with_index v puts.opened.index) leaves.rest)

      comes : KnowsMoved
      comes = record {
        known = subst (λ (v : VolumeView). KnowsBeside v C after) (sym index_alone)
            (known_by_nodes old new.index I C before after knows long numbers nodes);
        lists = λ i j least most among there. elim ((told.pages.pages i j least most).0 there) [
          | inl was ↦ old_owner i j least most was
          | inr (same, is) ↦ absurd (let zero = entries.new_page_free from to at I ready since none j is in let owned = gone_owned j among in omega (arith, zero, owned))
        ];
      }

    by_target : (replaced : Option Loss) → moving.replaced ≡ replaced → PutsTarget unnamed new moving replaced → KnowsMoved
    by_target None none puts = comes none puts
    by_target (Some loss) some is = stays loss some is

  pub knows_moved : MovesName old new moving → KnowsMoved
  knows_moved moves = by_target moves.unnamed moves.source moving.replaced refl moves.target
