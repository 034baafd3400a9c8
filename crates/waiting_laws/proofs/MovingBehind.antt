-- The steps of a move behind its commit: none changes what the commit left means. W are the words at the begin of the move, I those with the
-- pointer, C those that the commit leaves, and D, J, G those after the steps behind it.
use Rattle.std.proofs.Common.{◌≡◌, ◌≢◌, ◌↔◌, inl, inr, ℕ, ◌+◌, ◌<◌, ◌≤◌, true, List, ◌++◌, Option, Some, None, sym, ap, subst, ◌∙◌, arith}
use Rattle.std.proofs.lemmas.Bool.{cases_eq, false≢true}
use Rattle.layout.specs.Geometry.{inodes_of, data_pages_of, page_of_slot, inode_word_of, descriptor_word_of, slot_word_of}
use Rattle.layout.proofs.Widths.{in_descriptor}
use Rattle.layout.specs.Fields.{word, inode_kind, page_owner, slot_inode, slot_pointer, slot_name}
use Rattle.layout.specs.Name.{name_in_words}
use Rattle.tree_model.specs.PathText.{Route}
use Rattle.tree_model.specs.Run.{State}
use Rattle.image_reading.specs.Counts.{IsIn}
use Rattle.image_reading.specs.Reading.{IsDirectory, slot_owner, IsHeld, Reached, IsRoomOf}
use Rattle.image_reading.specs.Residue.{Residue, IsTidyBeside}
use Rattle.image_reading.specs.Soundness.{IsCoherent}
use Rattle.image_counts.specs.Entries.{IsEntryOf}
use Rattle.image_laws.specs.Drop.{GivesPages}
use Rattle.image_laws.specs.Frame.{SameMeaning}
use Rattle.image_laws.specs.Move.{CanMove, moved}
use Rattle.image_laws.proofs.Addresses.{descriptor-ne_inode, descriptor-ne_slot, slot-ne_slot, slot-ne_field, descriptor_word-one}
use Rattle.image_laws.proofs.Adds.{only}
use Rattle.image_laws.proofs.KeptPages.{KeepsPages, by_words, held_owner_same, held_back}
use Rattle.image_laws.proofs.OnlySlot.{OnlySlot}
use Rattle.image_laws.proofs.Rooms.{dec_room}
use Rattle.image_laws.proofs.Words.{slot_words-same}
use Rattle.rename_laws.specs.Target.{old_number}
use Rattle.rename_laws.specs.Ready.{IsMoveReady}
use Rattle.rename_laws.specs.Intervals.{left, ClearsSource, IsCleared, IsGiven, IsGivenUp}
use Rattle.rename_laws.specs.Index.{HasEntryMoved}
use Rattle.rename_laws.proofs.MovedEntries.{moved_entry_law}
use Rattle.rename_laws.proofs.MovedNames as here
use Rattle.rename_laws.proofs.MovedWords as words
use Rattle.rename_laws.proofs.MoveIntervals as intervals
use Rattle.rename_laws.proofs.MoveIntervals.{leaving_law, clearing_law, giving_law}
use Rattle.rename_laws.proofs.MoveNear as near
use Rattle.rename_laws.proofs.MoveSpare.{HasCleared}
use Rattle.weave_laws.specs.Naming.{pages_left}
use Rattle.weave_laws.specs.Removing.{cleared_left}
use Rattle.moving_laws.specs.Moving.{GivesBackSource, GoesWithMove, moved_left}
use Rattle.moving_laws.proofs.Committed.{moved_law, left_law}
use Rattle.moving_laws.proofs.Cleared.{move_cleared_law, move_given_law}
use Rattle.moving_laws.proofs.GoneWith as gone_with
use Rattle.volume.specs.Costs.{goes_of}
use Rattle.volume.specs.Moves.{rising_of, falling_of}
use Rattle.volume.specs.Planned.{IsGivenBack, IsEmptiedBy}
use Rattle.volume.specs.declared.plan.Loss.{Loss}
use Rattle.volume.specs.declared.plan.Moving.{Moving}
use Rattle.volume.proofs.PageLists.{in_contained, contained_in}
use Rattle.removal_steps.specs.Steps.{AreGonePages, IsCut, number_of}
use Rattle.removal_steps.proofs.NodePages.{apart_of}
use Rattle.rename_ptr.specs.Steps.{target_by, target_of}
use Rattle.rename_ptr.specs.Renaming.{IsMovingAt}
use Rattle.rename_ptr.proofs.Emptied
use Rattle.rename_ptr.proofs.Finished
use Rattle.rename_ptr.proofs.Given
use Rattle.rename_ptr.proofs.Gone
use Rattle.rename_ptr.proofs.Moves
use Rattle.waiting_laws.proofs.MovingQuiet.{IsQuietSince, IsQuietStep, entries_were, paged_slot, paged_within, paged_between, since_itself, quiet_step, reached_back, directory_back}
use Rattle.waiting_laws.proofs.MovingBefore.{entry_stays}

-- ---- entries behind the commit

-- From I to Y the other slots stay, slot d has the number and its name, and slot s has no number; descriptors stay but those of pages that have no
-- owner in Y.
pub record KeepsOthers (P : ℕ) (I Y : List ℕ) (s d : ℕ) (Out : ℕ → Type 0) : Type 0 where
  pub slots : (t f : ℕ) → t ≢ s → t ≢ d → f < 16 → word Y (slot_word_of P t f) ≡ word I (slot_word_of P t f)
  pub number : slot_inode P Y d ≡ slot_inode P I s
  pub name : (f : ℕ) → 2 ≤ f → f < 16 → word Y (slot_word_of P d f) ≡ word I (slot_word_of P d f)
  pub source : slot_inode P Y s ≡ 0
  pub paged : KeepsPages P I Y Out
  pub unowned : (j : ℕ) → Out j → page_owner P Y j ≡ 0

module _ (P : ℕ) (I Y : List ℕ) (pa pb : Route) (s d : ℕ) (c : CanMove P I pa pb s d) (Out : ℕ → Type 0) (keeps : KeepsOthers P I Y s d Out) (means : SameMeaning P (moved P I s d) Y) where
  abbrev C : List ℕ
  C = moved P I s d

  coherent_there : IsCoherent P C
  coherent_there = (here.after P I pa pb s d c).coherent

  number_same : (t : ℕ) → t ≢ s → slot_inode P Y t ≡ slot_inode P C t
  unfolding slot_inode
  number_same t other = elim (cases_eq t d) [
    | inl e ↦ ap (λ (u : ℕ). slot_inode P Y u) e ∙ keeps.number ∙ sym (here.number_new P I pa pb s d c) ∙ ap (λ (u : ℕ). slot_inode P C u) (sym e)
    | inr away ↦ keeps.slots t 0 other away (omega arith) ∙ sym ((here.only P I pa pb s d c).inode t away)
  ]

  name_same : (t : ℕ) → t ≢ s → slot_name P Y t ≡ slot_name P C t
  unfolding slot_name
  name_same t other = ap name_in_words (slot_words-same P I Y t (λ f lt. elim (cases_eq t d) [
    | inl e ↦ subst (λ (u : ℕ). word Y (slot_word_of P u (2 + f)) ≡ word I (slot_word_of P u (2 + f))) (sym e) (keeps.name (2 + f) (omega arith) (omega (arith, lt)))
    | inr away ↦ keeps.slots t (2 + f) other away (omega (arith, lt))
  ]) ∙ sym ((here.only P I pa pb s d c).words t))

  -- a page of a held slot stays
  kept_page : (t : ℕ) → IsHeld P Y t → ¬ Out (page_of_slot t)
  unfolding slot_owner
  kept_page t held out = held.owned (keeps.unowned (page_of_slot t) out)

  held_there : (t : ℕ) → IsHeld P Y t → IsHeld P C t
  held_there t held = here.held_forward P I pa pb s d c t (held_back keeps.paged t (kept_page t held) held)

  owner_there : (t : ℕ) → IsHeld P Y t → slot_owner P C t ≡ slot_owner P Y t
  owner_there t held =
      let was = held_back keeps.paged t (kept_page t held) held in
      here.owner_same P I pa pb s d c t was.in_range ∙ sym (held_owner_same keeps.paged t was (kept_page t held))

  points_source : (t q : ℕ) → IsHeld P C q → slot_pointer P C q ≡ t + 1 → t ≡ s
  points_source t q held points =
      let same = (here.only P I pa pb s d c).pointer q in
      elim (cases_eq q d) [
        | inl e ↦ (let mine = ap (λ (u : ℕ). slot_pointer P I u) (sym e) ∙ sym same ∙ points in let at = c.pointer in omega (arith, mine, at))
        | inr away ↦ (let zero = same ∙ c.alone q (here.held_back P I pa pb s d c q held) away in omega (arith, zero, points))
      ]

  was_entry : (e t : ℕ) (bytes : List ℕ) → IsEntryOf P Y e bytes t → IsEntryOf P C e bytes t
  was_entry e t bytes is =
      let other : t ≢ s = λ same. is.slot.live.names (ap (λ (u : ℕ). slot_inode P Y u) same ∙ keeps.source) in
      entry_stays P Y C (reached_back P C Y coherent_there means) (λ i r two. directory_back P C Y coherent_there means i (reached_back P C Y coherent_there means i r) two) e t bytes is
      (held_there t is.slot.live.held) (owner_there t is.slot.live.held) (sym (number_same t other)) (sym (name_same t other)) (λ q held points. absurd (other (points_source t q held points)))

  pub entries_behind : (e t : ℕ) (bytes : List ℕ) → IsEntryOf P C e bytes t ↔ IsEntryOf P Y e bytes t
  entries_behind = entries_were P C Y coherent_there means.coherent means.names was_entry

-- ---- a move

module _ {P : ℕ} {W : List ℕ} {state : State} (from to : Route) {moving : Moving} (at : IsMovingAt P W state from to moving) (pages : List ℕ) (are : AreGonePages P W moving.replaced pages) (I : List ℕ)
    (ready : IsMoveReady P W I (Moves.from_way from to at) (Moves.to_way from to at) moving.from_slot moving.to_directory moving.to_slot (target_of moving) (rising_of moving)) where
  abbrev pa : Route
  pa = Moves.from_way from to at

  abbrev pb : Route
  pb = Moves.to_way from to at

  abbrev s : ℕ
  s = moving.from_slot

  abbrev x : ℕ
  x = moving.to_directory

  abbrev d : ℕ
  d = moving.to_slot

  abbrev pub committed : List ℕ
  committed = moved P I s d

  can : CanMove P I pa pb s d
  can = ready.can_move

  pub coherent_behind : IsCoherent P committed
  coherent_behind = (here.after P I pa pb s d can).coherent

  -- ---- what goes

  entries_moved : HasEntryMoved P W committed s x d (target_of moving)
  entries_moved = moved_entry_law P W I pa pb s x d (target_of moving) (rising_of moving) ready

  number_is : number_of moving.replaced ≡ old_number (target_of moving)
  number_is = Gone.number_is moving moving.replaced moving.new_page

  -- a page of a node that goes is as at the begin
  owner_by : (replaced : Option Loss) (page : Option ℕ) → goes_of replaced ≡ true → (j : ℕ) → near.IsOpenedPage (target_by moving replaced page) j → ⊥
  owner_by None page goes j is = absurd (false≢true goes)
  owner_by (Some loss) page goes j is = is

  owner_same : goes_of moving.replaced ≡ true → (j : ℕ) → j < data_pages_of P → page_owner P committed j ≡ page_owner P W j
  owner_same goes j lt = (here.only P I pa pb s d can).owner j lt ∙ near.owner_same P W I pa pb s x d (target_of moving) (rising_of moving) ready j lt (owner_by moving.replaced moving.new_page goes j)

  pub source_reached : Reached P committed (slot_owner P W s) × IsDirectory committed (slot_owner P W s)
  source_reached =
      let owner = near.source_owner P W I pa pb s x d (target_of moving) (rising_of moving) ready in
      let reached = here.source_owner_reached P I pa pb s d can in (
        subst (Reached P committed) owner reached,
        ap (inode_kind committed) (sym owner) ∙ here.kind_same P I pa pb s d can (slot_owner P I s) (pa, can.source_path) ∙ can.source_directory,
      )

  gives_by : (given : Option ℕ) → IsGivenBack (IsEmptiedBy P W moving) s given → GivesBackSource P W committed s given
  gives_by None busy = elim (dec_room P committed (slot_owner P W s) source_reached.0 source_reached.1 (page_of_slot s)) [
    | yes room ↦ room
    | no none ↦ absurd (busy (Emptied.emptied from to at I ready committed entries_moved none))
  ]
  gives_by (Some page) (empty, is) = (
    sym is,
    (λ room. Emptied.emptied_none from to at I ready committed entries_moved empty (subst (IsRoomOf P committed (slot_owner P W s)) is room)),
  )

  pub goes_with : GoesWithMove P W committed s x (target_of moving) moving.given_back pages (goes_of moving.replaced) (falling_of moving)
  goes_with = record {
    node = Gone.gone_when from to at I ready;
    distinct = apart_of pages are.distinct;
    pages_are = λ j. (
      (λ among.
          let (goes, page) = (are.among j).0 (in_contained j pages among) in
          (goes, record { in_range = page.in_range; owner = owner_same goes j page.in_range ∙ page.owner ∙ number_is })),
      (λ (goes, page). contained_in j pages ((are.among j).1 (goes, record { in_range = page.in_range; owner = sym (owner_same goes j page.in_range) ∙ page.owner ∙ sym number_is }))),
    );
    page = gives_by moving.given_back (Moves.for_move from to at).given_back;
    link = Moves.falls from to at;
  }

  abbrev pub all_pages : List ℕ
  all_pages = pages ++ pages_left moving.given_back

  -- what goes is what the laws give up
  pub in_given_up : (j : ℕ) → IsIn j all_pages → IsGivenUp P committed s (target_of moving) j
  in_given_up = gone_with.in_given_up P W I pa pb s x d (target_of moving) (rising_of moving) ready moving.given_back pages (goes_of moving.replaced) (falling_of moving) goes_with

  pub given_up_in : (j : ℕ) → IsGivenUp P committed s (target_of moving) j → IsIn j all_pages
  given_up_in = gone_with.given_up_in P W I pa pb s x d (target_of moving) (rising_of moving) ready moving.given_back pages (goes_of moving.replaced) (falling_of moving) goes_with

  abbrev pub left_moved : Residue
  left_moved = moved_left s d moving.given_back pages (goes_of moving.replaced) (number_of moving.replaced) (falling_of moving)

  abbrev pub left_given : Residue
  left_given = cleared_left all_pages (goes_of moving.replaced) (number_of moving.replaced)

  -- ---- the commit

  pub since_committed : IsQuietSince P committed committed left_moved
  since_committed = since_itself P committed left_moved coherent_behind
      (subst (λ (n : ℕ). IsTidyBeside P committed (moved_left s d moving.given_back pages (goes_of moving.replaced) n (falling_of moving))) (sym number_is)
      (moved_law P W I pa pb s x d (target_of moving) (rising_of moving) moving.given_back pages (goes_of moving.replaced) (falling_of moving) ready goes_with))

  -- ---- slot s gives up its number

  abbrev D : List ℕ
  D = left P I s d

  only_left : OnlySlot P committed D s
  only_left = only P committed s 0 coherent_behind

  word_left : (a : ℕ) → a ≢ slot_word_of P s 0 → a ≢ slot_word_of P d 0 → word D a ≡ word I a
  word_left = words.left_word P I pa pb s d can

  -- where no descriptor changes from I
  no_page : ℕ → Type 0
  no_page j = ⊥

  others_left : KeepsOthers P I D s d no_page
  unfolding no_page
  others_left = record {
    slots = λ t f other away lt. word_left (slot_word_of P t f) (slot-ne_slot P t f s 0 lt (omega arith) other) (slot-ne_slot P t f d 0 lt (omega arith) away);
    number = only_left.inode d (λ e. here.apart P I pa pb s d can (sym e)) ∙ here.number_new P I pa pb s d can;
    name = λ f low lt. word_left (slot_word_of P d f) (slot-ne_field P d f s 0 lt (omega arith) (λ e. omega (arith, e, low))) (slot-ne_field P d f d 0 lt (omega arith) (λ e. omega (arith, e, low)));
    source = words.left_number P I pa pb s d can;
    paged = by_words P I D (λ j. ⊥) (λ j f lt l3 none. word_left (descriptor_word_of P j f) (descriptor-ne_slot P j f s 0 lt (in_descriptor I f l3)) (descriptor-ne_slot P j f d 0 lt (in_descriptor I f l3)));
    unowned = λ j none. absurd none;
  }

  left_means : SameMeaning P committed D
  left_means = words.same_left P I pa pb s d can

  pub since_left : IsQuietSince P committed D left_moved
  since_left = record {
    means = left_means;
    beside = subst (λ (n : ℕ). IsTidyBeside P D (moved_left s d moving.given_back pages (goes_of moving.replaced) n (falling_of moving))) (sym number_is)
        (left_law P W I pa pb s x d (target_of moving) (rising_of moving) moving.given_back pages (goes_of moving.replaced) (falling_of moving) ready goes_with);
    entries = entries_behind P I D pa pb s d can no_page others_left left_means;
    kinds = λ i least most. only_left.node_kind i most;
    paged = paged_slot only_left;
  }

  pub leaving : IsQuietStep P committed D left_moved left_moved
  leaving = quiet_step P committed committed D left_moved left_moved coherent_behind since_committed since_left (λ j among. among) only_left.size
      (λ M mix. leaving_law P W I M pa pb s x d (target_of moving) (rising_of moving) ready mix)

  -- ---- the pointer and slot s are cleared

  module _ (J : List ℕ) (clears : ClearsSource P (left P I s d) J s d (falling_of moving)) where
    is_cleared : IsCleared P W I J s x d (target_of moving) (falling_of moving)
    is_cleared = Given.cleared from to at I ready J clears

    has_cleared : HasCleared P I J s d
    has_cleared = intervals.has_cleared P W I pa pb s x d (target_of moving) (rising_of moving) ready J (falling_of moving) is_cleared

    paged_cleared : KeepsPages P I J no_page
    unfolding no_page
    paged_cleared = by_words P I J (λ j. ⊥) (λ j f lt l3 none. has_cleared.descriptors j f lt (in_descriptor I f l3))

    others_cleared : KeepsOthers P I J s d no_page
    unfolding slot_inode no_page
    others_cleared = record {
      slots = has_cleared.slots;
      number = has_cleared.number;
      name = has_cleared.name;
      source = has_cleared.source 0 (omega arith);
      paged = paged_cleared;
      unowned = λ j none. absurd none;
    }

    kind_cleared : (i : ℕ) → 1 ≤ i → i ≤ inodes_of P → inode_kind J i ≡ inode_kind committed i
    unfolding inode_kind
    kind_cleared i least most = has_cleared.inodes i 0 least most (omega arith) (λ e. omega (arith, e)) ∙ sym ((here.only P I pa pb s d can).node_kind i most)

    -- descriptors by those with the pointer
    paged_by : (Y : List ℕ) (Out : ℕ → Type 0) → KeepsPages P I Y Out → ((j : ℕ) → Out j → IsIn j all_pages) → KeepsPages P committed Y (λ j. IsIn j all_pages)
    paged_by Y Out kept among = paged_between (paged_slot (here.only P I pa pb s d can)) (paged_within kept among)

    pub since_cleared : IsQuietSince P committed J left_given
    unfolding no_page
    since_cleared = record {
      means = has_cleared.means;
      beside = subst (λ (n : ℕ). IsTidyBeside P J (cleared_left all_pages (goes_of moving.replaced) n)) (sym number_is)
          (move_cleared_law P W I J pa pb s x d (target_of moving) (rising_of moving) moving.given_back pages (goes_of moving.replaced) (falling_of moving) ready is_cleared goes_with);
      entries = entries_behind P I J pa pb s d can no_page others_cleared has_cleared.means;
      kinds = kind_cleared;
      paged = paged_by J no_page paged_cleared (λ j none. absurd none);
    }

    pub clearing : IsQuietStep P D J left_moved left_given
    clearing = quiet_step P committed D J left_moved left_given coherent_behind since_left since_cleared (λ j among. among) clears.size
        (λ M mix. clearing_law P W I J M pa pb s x d (target_of moving) (rising_of moving) (falling_of moving) ready is_cleared mix)

    -- ---- pages lose their owner

    module _ (G : List ℕ) (gives : GivesPages P J G (IsCut pages moving.given_back)) where
      is_given : IsGiven P W I J G s x d (target_of moving) (falling_of moving)
      is_given = Finished.given from to at pages are I ready J clears G gives

      given_means : SameMeaning P committed G
      given_means = intervals.means_given P W I pa pb s x d (target_of moving) (rising_of moving) ready J G (falling_of moving) is_given

      given_word : (a : ℕ) → ((j : ℕ) → j < data_pages_of P → a ≢ descriptor_word_of P j 0) → word G a ≡ word J a
      given_word a other = is_given.gives.others a (λ j given. other j given.in_range)

      paged_given : KeepsPages P I G (IsGivenUp P committed s (target_of moving))
      paged_given = by_words P I G (IsGivenUp P committed s (target_of moving)) (λ j f lt l3 out.
          is_given.gives.others (descriptor_word_of P j f) (λ k given e. out (subst (IsGivenUp P committed s (target_of moving)) (sym (descriptor_word-one P j f k 0 (in_descriptor I f l3) (omega arith) e).0) given))
          ∙ has_cleared.descriptors j f lt (in_descriptor I f l3))

      slot_given : (t f : ℕ) → word G (slot_word_of P t f) ≡ word J (slot_word_of P t f)
      slot_given t f = given_word (slot_word_of P t f) (λ j lt e. descriptor-ne_slot P j 0 t f lt (omega arith) (sym e))

      others_given : KeepsOthers P I G s d (IsGivenUp P committed s (target_of moving))
      unfolding slot_inode
      others_given = record {
        slots = λ t f other away lt. slot_given t f ∙ has_cleared.slots t f other away lt;
        number = slot_given d 0 ∙ has_cleared.number;
        name = λ f low lt. slot_given d f ∙ has_cleared.name f low lt;
        source = slot_given s 0 ∙ has_cleared.source 0 (omega arith);
        paged = paged_given;
        unowned = is_given.gives.owners;
      }

      kind_given : (i : ℕ) → 1 ≤ i → i ≤ inodes_of P → inode_kind G i ≡ inode_kind committed i
      unfolding inode_kind
      kind_given i least most = given_word (inode_word_of i 0) (λ j lt e. descriptor-ne_inode P j 0 i 0 least most (omega arith) (sym e)) ∙ kind_cleared i least most

      pub since_given : IsQuietSince P committed G left_given
      since_given = record {
        means = given_means;
        beside = subst (λ (n : ℕ). IsTidyBeside P G (cleared_left all_pages (goes_of moving.replaced) n)) (sym number_is)
            (move_given_law P W I J G pa pb s x d (target_of moving) (rising_of moving) moving.given_back pages (goes_of moving.replaced) (falling_of moving) ready is_given goes_with);
        entries = entries_behind P I G pa pb s d can (IsGivenUp P committed s (target_of moving)) others_given given_means;
        kinds = kind_given;
        paged = paged_by G (IsGivenUp P committed s (target_of moving)) paged_given given_up_in;
      }

      pub giving : IsQuietStep P J G left_given left_given
      giving = quiet_step P committed J G left_given left_given coherent_behind since_cleared since_given (λ j among. among) gives.size
          (λ M mix. giving_law P W I J G M pa pb s x d (target_of moving) (rising_of moving) (falling_of moving) ready is_given mix)
