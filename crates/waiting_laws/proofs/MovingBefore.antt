-- The steps of a move before its commit: none changes what the words at its begin mean. W are these words, A those with the new page, B those
-- with its owner, I those with the pointer.
use Rattle.std.proofs.Common.{◌≡◌, ◌≢◌, inl, inr, ℕ, ◌+◌, ◌<◌, ◌≤◌, List, Option, Some, None, refl, sym, ap, subst, ◌∙◌, arith}
use Rattle.std.proofs.lemmas.Bool.{cases_eq}
use Rattle.layout.specs.Geometry.{inodes_of, data_pages_of, page_of_slot, inode_word_of, descriptor_word_of, slot_word_of, page_word_of}
use Rattle.layout.specs.Fields.{word, descriptor_words, IsKindOrOffset, inode_kind, page_owner, slot_inode, slot_pointer, slot_name}
use Rattle.layout.specs.Name.{words_of_name, name_in_words}
use Rattle.tree_model.specs.PathText.{Route}
use Rattle.tree_model.specs.Tree.{Directory}
use Rattle.tree_model.specs.Run.{State}
use Rattle.image_reading.specs.Counts.{IsIn}
use Rattle.layout.proofs.Widths.{in_descriptor}
use Rattle.image_reading.specs.Reading.{IsDirectory, slot_owner, IsHeld, Reached, IsReachedSlot}
use Rattle.image_reading.specs.Residue.{Residue, no_residue, IsTidyBeside}
use Rattle.image_reading.specs.Soundness.{IsCoherent}
use Rattle.image_reading.proofs.Residues.{tidied_beside}
use Rattle.image_reading.proofs.Tidied.{tidied}
use Rattle.image_counts.specs.Entries.{IsEntryOf, IsFreePage}
use Rattle.image_laws.specs.Create.{MakesNamedPage, IsPageQuiet, owned}
use Rattle.image_laws.specs.Frame.{SameMeaning}
use Rattle.image_laws.proofs.Addresses.{descriptor-ne_inode, descriptor-ne_page, descriptor-ne_slot, page-ne_inode, page-ne_slot, descriptor_word-one}
use Rattle.image_laws.proofs.Free.{mix_itself}
use Rattle.image_laws.proofs.KeptPages.{KeepsPages, by_words, held_owner_same, held_forth, held_back}
use Rattle.image_laws.proofs.NewPage.{not_page_made}
use Rattle.image_laws.proofs.Ready.{tidy_but, no_pointer}
use Rattle.image_laws.proofs.Words.{other_word, slot_words-same}
use Rattle.rename_laws.specs.Target.{Target, Vacant, Opened, Taken, CanRename, CanTake, name_of}
use Rattle.rename_laws.specs.Ready.{IsTargetOpened, PointsAt, IsMoveReady}
use Rattle.rename_laws.proofs.MoveNear as near
use Rattle.rename_laws.proofs.MoveNear.{IsOpenedPage}
use Rattle.rename_laws.proofs.Opened as opened
use Rattle.rename_laws.proofs.Opened.{IsOpen}
use Rattle.rename_laws.proofs.Ready.{opening_law, ready_law}
use Rattle.weave_laws.specs.Naming.{pages_left}
use Rattle.moving_laws.specs.Moving.{new_page, pointed_left}
use Rattle.moving_laws.proofs.OpenedPage.{page_filled_law, page_owned_law}
use Rattle.moving_laws.proofs.Pointed.{pointed_law}
use Rattle.volume.specs.Entered.{pages_of_option}
use Rattle.volume.specs.Moves.{rising_of}
use Rattle.volume.specs.declared.plan.Loss.{Loss}
use Rattle.volume.specs.declared.plan.Moving.{Moving}
use Rattle.entry_steps.specs.Steps.{first_slot}
use Rattle.rename_ptr.specs.Steps.{target_by, target_of}
use Rattle.rename_ptr.specs.Renaming.{IsMovingAt}
use Rattle.rename_ptr.proofs.Begun as begun
use Rattle.rename_ptr.proofs.Moves
use Rattle.waiting_laws.proofs.MovingQuiet.{IsQuietSince, IsQuietStep, entries_stay, paged_within, since_itself, quiet_step}

-- what a new page leaves
abbrev pub paged_left : Moving → Residue
paged_left moving = record no_residue { pages = pages_of_option moving.new_page }

-- an entry stays whose slot does, where nothing that is held takes its number
pub entry_stays : (P : ℕ) (X Y : List ℕ) → ((i : ℕ) → Reached P X i → Reached P Y i) → ((i : ℕ) → Reached P X i → IsDirectory X i → IsDirectory Y i) → (d t : ℕ) (bytes : List ℕ) → IsEntryOf P X d bytes t
    → IsHeld P Y t → slot_owner P Y t ≡ slot_owner P X t → slot_inode P Y t ≡ slot_inode P X t → slot_name P Y t ≡ slot_name P X t
    → ((q : ℕ) → IsHeld P Y q → slot_pointer P Y q ≡ t + 1 → slot_inode P Y q ≢ slot_inode P Y t) → IsEntryOf P Y d bytes t
entry_stays P X Y reached directory d t bytes e held owner number name stays = record {
  slot = record {
    owner = subst (Reached P Y) (sym owner) (reached (slot_owner P X t) e.slot.owner);
    directory = subst (λ (i : ℕ). IsDirectory Y i) (sym owner) (directory (slot_owner P X t) e.slot.owner e.slot.directory);
    live = record { held = held; names = λ z. e.slot.live.names (sym number ∙ z); stays = stays };
  };
  owner = owner ∙ e.owner;
  name = name ∙ e.name;
}

-- what means the same reaches the same inodes, and the same directories
pub reached_forth : {P : ℕ} {X Y : List ℕ} → SameMeaning P X Y → (i : ℕ) → Reached P X i → Reached P Y i
reached_forth same i (p, a) = (p, (same.names p i).0 a)

pub directory_forth : {P : ℕ} {X Y : List ℕ} → SameMeaning P X Y → (i : ℕ) → Reached P X i → IsDirectory X i → IsDirectory Y i
directory_forth same i r two = (same.nodes i Directory r).0 two

module _ {P : ℕ} {W : List ℕ} {state : State} (from to : Route) {moving : Moving} (at : IsMovingAt P W state from to moving) where
  abbrev pa : Route
  pa = Moves.from_way from to at

  abbrev pb : Route
  pb = Moves.to_way from to at

  abbrev s : ℕ
  s = moving.from_slot

  abbrev x : ℕ
  x = moving.to_directory

  abbrev d : ℕ
  d = moving.to_slot

  abbrev name : List ℕ
  name = words_of_name moving.to_name

  coherent : IsCoherent P W
  coherent = Moves.coherent from to at

  -- ---- nothing was made

  pub since_begun : IsQuietSince P W W no_residue
  since_begun = since_itself P W no_residue coherent (tidied_beside (tidied at.tidy))

  -- ---- the new page

  target_with : (replaced : Option Loss) (page : ℕ) → moving.replaced ≡ replaced → moving.new_page ≡ Some page → target_by moving replaced (Some page) ≡ Opened page name
  target_with None page is some = refl
  target_with (Some loss) page is some = absurd (let none : ◌≡◌ {A = Option ℕ} None (Some page) = sym (Moves.target_at from to at loss is).2 ∙ some in cc)

  target_opened : (page : ℕ) → moving.new_page ≡ Some page → target_of moving ≡ Opened page name
  target_opened page some = ap (λ (o : Option ℕ). target_by moving moving.replaced o) some ∙ target_with moving.replaced page refl some

  -- a move with a new page replaces no node
  none_by : (replaced : Option Loss) (page : ℕ) → moving.replaced ≡ replaced → moving.new_page ≡ Some page → moving.replaced ≡ None
  none_by None page is some = is
  none_by (Some loss) page is some = absurd (let none : ◌≡◌ {A = Option ℕ} None (Some page) = sym (Moves.target_at from to at loss is).2 ∙ some in cc)

  pub none_replaced : (page : ℕ) → moving.new_page ≡ Some page → moving.replaced ≡ None
  none_replaced page some = none_by moving.replaced page refl some

  -- the pages that are left don't change with the pointer
  pages_by : (replaced : Option Loss) (page : Option ℕ) → moving.replaced ≡ replaced → moving.new_page ≡ page → pages_left (new_page (target_by moving replaced page)) ≡ pages_of_option page
  pages_by None None is none = refl
  pages_by None (Some page) is some = refl
  pages_by (Some loss) None is none = refl
  pages_by (Some loss) (Some page) is some = absurd (let none : ◌≡◌ {A = Option ℕ} None (Some page) = sym (Moves.target_at from to at loss is).2 ∙ some in cc)

  pub pages_same : pages_left (new_page (target_of moving)) ≡ pages_of_option moving.new_page
  pages_same = pages_by moving.replaced moving.new_page refl refl

  module _ (page : ℕ) (some : moving.new_page ≡ Some page) (A : List ℕ) (filled : MakesNamedPage P W A page (first_slot page) name) where
    can : CanRename P W pa pb s x d (Opened page name)
    can = subst (CanRename P W pa pb s x d) (target_opened page some) (Moves.can_rename from to at)

    makes : MakesNamedPage P W A page d name
    makes = subst (λ (slot : ℕ). MakesNamedPage P W A page slot name) (sym (Moves.place_at from to at (none_replaced page some) (Some page) some).slot_is) filled

    free : IsFreePage P W page
    free = can.target_slot.1

    quiet : IsPageQuiet P W A (owned P A page x)
    quiet = opening_law P W A pa pb s x d page name can makes

    filled_means : SameMeaning P W A
    filled_means = quiet.making A (mix_itself W A makes.size)

    same_word : (a : ℕ) → ((w : ℕ) → w < 512 → a ≢ page_word_of P page w) → ((f : ℕ) → IsKindOrOffset f → a ≢ descriptor_word_of P page f) → word A a ≡ word W a
    same_word a inside descriptor = makes.others a (not_page_made P page a inside descriptor)

    descriptor_same : (k f : ℕ) → k < data_pages_of P → f < descriptor_words W → k ≢ page → word A (descriptor_word_of P k f) ≡ word W (descriptor_word_of P k f)
    descriptor_same k f lt l3 other = same_word (descriptor_word_of P k f) (λ w l. descriptor-ne_page P k f page w lt (in_descriptor W f l3))
        (λ g which e. other (descriptor_word-one P k f page g (in_descriptor W f l3) (omega (arith, which)) e).0)

    slot_same : (t f : ℕ) → f < 16 → page_of_slot t ≢ page → word A (slot_word_of P t f) ≡ word W (slot_word_of P t f)
    slot_same t f lt beside = same_word (slot_word_of P t f)
        (λ w l e. page-ne_slot P page w t f l lt (λ z. beside (sym z)) (sym e))
        (λ g which e. descriptor-ne_slot P page g t f free.0 (omega (arith, which)) (sym e))

    kind_same : (i : ℕ) → 1 ≤ i → i ≤ inodes_of P → inode_kind A i ≡ inode_kind W i
    unfolding inode_kind
    kind_same i least most = same_word (inode_word_of i 0)
        (λ w l e. page-ne_inode P page w i 0 least most (omega arith) (sym e))
        (λ g which e. descriptor-ne_inode P page g i 0 least most (omega arith) (sym e))

    paged : KeepsPages P W A (λ k. k ≡ page)
    paged = by_words P W A (λ k. k ≡ page) descriptor_same

    held_beside : (t : ℕ) → IsHeld P W t → page_of_slot t ≢ page
    unfolding slot_owner
    held_beside t held here = held.owned (ap (page_owner P W) here ∙ free.1)

    number_same : (t : ℕ) → page_of_slot t ≢ page → slot_inode P A t ≡ slot_inode P W t
    unfolding slot_inode
    number_same t beside = slot_same t 0 (omega arith) beside

    pointer_same : (t : ℕ) → page_of_slot t ≢ page → slot_pointer P A t ≡ slot_pointer P W t
    unfolding slot_pointer
    pointer_same t beside = slot_same t 1 (omega arith) beside

    name_same : (t : ℕ) → page_of_slot t ≢ page → slot_name P A t ≡ slot_name P W t
    unfolding slot_name
    name_same t beside = ap name_in_words (slot_words-same P W A t (λ f lt. slot_same t (2 + f) (omega (arith, lt)) beside))

    points_none : (t q : ℕ) → IsHeld P A q → slot_pointer P A q ≡ t + 1 → ⊥
    points_none t q held points =
        let beside : page_of_slot q ≢ page = λ here. (let zero = makes.pointers q here in omega (arith, zero, points)) in
        let zero = pointer_same q beside ∙ no_pointer P W 0 (tidy_but P W 0 (tidied at.tidy)) q (held_back paged q beside held) in
        omega (arith, zero, points)

    filled_entry : (e t : ℕ) (bytes : List ℕ) → IsEntryOf P W e bytes t → IsEntryOf P A e bytes t
    filled_entry e t bytes is =
        let beside = held_beside t is.slot.live.held in
        entry_stays P W A (reached_forth filled_means) (directory_forth filled_means) e t bytes is (held_forth paged t beside is.slot.live.held)
        (held_owner_same paged t is.slot.live.held beside) (number_same t beside) (name_same t beside) (λ q held points. absurd (points_none t q held points))

    page_listed : (j : ℕ) → j ≡ page → IsIn j (pages_of_option moving.new_page)
    page_listed j e = subst (λ (o : Option ℕ). IsIn j (pages_of_option o)) (sym some) (inl e)

    pub since_filled : IsQuietSince P W A (paged_left moving)
    since_filled = record {
      means = filled_means;
      beside = subst (λ (o : Option ℕ). IsTidyBeside P A (record no_residue { pages = pages_of_option o })) (sym some) (page_filled_law P W A pa pb s x d page name can makes);
      entries = entries_stay P W A coherent filled_means.coherent filled_means.names filled_entry;
      kinds = kind_same;
      paged = paged_within paged page_listed;
    }

    pub filling : IsQuietStep P W A no_residue (paged_left moving)
    filling = quiet_step P W W A no_residue (paged_left moving) coherent since_begun since_filled (λ j none. absurd none) makes.size quiet.making

    -- ---- its owner

    abbrev B : List ℕ
    B = owned P A page x

    is_open : IsOpen P W B x d (Opened page name)
    is_open = opened.opened P W B pa pb s x d (Opened page name) can (A, makes, refl)

    owned_word : (a : ℕ) → a ≢ descriptor_word_of P page 0 → word B a ≡ word A a
    owned_word a other = other_word A (descriptor_word_of P page 0) x a other

    owned_descriptor : (k f : ℕ) → k < data_pages_of P → f < descriptor_words W → k ≢ page → word B (descriptor_word_of P k f) ≡ word W (descriptor_word_of P k f)
    owned_descriptor k f lt l3 other =
        owned_word (descriptor_word_of P k f) (λ e. other (descriptor_word-one P k f page 0 (in_descriptor W f l3) (omega arith) e).0) ∙ descriptor_same k f lt l3 other

    owned_paged : KeepsPages P W B (λ k. k ≡ page)
    owned_paged = by_words P W B (λ k. k ≡ page) owned_descriptor

    owned_kind : (i : ℕ) → 1 ≤ i → i ≤ inodes_of P → inode_kind B i ≡ inode_kind W i
    unfolding inode_kind
    owned_kind i least most = is_open.inodes i 0 least most (omega arith)

    owned_entry : (e t : ℕ) (bytes : List ℕ) → IsEntryOf P W e bytes t → IsEntryOf P B e bytes t
    owned_entry e t bytes is = record { slot = is_open.kept t is.slot; owner = is_open.owners t is.slot ∙ is.owner; name = is_open.names t is.slot ∙ is.name }

    pub since_owned : IsQuietSince P W B (paged_left moving)
    since_owned = record {
      means = is_open.means;
      beside = subst (λ (o : Option ℕ). IsTidyBeside P B (record no_residue { pages = pages_of_option o })) (sym some) (page_owned_law P W A pa pb s x d page name can makes);
      entries = entries_stay P W B coherent is_open.means.coherent is_open.means.names owned_entry;
      kinds = owned_kind;
      paged = paged_within owned_paged page_listed;
    }

    pub owning : IsQuietStep P A B (paged_left moving) (paged_left moving)
    owning = quiet_step P W A B (paged_left moving) (paged_left moving) coherent since_filled since_owned (λ j among. among) (is_open.size ∙ sym makes.size) quiet.owning

  -- ---- the pointer

  -- a reached slot that takes the number has its name
  pub old_name : (target : Target) → CanTake P W pb s x d target → IsReachedSlot P W d → name_of P W d target ≡ slot_name P W d
  unfolding slot_owner
  old_name (Vacant new) take slot = absurd (slot.live.names take.1.free)
  old_name (Opened page new) take slot = absurd (slot.live.held.owned (ap (page_owner P W) take.2 ∙ take.1.1))
  old_name (Taken r) take slot = refl

  module _ (B : List ℕ) (is_opened : IsTargetOpened P W B x d (target_of moving)) (I : List ℕ) (points : PointsAt P B I s d (target_of moving) (rising_of moving)) where
    pub ready : IsMoveReady P W I pa pb s x d (target_of moving) (rising_of moving)
    ready = begun.ready from to at B is_opened I points

    kept_name : (t : ℕ) → IsReachedSlot P W t → slot_name P I t ≡ slot_name P W t
    unfolding slot_name
    kept_name t slot = elim (cases_eq t d) [
      | inl e ↦
          ap (λ (u : ℕ). slot_name P I u) e ∙ ready.name_is ∙ old_name (target_of moving) ready.can.target_slot (subst (IsReachedSlot P W) e slot) ∙ ap (λ (u : ℕ). slot_name P W u) (sym e)
      | inr other ↦ ap name_in_words (slot_words-same P W I t (λ f lt.
          near.slot_word_same P W I pa pb s x d (target_of moving) (rising_of moving) ready t (2 + f) (omega (arith, lt)) other
          (near.held_old P W I pa pb s x d (target_of moving) (rising_of moving) ready t slot.live.held)))
    ]

    pointed_entry : (e t : ℕ) (bytes : List ℕ) → IsEntryOf P W e bytes t → IsEntryOf P I e bytes t
    pointed_entry e t bytes is = record {
      slot = near.slot_forth P W I pa pb s x d (target_of moving) (rising_of moving) ready t is.slot;
      owner = near.owner_slot P W I pa pb s x d (target_of moving) (rising_of moving) ready t is.slot.live.held ∙ is.owner;
      name = kept_name t is.slot ∙ is.name;
    }

    pointed_kind : (i : ℕ) → 1 ≤ i → i ≤ inodes_of P → inode_kind I i ≡ inode_kind W i
    unfolding inode_kind
    pointed_kind i least most = near.inode_same P W I pa pb s x d (target_of moving) (rising_of moving) ready i 0 least most (omega arith) (inr (λ e. omega (arith, e)))

    opened_left : (target : Target) (j : ℕ) → IsOpenedPage target j → IsIn j (pages_left (new_page target))
    opened_left (Vacant new) j is = is
    opened_left (Opened page new) j is = inl is
    opened_left (Taken r) j is = is

    pub since_pointed : IsQuietSince P W I (pointed_left d (target_of moving) (rising_of moving))
    since_pointed = record {
      means = ready.means;
      beside = pointed_law P W I pa pb s x d (target_of moving) (rising_of moving) ready;
      entries = entries_stay P W I coherent ready.means.coherent ready.means.names pointed_entry;
      kinds = pointed_kind;
      paged = paged_within (near.paged P W I pa pb s x d (target_of moving) (rising_of moving) ready) (opened_left (target_of moving));
    }

    pub pointing : (before : Residue) → IsQuietSince P W B before → before.pages ≡ pages_of_option moving.new_page → IsQuietStep P B I before (pointed_left d (target_of moving) (rising_of moving))
    pointing before since same =
        quiet_step P W B I before (pointed_left d (target_of moving) (rising_of moving)) coherent since since_pointed
        (λ j among. subst (λ (l : List ℕ). IsIn j l) (same ∙ sym pages_same) among) points.size
        (ready_law P W B I pa pb s x d (target_of moving) (rising_of moving) (Moves.can_rename from to at) (Moves.rises from to at) is_opened points).pointing
