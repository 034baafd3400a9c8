-- Before the commit of a rename nothing is to be repaired but slot d, its page and the count that has risen.
use Rattle.std.proofs.Common.{◌≡◌, ◌≢◌, ◌↔◌, ◌⊎◌, inl, inr, ℕ, ◌+◌, ◌<◌, ◌≤◌, List, Option, Some, None, refl, sym, ap, subst, ◌∙◌, arith}
use Rattle.std.proofs.lemmas.Bool.{cases_eq}
use Rattle.layout.specs.Fields.{word, inode_kind, inode_links, inode_size, page_owner, page_offset, slot_inode, slot_name, slot_pointer}
use Rattle.layout.specs.Name.{name_in_words}
use Rattle.layout.specs.Geometry.{inodes_of, data_pages_of, page_of_slot, inode_word_of, descriptor_word_of, slot_word_of}
use Rattle.layout.proofs.Widths.{in_inode, in_descriptor, same_inode_words}
use Rattle.tree_model.specs.PathText.{Route}
use Rattle.image_reading.specs.Counts.{Count}
use Rattle.image_reading.specs.Litter.{IsZeroSlot}
use Rattle.image_reading.specs.Reading.{HasBytes, IsDirectory, slot_owner, IsHeld, IsLive, Reached, IsReachedSlot, IsNameOf, IsChildOf, IsLinkCount, IsRoomOf, pages_of_size}
use Rattle.image_reading.specs.Repairs.{IsLitterPage, IsLitterInode}
use Rattle.image_reading.specs.Soundness.{Rule}
use Rattle.image_reading.proofs.Credits.{count_same}
use Rattle.image_counts.proofs.Counting.{none_counted}
use Rattle.image_counts.proofs.Decided.{room_owner}
use Rattle.image_counts.proofs.Links.{links_counted, link_word_law}
use Rattle.image_counts.proofs.Paths.{in_range}
use Rattle.image_laws.specs.Move.{CanMove}
use Rattle.image_laws.proofs.Addresses.{head-ne_inode, head-ne_slot, head-ne_descriptor, head-ne_page, descriptor-ne_inode, descriptor-ne_page, descriptor-ne_slot, inode-ne_slot, page-ne_inode, page-ne_slot, slot-ne_slot, descriptor_word-one, inode_word-one}
use Rattle.image_laws.proofs.KeptPages as pages
use Rattle.image_laws.proofs.KeptPages.{KeepsPages, KeepsDescriptors, by_words, held_owner_same, held_forth, held_back}
use Rattle.image_laws.proofs.KeptSlots as slot_laws
use Rattle.image_laws.proofs.KeptSlots.{KeepsSlots}
use Rattle.image_laws.proofs.Paths.{reach}
use Rattle.image_laws.proofs.Ready.{tidy_but, no_pointer, held_room, dead_zero}
use Rattle.image_laws.proofs.Rooms.{room_law}
use Rattle.image_laws.proofs.Trees.{tree_law}
use Rattle.image_laws.proofs.Words.{slot_words-same}
use Rattle.rename_laws.specs.Target.{Target, Vacant, Opened, Taken, CanTake, Holds, IsRising, IsFalling, old_number}
use Rattle.rename_laws.specs.Ready.{IsTargetWord, HasNewPage, IsMoveReady}
use Rattle.image_laws.specs.Links.{IsLinkWord, Rises}
use Rattle.rename_laws.proofs.MovedCounts.{IsRaised, IsLowered, IsAlmostTidy}
use Rattle.rename_laws.proofs.MovedNames as here

-- ---- what is new, by the target

-- page j is new
abbrev pub IsOpenedPage : Target → ℕ → Type 0
IsOpenedPage (Vacant name) j = ⊥
IsOpenedPage (Opened page name) j = j ≡ page
IsOpenedPage (Taken r) j = ⊥

pub opened_or_not : (target : Target) (j : ℕ) → IsOpenedPage target j ⊎ (IsOpenedPage target j → ⊥)
opened_or_not (Vacant name) j = inr (λ h. h)
opened_or_not (Opened page name) j = elim (cases_eq j page) [ inl e ↦ inl e | inr ne ↦ inr ne ]
opened_or_not (Taken r) j = inr (λ h. h)

module _ (P : ℕ) (W : List ℕ) (pb : Route) (s x d : ℕ) where
  other_slot : (target : Target) (t f : ℕ) → CanTake P W pb s x d target → f < 16 → t ≢ d → (IsOpenedPage target (page_of_slot t) → ⊥)
      → IsTargetWord P W d target (slot_word_of P t f) → ⊥
  other_slot (Vacant name) t f can lt ne old (k, l, e) = slot-ne_slot P t f d (2 + k) lt (omega (arith, l)) ne e
  other_slot (Opened page name) t f can lt ne old h = elim h [
    | inl (w, l, e) ↦ page-ne_slot P page w t f l lt (λ z. old (sym z)) (sym e)
    | inr (g, l, e) ↦ descriptor-ne_slot P page g t f can.1.0 (in_descriptor W g l) (sym e)
  ]
  other_slot (Taken r) t f can lt ne old h = h

  other_descriptor : (target : Target) (j f : ℕ) → CanTake P W pb s x d target → j < data_pages_of P → f < 8 → (IsOpenedPage target j → ⊥)
      → IsTargetWord P W d target (descriptor_word_of P j f) → ⊥
  other_descriptor (Vacant name) j f can lt l8 old (k, l, e) = descriptor-ne_slot P j f d (2 + k) lt l8 e
  other_descriptor (Opened page name) j f can lt l8 old h = elim h [
    | inl (w, l, e) ↦ descriptor-ne_page P j f page w lt l8 e
    | inr (g, l, e) ↦ old (descriptor_word-one P j f page g l8 (in_descriptor W g l) e).0
  ]
  other_descriptor (Taken r) j f can lt l8 old h = h

  other_inode : (target : Target) (y f : ℕ) → CanTake P W pb s x d target → 1 ≤ y → y ≤ inodes_of P → f < 16
      → IsTargetWord P W d target (inode_word_of y f) → ⊥
  other_inode (Vacant name) y f can some most lt (k, l, e) = inode-ne_slot P y f d (2 + k) some most lt e
  other_inode (Opened page name) y f can some most lt h = elim h [
    | inl (w, l, e) ↦ page-ne_inode P page w y f some most lt (sym e)
    | inr (g, l, e) ↦ descriptor-ne_inode P page g y f some most lt (sym e)
  ]
  other_inode (Taken r) y f can some most lt h = h

  other_head : (target : Target) (a : ℕ) → a < 512 → IsTargetWord P W d target a → ⊥
  other_head (Vacant name) a low (k, l, e) = head-ne_slot P d (2 + k) a low e
  other_head (Opened page name) a low h = elim h [
    | inl (w, l, e) ↦ head-ne_page P page w a low e
    | inr (g, l, e) ↦ head-ne_descriptor P page g a low e
  ]
  other_head (Taken r) a low h = h

  pub unowned : (target : Target) (j : ℕ) → CanTake P W pb s x d target → IsOpenedPage target j → page_owner P W j ≡ 0
  unowned (Vacant name) j can new = absurd new
  unowned (Opened page name) j can new = ap (page_owner P W) new ∙ can.1.1
  unowned (Taken r) j can new = absurd new

  pub opened_here : (target : Target) (j : ℕ) → CanTake P W pb s x d target → IsOpenedPage target j → j ≡ page_of_slot d
  opened_here (Vacant name) j can new = absurd new
  opened_here (Opened page name) j can new = new ∙ sym can.2
  opened_here (Taken r) j can new = absurd new

  opened_zeros : (I : List ℕ) (target : Target) (t : ℕ) → HasNewPage P I x d target → IsOpenedPage target (page_of_slot t) → t ≢ d
      → IsZeroSlot P I t
  opened_zeros I (Vacant name) t page new ne = absurd new
  opened_zeros I (Opened j name) t page new ne = page.zeros t new ne
  opened_zeros I (Taken r) t page new ne = absurd new

  opened_number : (target : Target) (j : ℕ) → IsOpenedPage target j → old_number target ≡ 0
  opened_number (Vacant name) j new = absurd new
  opened_number (Opened page name) j new = refl
  opened_number (Taken r) j new = absurd new

  -- a slot d that is held before has the number that it gives up
  held_number : (target : Target) → CanTake P W pb s x d target → (IsOpenedPage target (page_of_slot d) → ⊥)
      → slot_inode P W d ≡ old_number target
  held_number (Vacant name) can old = can.1.free
  held_number (Opened page name) can old = absurd (old can.2)
  held_number (Taken r) can old = can.number

  held_owner : (target : Target) → CanTake P W pb s x d target → (IsOpenedPage target (page_of_slot d) → ⊥)
      → IsHeld P W d × (slot_owner P W d ≡ x)
  held_owner (Vacant name) can old = (can.1.held, can.1.owner)
  held_owner (Opened page name) can old = absurd (old can.2)
  held_owner (Taken r) can old = (can.entry.0.live.held, can.entry.1)

  replaced_kind : (target : Target) → CanTake P W pb s x d target → old_number target ≢ 0
      → inode_kind W (old_number target) ≡ inode_kind W (slot_inode P W s)
  replaced_kind (Vacant name) can some = absurd (some refl)
  replaced_kind (Opened page name) can some = absurd (some refl)
  replaced_kind (Taken r) can some = can.same_kind

  -- ---- links

  -- the rising inode is the new parent of a directory that replaces none
  risen_is : (target : Target) (y : ℕ) → IsRising P W s x target y
      → (IsDirectory W (slot_inode P W s)) × (slot_owner P W s ≢ x) × (old_number target ≡ 0) × (y ≡ x)
  risen_is (Vacant name) y rises = (rises.0.directory, rises.0.leaves, refl, rises.1)
  risen_is (Opened page name) y rises = (rises.0.directory, rises.0.leaves, refl, rises.1)
  risen_is (Taken r) y rises = absurd rises

  is_risen : (target : Target) (y : ℕ) → CanTake P W pb s x d target
      → IsDirectory W (slot_inode P W s) → slot_owner P W s ≢ x → old_number target ≡ 0 → y ≡ x → IsRising P W s x target y
  is_risen (Vacant name) y can dir leaves none e = (record { directory = dir; leaves = leaves }, e)
  is_risen (Opened page name) y can dir leaves none e = (record { directory = dir; leaves = leaves }, e)
  is_risen (Taken r) y can dir leaves none e = absurd (can.entry.0.live.names (can.number ∙ none))

  -- the falling inode is told of the words before the commit
  falling_is : (target : Target) (y : ℕ) → CanTake P W pb s x d target → IsFalling P W s x target y
      → (IsDirectory W (slot_inode P W s) × ((slot_owner P W s ≢ x) ⊎ (old_number target ≢ 0)) × (y ≡ slot_owner P W s))
      ⊎ (HasBytes W (slot_inode P W s) × (old_number target ≢ 0) × (y ≡ old_number target))
  falling_is (Vacant name) y can falls = inl (falls.0.directory, inl falls.0.leaves, falls.1)
  falling_is (Opened page name) y can falls = inl (falls.0.directory, inl falls.0.leaves, falls.1)
  falling_is (Taken r) y can falls =
      let some : r ≢ 0 = λ z. can.entry.0.live.names (can.number ∙ z) in
      elim falls [
        | inl dir ↦ inl (sym can.same_kind ∙ dir.0, inr some, dir.1)
        | inr file ↦ inr (sym can.same_kind ∙ file.0, some, file.1)
      ]

  is_falling : (target : Target) (y : ℕ) → CanTake P W pb s x d target
      → (IsDirectory W (slot_inode P W s) × ((slot_owner P W s ≢ x) ⊎ (old_number target ≢ 0)) × (y ≡ slot_owner P W s))
      ⊎ (HasBytes W (slot_inode P W s) × (old_number target ≢ 0) × (y ≡ old_number target)) → IsFalling P W s x target y
  is_falling (Vacant name) y can h = elim h [
    | inl (dir, why, e) ↦ elim why [ inl leaves ↦ (record { directory = dir; leaves = leaves }, e) | inr some ↦ absurd (some refl) ]
    | inr (file, some, e) ↦ absurd (some refl)
  ]
  is_falling (Opened page name) y can h = elim h [
    | inl (dir, why, e) ↦ elim why [ inl leaves ↦ (record { directory = dir; leaves = leaves }, e) | inr some ↦ absurd (some refl) ]
    | inr (file, some, e) ↦ absurd (some refl)
  ]
  is_falling (Taken r) y can h = elim h [
    | inl (dir, why, e) ↦ inl (can.same_kind ∙ dir, e)
    | inr (file, some, e) ↦ inr (can.same_kind ∙ file, e)
  ]

module _ (P : ℕ) (W I : List ℕ) (pa pb : Route) (s x d : ℕ) (target : Target) (rising : Option ℕ) (ready : IsMoveReady P W I pa pb s x d target rising) where
  c : CanMove P I pa pb s d
  c = ready.can_move

  take : CanTake P W pb s x d target
  take = ready.can.target_slot

  -- ---- what is reached

  pub forth : (y : ℕ) → Reached P W y → Reached P I y
  forth y (q, b) = (q, (ready.means.names q y).0 b)

  pub back : (y : ℕ) → Reached P I y → Reached P W y
  back y (q, b) = (q, (ready.means.names q y).1 b)

  range : (y : ℕ) → Reached P W y → (1 ≤ y) × (y ≤ inodes_of P)
  range y r = in_range P W ready.can.tidy.coherent y r

  -- ---- words

  -- a link word is that of x
  link_word : (r : Option ℕ) → Holds (IsRising P W s x target) r → (a : ℕ) → IsLinkWord r a → a ≡ inode_word_of x 1
  link_word None holds a is = absurd is
  link_word (Some y) holds a is = is ∙ ap (λ z. inode_word_of z 1) (risen_is P W pb s x d target y holds).3

  other_link : (a : ℕ) → a ≢ inode_word_of x 1 → IsLinkWord rising a → ⊥
  other_link a ne is = ne (link_word rising ready.rises a is)

  x_reached : Reached P W x
  x_reached = (pb, ready.can.target_path)

  pub slot_word_same : (t f : ℕ) → f < 16 → t ≢ d → (IsOpenedPage target (page_of_slot t) → ⊥)
      → word I (slot_word_of P t f) ≡ word W (slot_word_of P t f)
  slot_word_same t f lt ne old =
      ready.others (slot_word_of P t f) (slot-ne_slot P t f d 1 lt (omega arith) ne) (other_slot P W pb s x d target t f take lt ne old)
      (other_link (slot_word_of P t f) (λ e. inode-ne_slot P x 1 t f (range x x_reached).0 (range x x_reached).1 (omega arith) (sym e)))

  pub descriptor_same : (j f : ℕ) → j < data_pages_of P → f < 8 → (IsOpenedPage target j → ⊥)
      → word I (descriptor_word_of P j f) ≡ word W (descriptor_word_of P j f)
  descriptor_same j f lt l8 old =
      ready.others (descriptor_word_of P j f) (descriptor-ne_slot P j f d 1 lt l8) (other_descriptor P W pb s x d target j f take lt l8 old)
      (other_link (descriptor_word_of P j f) (descriptor-ne_inode P j f x 1 (range x x_reached).0 (range x x_reached).1 (omega arith)))

  pub inode_same : (y f : ℕ) → 1 ≤ y → y ≤ inodes_of P → f < 16 → (y ≢ x) ⊎ (f ≢ 1) → word I (inode_word_of y f) ≡ word W (inode_word_of y f)
  inode_same y f some most lt other =
      ready.others (inode_word_of y f) (inode-ne_slot P y f d 1 some most lt) (other_inode P W pb s x d target y f take some most lt)
      (other_link (inode_word_of y f) (λ e.
      let (same, field) = inode_word-one y f x 1 some (range x x_reached).0 lt (omega arith) e in
      elim other [ inl ne ↦ ne same | inr ne ↦ ne field ]))

  version : word I 1 ≡ word W 1
  version = ready.others 1 (head-ne_slot P d 1 1 (omega arith)) (other_head P W pb s x d target 1 (omega arith)) (other_link 1 (head-ne_inode x 1 1 (omega arith)))

  kept_words : KeepsDescriptors P W I (IsOpenedPage target)
  kept_words j f lt read old = descriptor_same j f lt (in_descriptor W f read) old

  pub paged : KeepsPages P W I (IsOpenedPage target)
  paged = by_words P W I (IsOpenedPage target) kept_words

  pub owner_same : (j : ℕ) → j < data_pages_of P → (IsOpenedPage target j → ⊥) → page_owner P I j ≡ page_owner P W j
  owner_same = paged.owner

  pub kind_same : (y : ℕ) → Reached P W y → inode_kind I y ≡ inode_kind W y
  unfolding inode_kind
  kind_same y r = inode_same y 0 (range y r).0 (range y r).1 (omega arith) (inr (λ e. omega (arith, e)))

  pub size_same : (y : ℕ) → Reached P W y → inode_size I y ≡ inode_size W y
  unfolding inode_size
  size_same y r = inode_same y 2 (range y r).0 (range y r).1 (omega arith) (inr (λ e. omega (arith, e)))

  -- ---- held and live slots

  pub held_old : (t : ℕ) → IsHeld P W t → IsOpenedPage target (page_of_slot t) → ⊥
  unfolding slot_owner
  held_old t held new = held.owned (unowned P W pb s x d target (page_of_slot t) take new)

  pub owner_slot : (t : ℕ) → IsHeld P W t → slot_owner P I t ≡ slot_owner P W t
  owner_slot t held = held_owner_same paged t held (held_old t held)

  pub number_same : (t : ℕ) → (IsOpenedPage target (page_of_slot t) → ⊥) → slot_inode P I t ≡ slot_inode P W t
  unfolding slot_inode
  number_same t old = elim (cases_eq t d) [
    | inl e ↦
        let here_old : IsOpenedPage target (page_of_slot d) → ⊥ = subst (λ u. IsOpenedPage target (page_of_slot u) → ⊥) e old in
        ap (slot_inode P I) e ∙ ready.number ∙ sym (held_number P W pb s x d target take here_old) ∙ ap (slot_inode P W) (sym e)
    | inr ne ↦ slot_word_same t 0 (omega arith) ne old
  ]

  pub live_forth : (t : ℕ) → IsLive P W t → IsLive P I t
  live_forth t l = let e = number_same t (held_old t l.held) in record {
    held = held_forth paged t (held_old t l.held) l.held;
    names = λ z. l.names (sym e ∙ z);
    stays = λ q held points same. elim (cases_eq q d) [
      | inl is ↦
          let at : s ≡ t = (let mine = sym (sym (ap (slot_pointer P I) is) ∙ points) ∙ c.pointer in omega (arith, mine)) in
          here.other_node P I pa pb s d c (ap (slot_inode P I) (sym is) ∙ same ∙ ap (slot_inode P I) (sym at))
      | inr ne ↦ (let zero = c.alone q held ne in omega (arith, zero, points))
    ];
  }

  -- in a new page no slot is live
  pub live_old : (t : ℕ) → IsLive P I t → IsOpenedPage target (page_of_slot t) → ⊥
  unfolding slot_inode
  live_old t l new = elim (cases_eq t d) [
    | inl e ↦ l.names (ap (slot_inode P I) e ∙ ready.number ∙ opened_number P W pb s x d target (page_of_slot t) new)
    | inr ne ↦ l.names (opened_zeros P W pb s x d I target t ready.page new ne 0 (omega arith))
  ]

  pub live_back : (t : ℕ) → IsLive P I t → IsLive P W t
  live_back t l = let old = live_old t l in record {
    held = held_back paged t old l.held;
    names = λ z. l.names (number_same t old ∙ z);
    stays = λ q held points. (let zero = no_pointer P W 0 (tidy_but P W 0 ready.can.tidy) q held in omega (arith, zero, points));
  }

  pub slot_forth : (t : ℕ) → IsReachedSlot P W t → IsReachedSlot P I t
  slot_forth t r = let o = owner_slot t r.live.held in record {
    owner = subst (Reached P I) (sym o) (forth (slot_owner P W t) r.owner);
    directory = ap (inode_kind I) o ∙ kind_same (slot_owner P W t) r.owner ∙ r.directory;
    live = live_forth t r.live;
  }

  pub slot_back : (t : ℕ) → IsReachedSlot P I t → IsReachedSlot P W t
  slot_back t r =
      let live = live_back t r.live in
      let o = owner_slot t live.held in
      let was : Reached P W (slot_owner P W t) = subst (Reached P W) o (back (slot_owner P I t) r.owner) in record {
        owner = was;
        directory = sym (kind_same (slot_owner P W t) was) ∙ ap (inode_kind I) (sym o) ∙ r.directory;
        live = live;
      }

  pub source_number : slot_inode P I s ≡ slot_inode P W s
  source_number = number_same s (held_old s ready.can.source.live.held)

  pub source_name : slot_name P I s ≡ slot_name P W s
  unfolding slot_name
  source_name = ap name_in_words (slot_words-same P W I s (λ f lt.
      slot_word_same s (2 + f) (omega (arith, lt)) (here.apart P I pa pb s d c) (held_old s ready.can.source.live.held)))

  pub source_owner : slot_owner P I s ≡ slot_owner P W s
  source_owner = owner_slot s ready.can.source.live.held

  pub source_kind : inode_kind I (slot_inode P I s) ≡ inode_kind W (slot_inode P W s)
  source_kind =
      ap (inode_kind I) source_number
      ∙ kind_same (slot_inode P W s) (reach P W s ready.can.source ((ready.can.tidy.coherent Rule.inodes s).most ready.can.source))

  -- ---- links, told of I

  pub raised : (y : ℕ) → IsRising P W s x target y ↔ IsRaised P I s d y
  raised y = (
    (λ rises. let (dir, leaves, none, e) = risen_is P W pb s x d target y rises in record {
      directory = source_kind ∙ dir;
      parents = λ same. leaves (sym source_owner ∙ sym same ∙ ready.owner);
      none = ready.number ∙ none;
      here = e ∙ sym ready.owner;
    }),
    (λ rises. is_risen P W pb s x d target y take (sym source_kind ∙ rises.directory) (λ e. rises.parents (ready.owner ∙ sym e ∙ sym source_owner))
        (sym ready.number ∙ rises.none) (rises.here ∙ ready.owner)),
  )

  pub lowered : (y : ℕ) → IsFalling P W s x target y ↔ IsLowered P I s d y
  lowered y = (
    (λ falls. elim (falling_is P W pb s x d target y take falls) [
      | inl (dir, why, e) ↦ inr (
        source_kind ∙ dir,
        elim why [ inl leaves ↦ inl (λ same. leaves (sym source_owner ∙ sym same ∙ ready.owner)) | inr some ↦ inr (λ z. some (sym ready.number ∙ z)) ],
        e ∙ sym source_owner,
      )
      | inr (file, some, e) ↦ inl (source_kind ∙ file, (λ z. some (sym ready.number ∙ z)), e ∙ sym ready.number)
    ]),
    (λ falls. is_falling P W pb s x d target y take (elim falls [
      | inl (file, some, e) ↦ inr (sym source_kind ∙ file, (λ z. some (ready.number ∙ z)), e ∙ ready.number)
      | inr (dir, why, e) ↦ inl (
        sym source_kind ∙ dir,
        elim why [ inl parents ↦ inl (λ same. parents (ready.owner ∙ sym same ∙ sym source_owner)) | inr some ↦ inr (λ z. some (ready.number ∙ z)) ],
        e ∙ source_owner,
      )
    ])),
  )

  rising_links : (r : Option ℕ) → Holds (IsRising P W s x target) r → Rises W I r → (y : ℕ) → IsRising P W s x target y
      → inode_links I y ≡ inode_links W y + 1
  rising_links None holds rises y is = absurd (holds y is)
  rising_links (Some z) holds rises y is =
      let same : z ≡ y = (risen_is P W pb s x d target z holds).3 ∙ sym (risen_is P W pb s x d target y is).3 in
      subst (λ u. inode_links I u ≡ inode_links W u + 1) same rises

  still : (r : Option ℕ) → Holds (IsRising P W s x target) r → (y : ℕ) → 1 ≤ y → (IsRising P W s x target y → ⊥)
      → IsLinkWord r (inode_word_of y 1) → ⊥
  still None holds y some never is = is
  still (Some z) holds y some never is =
      let at = risen_is P W pb s x d target z holds in
      let least : 1 ≤ z = subst (λ u. 1 ≤ u) (sym at.3) (range x x_reached).0 in
      never (subst (IsRising P W s x target) (sym (inode_word-one y 1 z 1 some least (omega arith) (omega arith) is).0) holds)

  same_links : (y : ℕ) → Reached P W y → (IsRising P W s x target y → ⊥) → inode_links I y ≡ inode_links W y
  unfolding inode_links
  same_links y r never = ready.others (inode_word_of y 1) (inode-ne_slot P y 1 d 1 (range y r).0 (range y r).1 (omega arith))
      (other_inode P W pb s x d target y 1 take (range y r).0 (range y r).1 (omega arith)) (still rising ready.rises y (range y r).0 never)

  -- all slots stay
  kept : KeepsSlots P W I (λ t. ⊥)
  kept = record {
    before = ready.can.tidy.coherent;
    after = c.coherent;
    forth = λ t none r. slot_forth t r;
    back = λ t none r. slot_back t r;
    owners = λ t none was is. owner_slot t was.live.held;
    numbers = λ t none was. number_same t (held_old t was.live.held);
    kinds = λ y was is. kind_same y was;
  }

  -- ---- pages

  pub room_forth : (y j : ℕ) → IsRoomOf P W y j → IsRoomOf P I y j
  room_forth y j = (slot_laws.rooms kept (λ t none. none) y j).0

  room_back : (y j : ℕ) → IsRoomOf P I y j → IsRoomOf P W y j
  room_back y j = (slot_laws.rooms kept (λ t none. none) y j).1

  -- slot d stands in a page with a name, where its page is an old one
  target_room : (IsOpenedPage target (page_of_slot d) → ⊥) → IsRoomOf P W (page_owner P W (page_of_slot d)) (page_of_slot d)
  unfolding slot_owner page_owner
  target_room old =
      let (held, owner) = held_owner P W pb s x d target take old in
      subst (λ y. IsRoomOf P W y (page_of_slot d)) (sym owner) (held_room P W x d ready.can.tidy x_reached ready.can.target_directory held owner)

  -- ---- nothing else is to be repaired

  clean : (t f : ℕ) → t ≢ d → IsRoomOf P I (page_owner P I (page_of_slot t)) (page_of_slot t) ⊎ (page_of_slot t ≡ page_of_slot d)
      → (IsLive P I t → ⊥) → f < 16
      → word I (slot_word_of P t f) ≡ 0
  clean t f ne where_is dead lt = elim (opened_or_not target (page_of_slot t)) [
    | inl new ↦ opened_zeros P W pb s x d I target t ready.page new ne f lt
    | inr old ↦ slot_word_same t f lt ne old ∙ dead_zero P W t f ready.can.tidy (elim where_is [
      | inl room ↦
          let was = room_back (page_owner P I (page_of_slot t)) (page_of_slot t) room in
          subst (λ y. IsRoomOf P W y (page_of_slot t)) (sym (room_owner P W (page_owner P I (page_of_slot t)) (page_of_slot t) was)) was
      | inr at ↦ subst (λ j. IsRoomOf P W (page_owner P W j) j) (sym at) (target_room (subst (λ j. IsOpenedPage target j → ⊥) at old))
    ]) (λ live. dead (live_forth t live)) lt
  ]

  litter_page : (j : ℕ) → IsLitterPage P I j → j ≡ page_of_slot d
  litter_page j l = elim (opened_or_not target j) [
    | inl new ↦ opened_here P W pb s x d target j take new
    | inr old ↦ absurd (none_counted (IsLitterPage P W) ready.can.tidy.repaired.of_pages j (pages.litter_page P W I (IsOpenedPage target) kept_words version (λ y was is. kind_same y was) (λ k lt other r. forth (page_owner P W k) r)
        (λ k other file. subst (λ z. page_offset P W k < pages_of_size z) (sym (size_same (page_owner P W k) file.owner)) file.below) (λ k lt other room. room_forth (page_owner P W k) k room) j old l))
  ]

  litter_inode : (y : ℕ) → IsLitterInode P I y → ⊥
  litter_inode y l =
      let (f, lt, nonzero) = l.nonzero in
      let read = subst (λ n. f < n) (same_inode_words W I version) lt in
      let other : y ≢ x = λ e. l.unreached (forth y (subst (Reached P W) (sym e) x_reached)) in
      (tidy_but P W 0 ready.can.tidy).inodes y (record {
        least = l.least;
        most = l.most;
        unreached = λ r. l.unreached (forth y r);
        nonzero = (f, read, (λ z. nonzero (inode_same y f l.least l.most (in_inode W f read) (inl other) ∙ z)));
      })

  counted : (y : ℕ) → Reached P W y → IsLinkCount P W y (inode_links W y)
  counted y r =
      let (T, reads, form) = tree_law P W ready.can.tidy.coherent in
      let (room, has) = room_law P W ready.can.tidy.coherent in
      subst (IsLinkCount P W y) (link_word_law P W (record { tree = T; room = room }) ready.can.tidy (record { tree = reads; room = has }) y r)
      (links_counted P W T ready.can.tidy.coherent reads y r)

  file_names : (y : ℕ) → Reached P I y → HasBytes I y → Count (IsNameOf P I y) (inode_links I y)
  file_names y r one =
      let was = back y r in
      let file = sym (kind_same y was) ∙ one in
      let never : IsRising P W s x target y → ⊥ = λ rises.
      let two = ap (inode_kind W) (risen_is P W pb s x d target y rises).3 ∙ ready.can.target_directory in omega (arith, two, file) in
      subst (Count (IsNameOf P I y)) (sym (same_links y was never)) (count_same (IsNameOf P W y) (IsNameOf P I y) (inode_links W y) (λ t. slot_laws.names kept y t (λ none. none)) ((counted y was).file file))

  rising_or_not : (r : Option ℕ) → Holds (IsRising P W s x target) r → (y : ℕ) → IsRising P W s x target y ⊎ (IsRising P W s x target y → ⊥)
  rising_or_not None holds y = inr (holds y)
  rising_or_not (Some z) holds y = elim (cases_eq y z) [
    | inl e ↦ inl (subst (IsRising P W s x target) (sym e) holds)
    | inr ne ↦ inr (λ rises. ne ((risen_is P W pb s x d target y rises).3 ∙ sym (risen_is P W pb s x d target z holds).3))
  ]

  directory_children : (y : ℕ) → Reached P I y → IsDirectory I y → (m : ℕ) × Count (IsChildOf P I y) m
      × ((IsRaised P I s d y × (inode_links I y ≡ 3 + m)) ⊎ ((IsRaised P I s d y → ⊥) × (inode_links I y ≡ 2 + m)))
  directory_children y r two =
      let was = back y r in
      let (m, children, e) = (counted y was).directory (sym (kind_same y was) ∙ two) in (
        m,
        count_same (IsChildOf P W y) (IsChildOf P I y) m (λ t. slot_laws.children kept y t (λ none. none)) children,
        elim (rising_or_not rising ready.rises y) [
          | inl rises ↦ (let more = rising_links rising ready.rises ready.links y rises in inl ((raised y).0 rises, omega (arith, more, e)))
          | inr never ↦ inr ((λ rises. never ((raised y).1 rises)), same_links y was never ∙ e)
        ],
      )

  replaced_same : slot_inode P I d ≢ 0 → inode_kind I (slot_inode P I d) ≡ inode_kind I (slot_inode P I s)
  replaced_same some =
      let was = back (slot_inode P I d) (here.replaced_reached P I pa pb s d c some) in
      kind_same (slot_inode P I d) was ∙ ap (inode_kind W) ready.number
      ∙ replaced_kind P W pb s x d target take (λ z. some (ready.number ∙ z)) ∙ sym source_kind

  pub near : IsAlmostTidy P I s d
  near = record {
    kinds = replaced_same;
    slots = clean;
    pages = litter_page;
    inodes = litter_inode;
    names = file_names;
    children = directory_children;
  }
