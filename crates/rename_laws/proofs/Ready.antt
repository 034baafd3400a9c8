-- Until a rename commits, nothing changes its meaning, and then slot d may take its number.
use Rattle.std.proofs.Common.{◌≡◌, ◌≢◌, ◌⊎◌, inl, inr, ℕ, ◌+◌, ◌-◌, ◌<◌, ◌≤◌, List, [], ◌∷◌, ◌++◌, Option, Some, None, refl, sym, ap, subst, ◌∙◌, arith}
use Rattle.std.proofs.lemmas.Bool.{cases_eq}
use Rattle.layout.specs.Fields.{word, inode_kind, inode_links, page_owner, slot_inode, slot_pointer, slot_name, slot_words}
use Rattle.layout.specs.Geometry.{inodes_of, data_pages_of, slots_of, page_of_slot, inode_word_of, descriptor_word_of, slot_word_of}
use Rattle.layout.specs.Name.{IsNameWords, name_in_words}
use Rattle.layout.proofs.GeometryLaws.{page_of_slot_below}
use Rattle.layout.proofs.Widths.{in_descriptor}
use Rattle.tree_model.specs.PathText.{Route}
use Rattle.image_reading.specs.Counts.{AtMost}
use Rattle.image_reading.specs.Reading.{HasBytes, IsDirectory, slot_owner, IsHeld, IsLive, Names, Reached, IsReachedSlot, IsChildOf}
use Rattle.image_reading.specs.Soundness.{Rule, IsCoherent, HasLinks}
use Rattle.image_counts.proofs.Paths.{in_range, one_inode, same_slot, slot_leads}
use Rattle.image_laws.specs.Create.{IsAmong}
use Rattle.image_laws.specs.Frame.{SameMeaning}
use Rattle.image_laws.specs.Free.{IsFree}
use Rattle.image_laws.specs.Move.{CanMove}
use Rattle.image_laws.specs.Pointers.{CanPoint}
use Rattle.image_laws.specs.Quiet.{IsMix}
use Rattle.image_laws.proofs.Addresses.{descriptor-ne_inode, descriptor-ne_slot, inode-ne_inode, inode-ne_field, inode-ne_slot, slot-ne_slot, slot-ne_field}
use Rattle.image_laws.proofs.Counts.{at_most, at_most_more}
use Rattle.image_laws.proofs.Decide.{dec_eq}
use Rattle.image_laws.proofs.KeptPages.{KeepsPages, by_words, held_forth, held_back}
use Rattle.image_laws.proofs.Free.{mix_itself}
use Rattle.image_laws.proofs.Making.{links_more}
use Rattle.image_laws.proofs.Meaning.{same_chained}
use Rattle.image_laws.proofs.PageQuiet.{page_quiet_law}
use Rattle.image_laws.proofs.Paths.{reach}
use Rattle.image_laws.proofs.Ready.{dec_among}
use Rattle.image_laws.proofs.Words.{slot_words-same}
use Rattle.rename_laws.specs.Pointing.{StoresPointing}
use Rattle.rename_laws.specs.Target.{Target, Vacant, Opened, Taken, CanTake, CanRename, Holds, IsRising, IsDirectoryMoved, old_number, name_of}
use Rattle.rename_laws.specs.Ready.{IsNewNameWord, HasNewName, PointsAt, HasNewPage, IsNewPage, IsTargetWord, IsMoveReady, OpeningLaw, ReadyLaw}
use Rattle.image_laws.specs.Links.{IsLinkWord, Rises}
use Rattle.rename_laws.proofs.Opened.{words_for, HasWords, IsOpen, opened}
use Rattle.rename_laws.proofs.Pointing.{pointing_law, stores_pointing}

pub opening_law : OpeningLaw
opening_law P W A pa pb s x d j name can makes = let (named, page, at) = can.target_slot in page_quiet_law P W A pb x j can.tidy.coherent can.target_path can.target_directory page makes.empty

-- ---- which words the pointer's interval stores

dec_new_name : (P d : ℕ) (target : Target) (a : ℕ) → Dec (IsNewNameWord P d target a)
dec_new_name P d (Vacant name) a = dec_among (λ k. slot_word_of P d (2 + k)) 14 a
dec_new_name P d (Opened j name) a = no (λ h. h)
dec_new_name P d (Taken r) a = no (λ h. h)

dec_link : (rising : Option ℕ) (a : ℕ) → Dec (IsLinkWord rising a)
dec_link None a = no (λ h. h)
dec_link (Some y) a = dec_eq a (inode_word_of y 1)

name_word_among : (P d : ℕ) (target : Target) (a : ℕ) → IsNewNameWord P d target a → IsAmong (λ k. slot_word_of P d (2 + k)) 14 a
name_word_among P d (Vacant name) a h = h
name_word_among P d (Opened j name) a h = absurd h
name_word_among P d (Taken r) a h = absurd h

-- a word of a new name is one of a new name or page
name_is_target : (P : ℕ) (W : List ℕ) (d : ℕ) (target : Target) (a : ℕ) → IsNewNameWord P d target a → IsTargetWord P W d target a
name_is_target P W d (Vacant name) a h = h
name_is_target P W d (Opened j name) a h = absurd h
name_is_target P W d (Taken r) a h = absurd h

-- the inode that rises is directory x
rising_is : (P : ℕ) (W : List ℕ) (s x : ℕ) (target : Target) (y : ℕ) → IsRising P W s x target y → y ≡ x
rising_is P W s x (Vacant name) y h = h.1
rising_is P W s x (Opened j name) y h = h.1
rising_is P W s x (Taken r) y h = absurd h

link_word_is : (P : ℕ) (W : List ℕ) (s x : ℕ) (target : Target) (rising : Option ℕ) → Holds (IsRising P W s x target) rising → (a : ℕ) → IsLinkWord rising a → a ≡ inode_word_of x 1
link_word_is P W s x target None rises a h = absurd h
link_word_is P W s x target (Some y) rises a h = h ∙ ap (λ (z : ℕ). inode_word_of z 1) (rising_is P W s x target y rises)

module _ (P : ℕ) (W B I : List ℕ) (pa pb : Route) (s x d : ℕ) (target : Target) (rising : Option ℕ) (can : CanRename P W pa pb s x d target) (rises : Holds (IsRising P W s x target) rising)
    (stands : IsOpen P W B x d target) (points : PointsAt P B I s d target rising) where
  x_reached : Reached P W x
  x_reached = (pb, can.target_path)

  range : (y : ℕ) → Reached P W y → (1 ≤ y) × (y ≤ inodes_of P)
  range y r = in_range P W can.tidy.coherent y r

  coherent : IsCoherent P B
  coherent = stands.means.coherent

  -- ---- which words stay

  same_word : (a : ℕ) → a ≢ slot_word_of P d 1 → ((k : ℕ) → k < 14 → a ≢ slot_word_of P d (2 + k)) → a ≢ inode_word_of x 1 → word I a ≡ word B a
  same_word a pointer name link = points.others a pointer
      (λ h. let (k, lt, e) = name_word_among P d target a h in name k lt e)
      (λ h. link (link_word_is P W s x target rising rises a h))

  descriptor_same : (j f : ℕ) → j < data_pages_of P → f < 8 → word I (descriptor_word_of P j f) ≡ word B (descriptor_word_of P j f)
  descriptor_same j f lt l8 = same_word (descriptor_word_of P j f) (descriptor-ne_slot P j f d 1 lt l8) (λ k l. descriptor-ne_slot P j f d (2 + k) lt l8)
      (descriptor-ne_inode P j f x 1 (range x x_reached).0 (range x x_reached).1 (omega arith))

  inode_same : (y f : ℕ) → 1 ≤ y → y ≤ inodes_of P → f < 16 → (f ≢ 1) ⊎ (y ≢ x) → word I (inode_word_of y f) ≡ word B (inode_word_of y f)
  inode_same y f some most lt other = same_word (inode_word_of y f) (inode-ne_slot P y f d 1 some most lt) (λ k l. inode-ne_slot P y f d (2 + k) some most lt)
      (elim other [ inl field ↦ inode-ne_field y f x 1 lt (omega arith) field | inr ne ↦ inode-ne_inode y f x 1 some (range x x_reached).0 ne lt (omega arith) ])

  -- a slot's words, but the pointer and the name of slot d
  slot_same : (t f : ℕ) → f < 16 → (f ≡ 0) ⊎ (t ≢ d) → word I (slot_word_of P t f) ≡ word B (slot_word_of P t f)
  slot_same t f lt other = same_word (slot_word_of P t f) (apart 1 (omega arith) (omega arith)) (λ k l. apart (2 + k) (omega arith) (omega arith))
      (λ e. inode-ne_slot P x 1 t f (range x x_reached).0 (range x x_reached).1 (omega arith) (sym e))
    where
      apart : (g : ℕ) → 1 ≤ g → g < 16 → slot_word_of P t f ≢ slot_word_of P d g
      apart g low high = elim other [
        | inl z ↦ slot-ne_field P t f d g lt high (λ e. omega (arith, e, z, low))
        | inr ne ↦ slot-ne_slot P t f d g lt high ne
      ]

  paged : KeepsPages P B I (λ j. ⊥)
  paged = by_words P B I (λ j. ⊥) (λ j f lt read none. descriptor_same j f lt (in_descriptor B f read))

  owner_same : (j : ℕ) → j < data_pages_of P → page_owner P I j ≡ page_owner P B j
  owner_same j lt = paged.owner j lt (λ none. none)

  slot_owner_same : (t : ℕ) → t < slots_of P → slot_owner P I t ≡ slot_owner P B t
  unfolding slot_owner
  slot_owner_same t lt = owner_same (page_of_slot t) (page_of_slot_below P t lt)

  number_same : (t : ℕ) → slot_inode P I t ≡ slot_inode P B t
  unfolding slot_inode
  number_same t = slot_same t 0 (omega arith) (inl refl)

  pointer_same : (t : ℕ) → t ≢ d → slot_pointer P I t ≡ slot_pointer P B t
  unfolding slot_pointer
  pointer_same t ne = slot_same t 1 (omega arith) (inr ne)

  words_same : (t : ℕ) → t ≢ d → slot_words P I t ≡ slot_words P B t
  words_same t ne = slot_words-same P B I t (λ f lt. slot_same t (2 + f) (omega arith) (inr ne))

  name_same : (t : ℕ) → t ≢ d → slot_name P I t ≡ slot_name P B t
  unfolding slot_name
  name_same t ne = ap name_in_words (words_same t ne)

  -- kinds and links of reached inodes
  node_kind_same : (y : ℕ) → Reached P W y → inode_kind I y ≡ inode_kind W y
  unfolding inode_kind
  node_kind_same y r = inode_same y 0 (range y r).0 (range y r).1 (omega arith) (inl (λ e. omega (arith, e))) ∙ stands.inodes y 0 (range y r).0 (range y r).1 (omega arith)

  kind_opened : (y : ℕ) → Reached P W y → inode_kind B y ≡ inode_kind W y
  unfolding inode_kind
  kind_opened y r = stands.inodes y 0 (range y r).0 (range y r).1 (omega arith)

  links_before : (y : ℕ) → Reached P W y → inode_links B y ≡ inode_links W y
  unfolding inode_links
  links_before y r = stands.inodes y 1 (range y r).0 (range y r).1 (omega arith)

  links_same : (y : ℕ) → Reached P W y → y ≢ x → inode_links I y ≡ inode_links B y
  unfolding inode_links
  links_same y r ne = inode_same y 1 (range y r).0 (range y r).1 (omega arith) (inr ne)

  -- ---- slot s, and the numbers of both slots

  source_before : IsReachedSlot P B s
  source_before = stands.kept s can.source

  source_number : slot_inode P B s ≡ slot_inode P W s
  source_number = stands.numbers s can.source

  numbers_differ : slot_inode P B d ≢ slot_inode P B s
  numbers_differ e = differ target can.target_slot (sym stands.number ∙ e ∙ source_number)
    where
      differ : (target : Target) → CanTake P W pb s x d target → old_number target ≢ slot_inode P W s
      differ (Vacant name) take e = can.source.live.names (sym e)
      differ (Opened j name) take e = can.source.live.names (sym e)
      differ (Taken r) take e = take.other e

  apart_slots : s ≢ d
  apart_slots e = numbers_differ (ap (slot_inode P B) (sym e))

  -- ---- the pointer may be stored

  can_point : CanPoint P B d (s + 1)
  can_point = record {
    coherent = coherent;
    held = stands.held;
    old = λ t at same. (let none = stands.no_pointer d stands.held in omega (arith, none, at));
    new = λ t at same. absurd (numbers_differ (same ∙ ap (slot_inode P B) (let e : t ≡ s = omega (arith, at) in e)));
    alone = λ t held ne. stands.no_pointer t held;
    target = λ some. (λ e. apart_slots (omega (arith, e)), subst (IsHeld P B) (let e : s ≡ s + 1 - 1 = omega arith in e) source_before.live.held);
  }

  -- slot d isn't reached where it gets a name
  unnamed : (a : ℕ) → IsNewNameWord P d target a → IsReachedSlot P B d → ⊥
  unnamed a h r = r.live.names (stands.number ∙ zero target h)
    where
      zero : (target : Target) → IsNewNameWord P d target a → old_number target ≡ 0
      zero (Vacant name) h = refl
      zero (Opened j name) h = refl
      zero (Taken r) h = absurd h

  pointed : (a : ℕ) → a ≢ slot_word_of P d 1 → (word I a ≡ word B a) ⊎ IsFree P B a
  pointed a ne = elim (dec_new_name P d target a) [
    | yes h ↦ inr (let (k, lt, e) = name_word_among P d target a h in subst (IsFree P B) (sym e) (IsFree.name d (2 + k) (omega arith) (omega (arith, lt)) stands.held (unnamed a h)))
    | no unnamed_word ↦ elim (dec_link rising a) [
      | yes h ↦ inr (subst (IsFree P B) (sym (link_word_is P W s x target rising rises a h)) (IsFree.link x (range x x_reached).0 (range x x_reached).1))
      | no unlinked ↦ inl (points.others a ne unnamed_word unlinked)
    ]
  ]

  known : (y : ℕ) → Reached P B y → Reached P W y
  known y (q, b) = (q, (stands.means.names q y).1 b)

  kept : (y : ℕ) → Reached P W y → Reached P B y
  kept y (q, b) = (q, (stands.means.names q y).0 b)

  links_of_x : (links : Option ℕ) → Holds (IsRising P W s x target) links → Rises B I links → ((a : ℕ) → (IsLinkWord links a → ⊥) → a ≡ inode_word_of x 1 → word I a ≡ word B a)
      → (inode_links I x ≡ inode_links B x) ⊎ (inode_links I x ≡ inode_links B x + 1)
  unfolding inode_links
  links_of_x None holds rise same = inl (same (inode_word_of x 1) (λ h. h) refl)
  links_of_x (Some y) holds rise same = inr (subst (λ z. inode_links I z ≡ inode_links B z + 1) (rising_is P W s x target y holds) rise)

  x_links : (inode_links I x ≡ inode_links B x) ⊎ (inode_links I x ≡ inode_links B x + 1)
  x_links = links_of_x rising rises points.links (λ a other e. points.others a
      (λ at. inode-ne_slot P x 1 d 1 (range x x_reached).0 (range x x_reached).1 (omega arith) (sym e ∙ at))
      (λ h. let (k, lt, at) = name_word_among P d target a h in inode-ne_slot P x 1 d (2 + k) (range x x_reached).0 (range x x_reached).1 (omega arith) (sym e ∙ at))
      other)

  enough : (y : ℕ) → Reached P B y → HasLinks P B y (inode_links I y)
  enough y r = elim (cases_eq y x) [
    | inl e ↦ subst (λ z. HasLinks P B z (inode_links I z)) (sym e) (elim x_links [
      | inl same ↦ subst (HasLinks P B x) (sym same) (coherent Rule.links x (kept x x_reached))
      | inr more ↦ subst (HasLinks P B x) (sym more) (links_more P B x (inode_links B x) (coherent Rule.links x (kept x x_reached)))
    ])
    | inr ne ↦ subst (HasLinks P B y) (sym (links_same y (known y r) ne)) (coherent Rule.links y r)
  ]

  stores : StoresPointing P B I d (s + 1)
  stores = stores_pointing P B I d (s + 1) can_point points.size pointed owner_same enough points.pointer

  mixes : (M : List ℕ) → IsMix B I M → SameMeaning P W M
  mixes M mix = same_chained P W B M stands.means (pointing_law P B I M d (s + 1) can_point stores mix)

  means : SameMeaning P W I
  means = mixes I (mix_itself B I points.size)

  -- ---- what is held, live and reached then

  alone : (t : ℕ) → IsHeld P I t → t ≢ d → slot_pointer P I t ≡ 0
  alone t held ne = pointer_same t ne ∙ stands.no_pointer t (held_back paged t (λ none. none) held)

  forth : (y : ℕ) → Reached P W y → Reached P I y
  forth y (q, b) = (q, (means.names q y).0 b)

  reached_before : (y : ℕ) → Reached P I y → Reached P W y
  reached_before y (q, b) = (q, (means.names q y).1 b)

  live_before : (t : ℕ) → IsLive P I t → IsLive P B t
  live_before t l = record {
    held = held_back paged t (λ none. none) l.held;
    names = λ z. l.names (number_same t ∙ z);
    stays = λ q held at same. (let none = stands.no_pointer q held in omega (arith, none, at));
  }

  slot_before : (t : ℕ) → IsReachedSlot P I t → IsReachedSlot P W t
  slot_before t r =
      let o = slot_owner_same t r.live.held.in_range in
      let owner : Reached P W (slot_owner P B t) = subst (Reached P W) o (reached_before (slot_owner P I t) r.owner) in
      stands.known t (record {
        owner = kept (slot_owner P B t) owner;
        directory = sym (kind_before (slot_owner P B t) owner) ∙ ap (inode_kind I) (sym o) ∙ r.directory;
        live = live_before t r.live;
      })
    where
      kind_before : (y : ℕ) → Reached P W y → inode_kind I y ≡ inode_kind B y
      kind_before y r = node_kind_same y r ∙ sym (kind_opened y r)

  -- an old reached slot's owner, name and number
  owner_kept : (t : ℕ) → IsReachedSlot P W t → slot_owner P I t ≡ slot_owner P W t
  owner_kept t r = slot_owner_same t (stands.kept t r).live.held.in_range ∙ stands.owners t r

  number_kept : (t : ℕ) → IsReachedSlot P W t → slot_inode P I t ≡ slot_inode P W t
  number_kept t r = number_same t ∙ stands.numbers t r

  name_kept : (t : ℕ) → IsReachedSlot P W t → t ≢ d → slot_name P I t ≡ slot_name P W t
  name_kept t r ne = name_same t ne ∙ stands.names t r

  -- ---- the name of slot d

  d_words_same : ((a : ℕ) → IsNewNameWord P d target a → ⊥) → slot_words P I d ≡ slot_words P B d
  d_words_same none = slot_words-same P B I d (λ f lt. points.others (slot_word_of P d (2 + f))
      (slot-ne_field P d (2 + f) d 1 (omega arith) (omega arith) (λ e. omega (arith, e)))
      (none (slot_word_of P d (2 + f)))
      (λ h. inode-ne_slot P x 1 d (2 + f) (range x x_reached).0 (range x x_reached).1 (omega arith) (sym (link_word_is P W s x target rising rises (slot_word_of P d (2 + f)) h))))

  d_words : slot_words P I d ≡ words_for P W d target
  d_words = by target points.name_is stands.name_words d_words_same
    where
      by : (target : Target) → HasNewName P I d target → HasWords P W B d target → (((a : ℕ) → IsNewNameWord P d target a → ⊥) → slot_words P I d ≡ slot_words P B d) → slot_words P I d ≡ words_for P W d target
      by (Vacant name) new old same = new
      by (Opened j name) new old same = same (λ a h. h) ∙ old
      by (Taken r) new old same = same (λ a h. h) ∙ old

  d_name_words : IsNameWords (slot_words P I d)
  d_name_words = subst IsNameWords (sym d_words) (by target can.target_slot)
    where
      by : (target : Target) → CanTake P W pb s x d target → IsNameWords (words_for P W d target)
      by (Vacant name) take = take.0.is_name
      by (Opened j name) take = take.0.is_name
      by (Taken r) take = (can.tidy.coherent Rule.names d) take.entry.0

  d_name : slot_name P I d ≡ name_of P W d target
  unfolding slot_name
  d_name = ap name_in_words d_words ∙ by target
    where
      by : (target : Target) → name_in_words (words_for P W d target) ≡ name_of P W d target
      by (Vacant name) = refl
      by (Opened j name) = refl
      by (Taken r) = refl

  other_names : (target : Target) → CanTake P W pb s x d target → (t : ℕ) → IsReachedSlot P W t → t ≢ d → slot_owner P W t ≡ x → slot_name P W t ≢ name_of P W d target
  other_names (Vacant name) take t r ne o e = take.0.new t r o e
  other_names (Opened j name) take t r ne o e = take.0.new t r o e
  other_names (Taken r) take t h ne o e = ne (same_slot P W can.tidy.coherent t d h take.entry.0 (o ∙ sym take.entry.1) e)

  d_owner : slot_owner P I d ≡ x
  d_owner = slot_owner_same d stands.held.in_range ∙ stands.owner

  d_number : slot_inode P I d ≡ old_number target
  d_number = number_same d ∙ stands.number

  -- ---- nothing moves into itself, and what is replaced has no names

  source_inode : Reached P W (slot_inode P W s)
  source_inode = reach P W s can.source ((can.tidy.coherent Rule.inodes s).most can.source)

  -- no directory stands below a file
  not_below : HasBytes W (slot_inode P W s) → (r : Route) (k : ℕ) → Names P W (r ++ slot_name P W s ∷ pa) k → IsDirectory W k → ⊥
  not_below file [] k names directory =
      let same = one_inode P W can.tidy.coherent (slot_name P W s ∷ pa) k (slot_inode P W s) names (s, can.source_path, slot_leads P W can.tidy.coherent s can.source) in
      let two : IsDirectory W (slot_inode P W s) = ap (inode_kind W) (sym same) ∙ directory in
      omega (arith, two, file)
  not_below file (m ∷ r) k (t, names, leads) directory = not_below file r (slot_owner P W t) names leads.directory

  outside : (r : Route) → pb ≢ r ++ slot_name P W s ∷ pa
  outside r e = elim ((can.tidy.coherent Rule.kinds (slot_inode P W s)).kind source_inode) [
    | inl file ↦ not_below file r x (subst (λ (q : Route). Names P W q x) e can.target_path) can.target_directory
    | inr directory ↦ can.outside directory r e
  ]

  no_names : (target : Target) → CanTake P W pb s x d target → (old_number target ≢ 0) → IsDirectory I (old_number target) → (t : ℕ) → IsLive P I t → slot_owner P I t ≢ old_number target
  no_names (Vacant name) take some directory t l e = some refl
  no_names (Opened j name) take some directory t l e = some refl
  no_names (Taken r) take some directory t l e =
      let reached : Reached P W r = subst (Reached P W) take.number (reach P W d take.entry.0 ((can.tidy.coherent Rule.inodes d).most take.entry.0)) in
      let slot : IsReachedSlot P W t = slot_before t (record { owner = subst (Reached P I) (sym e) (forth r reached); directory = ap (inode_kind I) e ∙ directory; live = l }) in
      take.empty (sym (node_kind_same r reached) ∙ directory) t (slot, sym (owner_kept t slot) ∙ e)

  -- ---- the links of a new parent

  source_kept : slot_inode P I s ≡ slot_inode P W s
  source_kept = number_kept s can.source

  source_owner : slot_owner P I s ≡ slot_owner P W s
  source_owner = owner_kept s can.source

  child_before : (t : ℕ) → IsChildOf P I x t → IsChildOf P W x t
  child_before t n =
      let slot = slot_before t n.slot in
      record {
        slot = slot;
        owner = sym (owner_kept t slot) ∙ n.owner;
        directory = sym (node_kind_same (slot_inode P W t) (reach P W t slot ((can.tidy.coherent Rule.inodes t).most slot))) ∙ ap (inode_kind I) (sym (number_kept t slot)) ∙ n.directory;
      }

  children : AtMost 2 (IsChildOf P W x) (inode_links W x)
  children = (can.tidy.coherent Rule.links x x_reached).directory can.target_directory

  one_more : inode_links I x ≡ inode_links B x + 1 → AtMost 2 (λ t. (t ≡ d) ⊎ IsChildOf P I x t) (inode_links I x)
  one_more more = at_most_more 2 (inode_links I x) d (IsChildOf P W x) (λ t. (t ≡ d) ⊎ IsChildOf P I x t) (λ t h. elim h [ inl e ↦ inl e | inr n ↦ inr (child_before t n) ])
      (λ xs distinct all. let le = children xs distinct all in let before = links_before x x_reached in omega (arith, le, before, more))

  room_for_child : (target : Target) (rising : Option ℕ) → CanTake P W pb s x d target → Holds (IsRising P W s x target) rising → Rises B I rising → IsDirectoryMoved P W s x
      → ((inode_links I x ≡ inode_links B x) ⊎ (inode_links I x ≡ inode_links B x + 1)) → AtMost 2 (λ t. (t ≡ d) ⊎ IsChildOf P I x t) (inode_links I x)
  room_for_child (Vacant name) None take holds rise comes either = absurd (holds x (comes, refl))
  room_for_child (Vacant name) (Some y) take holds rise comes either = one_more (subst (λ z. inode_links I z ≡ inode_links B z + 1) holds.1 rise)
  room_for_child (Opened j name) None take holds rise comes either = absurd (holds x (comes, refl))
  room_for_child (Opened j name) (Some y) take holds rise comes either = one_more (subst (λ z. inode_links I z ≡ inode_links B z + 1) holds.1 rise)
  room_for_child (Taken r) rising take holds rise comes either =
      let named : IsChildOf P W x d = record {
        slot = take.entry.0;
        owner = take.entry.1;
        directory = ap (inode_kind W) take.number ∙ take.same_kind ∙ comes.directory;
      } in
      λ xs distinct all.
      let le = at_most 2 (inode_links W x) (IsChildOf P W x) (λ t. (t ≡ d) ⊎ IsChildOf P I x t) (λ t h. elim h [ inl e ↦ subst (IsChildOf P W x) (sym e) named | inr n ↦ child_before t n ]) children xs distinct all in
      let before = links_before x x_reached in
      elim either [ inl same ↦ omega (arith, le, before, same) | inr more ↦ omega (arith, le, before, more) ]

  -- ---- slot d may take the number

  can_move : CanMove P I pa pb s d
  can_move = record {
    coherent = means.coherent;
    source_path = subst (Names P I pa) (sym source_owner) ((means.names pa (slot_owner P W s)).0 can.source_path);
    source_directory = ap (inode_kind I) source_owner ∙ node_kind_same (slot_owner P W s) can.source.owner ∙ can.source.directory;
    source = record {
      held = held_forth paged s (λ none. none) source_before.live.held;
      names = λ z. can.source.live.names (sym source_kept ∙ z);
      stays = λ q held at same. elim (cases_eq q d) [
        | inl e ↦ numbers_differ (sym (number_same d) ∙ ap (slot_inode P I) (sym e) ∙ same ∙ number_same s)
        | inr ne ↦ (let none = alone q held ne in omega (arith, none, at))
      ];
    };
    target_path = subst (Names P I pb) (sym d_owner) ((means.names pb x).0 can.target_path);
    target_directory = ap (inode_kind I) d_owner ∙ node_kind_same x x_reached ∙ can.target_directory;
    held = held_forth paged d (λ none. none) stands.held;
    pointer = points.pointer;
    alone = alone;
    name = d_name_words;
    new = λ t r ne o e. let slot = slot_before t r in
        other_names target can.target_slot t slot ne (sym (owner_kept t slot) ∙ o ∙ d_owner) (sym (name_kept t slot ne) ∙ e ∙ d_name);
    outside = λ r e. outside r (e ∙ ap (λ (n : List ℕ). r ++ n ∷ pa) (name_kept s can.source apart_slots));
    leaf = λ live directory t l e. no_names target can.target_slot (λ z. live.names (d_number ∙ z)) (ap (inode_kind I) (sym d_number) ∙ directory) t l (e ∙ d_number);
    child_link = λ directory ne. subst (λ (y : ℕ). AtMost 2 (λ t. (t ≡ d) ⊎ IsChildOf P I y t) (inode_links I y)) (sym d_owner)
        (room_for_child target rising can.target_slot rises points.links (record {
          directory = sym (node_kind_same (slot_inode P W s) source_inode) ∙ ap (inode_kind I) (sym source_kept) ∙ directory;
          leaves = λ e. ne (d_owner ∙ sym e ∙ sym source_owner);
        }) x_links);
  }

  new_page : (j : ℕ) → j < data_pages_of P → IsNewPage P B x d j → IsNewPage P I x d j
  new_page j lt page = record {
    owner = owner_same j lt ∙ page.owner;
    kind = paged.kind j lt (λ none. none) ∙ page.kind;
    offset = paged.offset j lt (λ none. none) ∙ page.offset;
    zeros = λ t here ne f l. slot_same t f l (inr ne) ∙ page.zeros t here ne f l;
  }

  page_now : HasNewPage P I x d target
  page_now = by target can.target_slot stands.page
    where
      by : (target : Target) → CanTake P W pb s x d target → HasNewPage P B x d target → HasNewPage P I x d target
      by (Vacant name) take page = tt
      by (Opened j name) take page = new_page j take.1.0 page
      by (Taken r) take page = tt

  links_now : (links : Option ℕ) → Holds (IsRising P W s x target) links → Rises B I links → Rises W I links
  links_now None holds rise = tt
  links_now (Some y) holds rise = rise ∙ ap (λ (n : ℕ). n + 1) (links_before y (subst (Reached P W) (sym (rising_is P W s x target y holds)) x_reached))

  move_ready : IsMoveReady P W I pa pb s x d target rising
  move_ready = record {
    can = can;
    rises = rises;
    means = means;
    can_move = can_move;
    owner = d_owner;
    number = d_number;
    name_is = d_name;
    page = page_now;
    links = links_now rising rises points.links;
    size = points.size ∙ stands.size;
    others = λ a pointer place link. points.others a pointer (λ h. place (name_is_target P W d target a h)) link ∙ stands.others a place;
  }

pub ready_law : ReadyLaw
ready_law P W B I pa pb s x d target rising can rises made points =
    let stands = opened P W B pa pb s x d target can made in
    record {
      pointing = mixes P W B I pa pb s x d target rising can rises stands points;
      ready = move_ready P W B I pa pb s x d target rising can rises stands points;
    }
