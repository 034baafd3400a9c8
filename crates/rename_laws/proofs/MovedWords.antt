-- The source's number, and then its words, the pointer and the count that falls: each mix means what the commit left.
use Rattle.std.proofs.Common.{◌≡◌, ◌≢◌, ◌⊎◌, inl, inr, ℕ, ◌+◌, ◌-◌, ◌<◌, ◌≤◌, List, length, refl, sym, ap, subst, ◌∙◌, arith}
use Rattle.std.proofs.lemmas.Bool.{cases_eq}
use Rattle.std.proofs.lemmas.List.{get_or-set_other}
use Rattle.layout.specs.Fields.{word, inode_kind, inode_links, page_owner, slot_inode, slot_pointer}
use Rattle.layout.specs.Geometry.{inodes_of, data_pages_of, inode_word_of, descriptor_word_of, slot_word_of}
use Rattle.tree_model.specs.PathText.{Route}
use Rattle.image_reading.specs.Reading.{slot_owner, IsHeld, Reached, IsReachedSlot, IsNameOf, IsChildOf}
use Rattle.image_reading.specs.Soundness.{Rule, IsCoherent, HasLinks}
use Rattle.image_counts.proofs.Paths.{in_range}
use Rattle.image_laws.specs.Free.{IsFree}
use Rattle.image_laws.specs.Frame.{SameMeaning}
use Rattle.image_laws.specs.Move.{CanMove, moved}
use Rattle.image_laws.specs.Pointers.{CanPoint, IsLeft}
use Rattle.image_laws.specs.Quiet.{IsMix}
use Rattle.image_laws.proofs.Addresses.{head-ne_inode, head-ne_slot, descriptor-ne_inode, descriptor-ne_slot, inode-ne_slot, slot-ne_slot, slot-ne_field, inode_word-one, slot_word-one}
use Rattle.image_laws.proofs.Counts.{at_most}
use Rattle.image_laws.proofs.Decide.{dec_eq}
use Rattle.image_laws.proofs.Free.{mix_one}
use Rattle.image_laws.proofs.Meaning.{same_itself, same_chained}
use Rattle.image_laws.proofs.OnlySlot as only_slot
use Rattle.image_laws.proofs.OnlySlot.{OnlySlot}
use Rattle.image_laws.proofs.Adds.{inside, only, stored}
use Rattle.image_laws.proofs.Paths.{reached-le}
use Rattle.image_laws.proofs.Pointers.{leave_law}
use Rattle.image_laws.proofs.Ready.{dec_among}
use Rattle.rename_laws.specs.Intervals.{left}
use Rattle.rename_laws.specs.Pointing.{StoresPointing}
use Rattle.rename_laws.proofs.MovedCounts as counts
use Rattle.rename_laws.proofs.MovedCounts.{IsLowered, IsFallen, IsAlmostTidy}
use Rattle.rename_laws.proofs.MovedNames as here
use Rattle.rename_laws.proofs.MoveSpare.{HasCleared}
use Rattle.rename_laws.proofs.Pointing.{pointing_law, stores_pointing}

-- From D to J, with the count that falls told of the words before the commit.
pub record ClearsSlots (P : ℕ) (I D J : List ℕ) (s d : ℕ) : Type 0 where
  pub size : length J ≡ length D
  pub pointer : slot_pointer P J d ≡ 0
  pub zeros : (f : ℕ) → 1 ≤ f → f < 16 → word J (slot_word_of P s f) ≡ 0
  pub links : (y : ℕ) → IsLowered P I s d y → inode_links J y + 1 ≡ inode_links D y
  pub others : (a : ℕ) → a ≢ slot_word_of P d 1 → ((f : ℕ) → 1 ≤ f → f < 16 → a ≢ slot_word_of P s f)
      → ((y : ℕ) → IsLowered P I s d y → a ≢ inode_word_of y 1) → word J a ≡ word D a

module _ (P : ℕ) (I : List ℕ) (pa pb : Route) (s d : ℕ) (c : CanMove P I pa pb s d) where
  coherent : IsCoherent P (moved P I s d)
  coherent = (here.after P I pa pb s d c).coherent

  source_held : IsHeld P (moved P I s d) s
  source_held = here.held_forward P I pa pb s d c s c.source.held

  by : OnlySlot P (moved P I s d) (left P I s d) s
  by = only P (moved P I s d) s 0 coherent

  -- ---- the commit

  pub commits : (M : List ℕ) → IsMix I (moved P I s d) M → (M ≡ I) ⊎ (M ≡ moved P I s d)
  commits M mix = mix_one I M (slot_word_of P d 0) (slot_inode P I s) (inside P I d 0 c.coherent c.held.in_range (omega arith)) mix

  -- ---- the source's number

  is_left : IsLeft P (moved P I s d) s d
  is_left = record {
    coherent = coherent;
    source = source_held;
    held = here.held_forward P I pa pb s d c d c.held;
    pointer = (here.only P I pa pb s d c).pointer d ∙ c.pointer;
    same = here.number_new P I pa pb s d c ∙ sym (here.source_number P I pa pb s d c);
  }

  pub same_left : SameMeaning P (moved P I s d) (left P I s d)
  same_left = leave_law P (moved P I s d) s d is_left

  pub leaves : (M : List ℕ) → IsMix (moved P I s d) (left P I s d) M → SameMeaning P (moved P I s d) M
  leaves M mix = elim (mix_one (moved P I s d) M (slot_word_of P s 0) 0 (inside P (moved P I s d) s 0 coherent c.source.held.in_range (omega arith)) mix) [
    | inl e ↦ subst (SameMeaning P (moved P I s d)) (sym e) (same_itself P (moved P I s d) coherent)
    | inr e ↦ subst (SameMeaning P (moved P I s d)) (sym e) same_left
  ]

  -- ---- what stands then

  pub left_number : slot_inode P (left P I s d) s ≡ 0
  left_number = stored P (moved P I s d) s 0 coherent c.source.held.in_range

  pub left_word : (a : ℕ) → a ≢ slot_word_of P s 0 → a ≢ slot_word_of P d 0 → word (left P I s d) a ≡ word I a
  unfolding word
  left_word a ns nd =
      get_or-set_other (moved P I s d) (slot_word_of P s 0) a 0 0 ns ∙ get_or-set_other I (slot_word_of P d 0) a (slot_inode P I s) 0 nd

  left_pointer : (t : ℕ) → slot_pointer P (left P I s d) t ≡ slot_pointer P I t
  left_pointer t = by.pointer t ∙ (here.only P I pa pb s d c).pointer t

  left_held : (t : ℕ) → IsHeld P (left P I s d) t → IsHeld P I t
  left_held t held = here.held_back P I pa pb s d c t (only_slot.held_back by t held)

  held_left : (t : ℕ) → IsHeld P I t → IsHeld P (left P I s d) t
  held_left t held = only_slot.held_forward by t (here.held_forward P I pa pb s d c t held)

  left_target : slot_inode P (left P I s d) d ≡ slot_inode P I s
  left_target = by.inode d (λ e. here.apart P I pa pb s d c (sym e)) ∙ here.number_new P I pa pb s d c

  -- the reached slots are those that the commit left
  slot_before : (t : ℕ) → IsReachedSlot P (left P I s d) t → IsReachedSlot P (moved P I s d) t
  slot_before t r =
      let ns : t ≢ s = λ e. r.live.names (ap (slot_inode P (left P I s d)) e ∙ left_number) in
      let owner = only_slot.same_owner by t r.live.held.in_range in
      let reached : Reached P (moved P I s d) (slot_owner P (moved P I s d) t) =
      subst (Reached P (moved P I s d)) owner (r.owner.0, (same_left.names r.owner.0 (slot_owner P (left P I s d) t)).1 r.owner.1) in
      record {
        owner = reached;
        directory = sym (by.node_kind (slot_owner P (moved P I s d) t) (reached-le P (moved P I s d) coherent (slot_owner P (moved P I s d) t) reached))
            ∙ ap (inode_kind (left P I s d)) (sym owner) ∙ r.directory;
        live = record {
          held = only_slot.held_back by t r.live.held;
          names = λ z. r.live.names (by.inode t ns ∙ z);
          stays = λ q held points. absurd (elim (cases_eq q d) [
            | inl e ↦ (let mine = sym (ap (slot_pointer P (moved P I s d)) e ∙ is_left.pointer) ∙ points in ns (omega (arith, mine)))
            | inr nd ↦ (let zero = (here.only P I pa pb s d c).pointer q ∙ c.alone q (here.held_back P I pa pb s d c q held) nd in omega (arith, zero, points))
          ]);
        };
      }

  links_left : (x n : ℕ) → Reached P (left P I s d) x → HasLinks P (moved P I s d) x n → HasLinks P (left P I s d) x n
  links_left x n r links =
      let was : Reached P (moved P I s d) x = (r.0, (same_left.names r.0 x).1 r.1) in
      let kind : inode_kind (left P I s d) x ≡ inode_kind (moved P I s d) x = by.node_kind x (reached-le P (moved P I s d) coherent x was) in
      record {
        file = λ one. at_most 0 n (IsNameOf P (moved P I s d) x) (IsNameOf P (left P I s d) x) (λ t name.
            let ns : t ≢ s = λ e. name.slot.live.names (ap (slot_inode P (left P I s d)) e ∙ left_number) in
            record { slot = slot_before t name.slot; inode = sym (by.inode t ns) ∙ name.inode }) (links.file (sym kind ∙ one));
        directory = λ two. at_most 2 n (IsChildOf P (moved P I s d) x) (IsChildOf P (left P I s d) x) (λ t child.
            let ns : t ≢ s = λ e. child.slot.live.names (ap (slot_inode P (left P I s d)) e ∙ left_number) in
            let slot = slot_before t child.slot in
            record {
              slot = slot;
              owner = sym (only_slot.same_owner by t child.slot.live.held.in_range) ∙ child.owner;
              directory = sym (by.node_kind (slot_inode P (moved P I s d) t) ((coherent Rule.inodes t).most slot))
                  ∙ ap (inode_kind (left P I s d)) (sym (by.inode t ns)) ∙ child.directory;
            }) (links.directory (sym kind ∙ two));
      }

  -- ---- the count that falls

  falls_reached : (y : ℕ) → IsLowered P I s d y → Reached P I y
  falls_reached y falls = elim falls [
    | inl file ↦ subst (Reached P I) (sym file.2) (here.replaced_reached P I pa pb s d c file.1)
    | inr parent ↦ subst (Reached P I) (sym parent.2) (pa, c.source_path)
  ]

  pub falls_range : (y : ℕ) → IsLowered P I s d y → (1 ≤ y) × (y ≤ inodes_of P)
  falls_range y falls = in_range P I c.coherent y (falls_reached y falls)

  pub one_falls : (y z : ℕ) → IsLowered P I s d y → IsLowered P I s d z → y ≡ z
  one_falls y z a b = elim a [
    | inl file ↦ elim b [ inl also ↦ file.2 ∙ sym also.2 | inr parent ↦ (let one = file.0 in let two = parent.0 in absurd (omega (arith, one, two))) ]
    | inr parent ↦ elim b [ inl file ↦ (let one = file.0 in let two = parent.0 in absurd (omega (arith, one, two))) | inr also ↦ parent.2 ∙ sym also.2 ]
  ]

  pub falls_or_not : ((y : ℕ) × IsLowered P I s d y) ⊎ ((y : ℕ) → IsLowered P I s d y → ⊥)
  falls_or_not = elim (counts.source_kind P I pa pb s d c) [
    | inl file ↦ elim (cases_eq (slot_inode P I d) 0) [
      | inl none ↦ inr (λ y falls. elim falls [ inl replaced ↦ replaced.1 none | inr parent ↦ (let two = parent.0 in omega (arith, file, two)) ])
      | inr some ↦ inl (slot_inode P I d, inl (file, some, refl))
    ]
    | inr two ↦ elim (cases_eq (slot_inode P I d) 0) [
      | inr some ↦ inl (slot_owner P I s, inr (two, inr some, refl))
      | inl none ↦ elim (cases_eq (slot_owner P I d) (slot_owner P I s)) [
        | inr other ↦ inl (slot_owner P I s, inr (two, inl other, refl))
        | inl same ↦ inr (λ y falls. elim falls [
          | inl replaced ↦ replaced.1 none
          | inr parent ↦ elim parent.1 [ inl other ↦ other same | inr some ↦ some none ]
        ])
      ]
    ]
  ]

  -- ---- the source's words, the pointer and the count

  can_point : CanPoint P (left P I s d) d 0
  can_point = record {
    coherent = same_left.coherent;
    held = held_left d c.held;
    old = λ t points same.
        let is : s ≡ t = (let mine = sym (left_pointer d ∙ c.pointer) ∙ points in omega (arith, mine)) in
        subst (λ u. slot_inode P (left P I s d) u ≡ 0) is left_number;
    new = λ t none. absurd (omega (arith, none));
    alone = λ t held ne. left_pointer t ∙ c.alone t (left_held t held) ne;
    target = λ none. absurd (none refl);
  }

  module _ (J : List ℕ) (near : IsAlmostTidy P I s d) (clears : ClearsSlots P I (left P I s d) J s d) where
    clear_descriptor : (j f : ℕ) → j < data_pages_of P → f < 8
        → word J (descriptor_word_of P j f) ≡ word (left P I s d) (descriptor_word_of P j f)
    clear_descriptor j f lt l8 =
        clears.others (descriptor_word_of P j f) (descriptor-ne_slot P j f d 1 lt l8) (λ g low high. descriptor-ne_slot P j f s g lt l8)
        (λ y falls. let (some, most) = falls_range y falls in descriptor-ne_inode P j f y 1 some most (omega arith))

    left_descriptor : (j f : ℕ) → j < data_pages_of P → f < 8 → word (left P I s d) (descriptor_word_of P j f) ≡ word I (descriptor_word_of P j f)
    left_descriptor j f lt l8 = left_word (descriptor_word_of P j f) (descriptor-ne_slot P j f s 0 lt l8) (descriptor-ne_slot P j f d 0 lt l8)

    left_inode : (x f : ℕ) → 1 ≤ x → x ≤ inodes_of P → f < 16 → word (left P I s d) (inode_word_of x f) ≡ word I (inode_word_of x f)
    left_inode x f some most lt = left_word (inode_word_of x f) (inode-ne_slot P x f s 0 some most lt) (inode-ne_slot P x f d 0 some most lt)

    clear_inode : (x f : ℕ) → 1 ≤ x → x ≤ inodes_of P → f < 16 → (f ≢ 1) ⊎ (IsLowered P I s d x → ⊥)
        → word J (inode_word_of x f) ≡ word (left P I s d) (inode_word_of x f)
    clear_inode x f some most lt other =
        clears.others (inode_word_of x f) (inode-ne_slot P x f d 1 some most lt) (λ g low high. inode-ne_slot P x f s g some most lt)
        (λ y falls e. let (least, high) = falls_range y falls in
        let (same, field) = inode_word-one x f y 1 some least lt (omega arith) e in
        elim other [ inl ne ↦ ne field | inr never ↦ never (subst (IsLowered P I s d) (sym same) falls) ])

    clear_slot : (t f : ℕ) → f < 16 → (f ≡ 0) ⊎ (t ≢ s) → (f ≢ 1) ⊎ (t ≢ d)
        → word J (slot_word_of P t f) ≡ word (left P I s d) (slot_word_of P t f)
    clear_slot t f lt source target = clears.others (slot_word_of P t f)
        (λ e. let (same, field) = slot_word-one P t f d 1 lt (omega arith) e in elim target [ inl ne ↦ ne field | inr ne ↦ ne same ])
        (λ g low high e. let (same, field) = slot_word-one P t f s g lt high e in elim source [ inl z ↦ omega (arith, z, field, low) | inr ne ↦ ne same ])
        (λ y falls e. let (some, most) = falls_range y falls in inode-ne_slot P y 1 t f some most (omega arith) (sym e))

    -- the link word of x then
    pub links_clear : (x : ℕ) → 1 ≤ x → x ≤ inodes_of P → IsFallen P I s d x (inode_links J x)
    unfolding inode_links
    links_clear x some most = record {
      falls = λ falls. clears.links x falls ∙ left_inode x 1 some most (omega arith);
      stays = λ never. clear_inode x 1 some most (omega arith) (inr never) ∙ left_inode x 1 some most (omega arith);
    }

    FreeOrSame : ℕ → Type 0
    FreeOrSame a = (word J a ≡ word (left P I s d) a) ⊎ IsFree P (left P I s d) a

    source_case : (k a : ℕ) → k < 15 → a ≡ slot_word_of P s (1 + k) → FreeOrSame a
    unfolding FreeOrSame slot_pointer
    source_case k a lt e = elim (cases_eq k 0) [
      | inl z ↦
          let one : 1 + k ≡ 1 = omega (arith, z) in
          let there : a ≡ slot_word_of P s 1 = e ∙ ap (slot_word_of P s) one in
          let zero : word (left P I s d) (slot_word_of P s 1) ≡ 0 = left_pointer s ∙ c.alone s c.source.held (here.apart P I pa pb s d c) in
          inl (ap (word J) there ∙ clears.zeros 1 (omega arith) (omega arith)
          ∙ sym zero ∙ ap (word (left P I s d)) (sym there))
      | inr some ↦ inr (subst (IsFree P (left P I s d)) (sym e) (IsFree.name s (1 + k) (omega (arith, some)) (omega (arith, lt))
          (held_left s c.source.held) (λ r. r.live.names left_number)))
    ]

    free_or_same : (a : ℕ) → a ≢ slot_word_of P d 1 → FreeOrSame a
    unfolding FreeOrSame
    free_or_same a nd = elim (dec_among (λ k. slot_word_of P s (1 + k)) 15 a) [
      | yes (k, lt, e) ↦ source_case k a lt e
      | no other ↦
          let ns : (f : ℕ) → 1 ≤ f → f < 16 → a ≢ slot_word_of P s f = λ f low high e.
          other (f - 1, omega (arith, low, high), e ∙ ap (slot_word_of P s) (let is : f ≡ 1 + (f - 1) = omega (arith, low) in is)) in
          elim falls_or_not [
            | inr never ↦ inl (clears.others a nd ns (λ y falls. absurd (never y falls)))
            | inl (y, falls) ↦ elim (dec_eq a (inode_word_of y 1)) [
              | yes e ↦ (let (some, most) = falls_range y falls in inr (subst (IsFree P (left P I s d)) (sym e) (IsFree.link y some most)))
              | no ne ↦ inl (clears.others a nd ns (λ z also e. ne (e ∙ ap (λ x. inode_word_of x 1) (one_falls z y also falls))))
            ]
          ]
    ]

    enough : (x : ℕ) → Reached P (left P I s d) x → HasLinks P (left P I s d) x (inode_links J x)
    enough x r =
        let was : Reached P (moved P I s d) x = (r.0, (same_left.names r.0 x).1 r.1) in
        let old = here.reached_back P I pa pb s d c x was in
        let (some, most) = in_range P I c.coherent x old in
        links_left x (inode_links J x) r (counts.enough P I pa pb s d c near x (inode_links J x) old (links_clear x some most))

    pointing : StoresPointing P (left P I s d) J d 0
    unfolding FreeOrSame page_owner
    pointing = stores_pointing P (left P I s d) J d 0 can_point clears.size free_or_same (λ j lt. clear_descriptor j 0 lt (omega arith)) enough clears.pointer

    pub clears_mix : (M : List ℕ) → IsMix (left P I s d) J M → SameMeaning P (moved P I s d) M
    clears_mix M mix = same_chained P (moved P I s d) (left P I s d) M same_left (pointing_law P (left P I s d) J M d 0 can_point pointing mix)

    pub is_cleared : HasCleared P I J s d
    unfolding slot_inode
    is_cleared = record {
      means = clears_mix J (record { size = clears.size; words = λ a. inr refl });
      descriptors = λ j f lt l8. clear_descriptor j f lt l8 ∙ left_descriptor j f lt l8;
      inodes = λ x f some most lt ne. clear_inode x f some most lt (inl ne) ∙ left_inode x f some most lt;
      links = links_clear;
      slots = λ t f ns nd lt. clear_slot t f lt (inr ns) (inr nd)
          ∙ left_word (slot_word_of P t f) (slot-ne_slot P t f s 0 lt (omega arith) ns) (slot-ne_slot P t f d 0 lt (omega arith) nd);
      source = λ f lt. elim (cases_eq f 0) [
        | inl z ↦ ap (λ g. word J (slot_word_of P s g)) z ∙ clear_slot s 0 (omega arith) (inl refl) (inr (here.apart P I pa pb s d c)) ∙ left_number
        | inr some ↦ clears.zeros f (omega (arith, some)) lt
      ];
      number = clear_slot d 0 (omega arith) (inl refl) (inl (λ e. omega (arith, e))) ∙ left_target;
      name = λ f low lt. clear_slot d f lt (inr (λ e. here.apart P I pa pb s d c (sym e))) (inl (λ e. omega (arith, e, low)))
          ∙ left_word (slot_word_of P d f) (slot-ne_slot P d f s 0 lt (omega arith) (λ e. here.apart P I pa pb s d c (sym e)))
          (slot-ne_field P d f d 0 lt (omega arith) (λ e. omega (arith, e, low)));
      pointer = clears.pointer;
      version = clears.others 1 (head-ne_slot P d 1 1 (omega arith)) (λ f low high. head-ne_slot P s f 1 (omega arith)) (λ y falls. head-ne_inode y 1 1 (omega arith))
          ∙ left_word 1 (head-ne_slot P s 0 1 (omega arith)) (head-ne_slot P d 0 1 (omega arith));
    }
