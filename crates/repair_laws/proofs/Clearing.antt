-- The third step stores to free words alone, and to owners of pages that nobody needs.
use Rattle.std.proofs.Common.{◌≡◌, ◌≢◌, ◌⊎◌, inl, inr, ℕ, ◌<◌, ◌≤◌, List, refl, sym, ap, subst, ◌∙◌, arith}
use Rattle.std.proofs.lemmas.Bool.{cases_eq, cases_lt}
use Rattle.layout.specs.Fields.{word, inode_links, inode_size, page_owner, page_kind, page_offset, slot_inode, slot_pointer}
use Rattle.layout.specs.Geometry.{data_pages_of, page_of_slot, inode_word_of, descriptor_word_of, slot_word_of}
use Rattle.layout.proofs.GeometryLaws.{slot_below}
use Rattle.image_reading.specs.Reading.{IsDirectory, HasBytes, slot_owner, IsHeld, IsLive, Reached, pages_of_size}
use Rattle.image_reading.specs.Repairs.{IsKept}
use Rattle.image_reading.specs.Soundness.{Rule, IsCoherent, HasLinks}
use Rattle.image_counts.proofs.Paths.{in_range}
use Rattle.image_laws.specs.Exempt.{IsExempt}
use Rattle.image_laws.specs.Frame.{SameMeaning}
use Rattle.image_laws.specs.Free.{IsFree, Stores}
use Rattle.image_laws.specs.Quiet.{IsMix}
use Rattle.image_laws.proofs.Free.{stores_law}
use Rattle.image_laws.proofs.Meaning.{same_chained}
use Rattle.repair_laws.specs.Mended.{Clears, IsRepair, IsUnkept}
use Rattle.repair_laws.specs.Laws.{SameUse}
use Rattle.repair_laws.proofs.After.{stays}
use Rattle.repair_laws.proofs.Apart.{clears_slot, clears_descriptor, clears_inode}
use Rattle.repair_laws.proofs.Kept.{kept_held, counted_enough}
use Rattle.repair_laws.proofs.Pointing as pointing
use Rattle.repair_laws.proofs.Uses.{second_means, second_use, reached_before}

module _ (P : ℕ) (W A B C K : List ℕ) (coherent : IsCoherent P W) (repair : IsRepair P W A B C K) where
  means : SameMeaning P W B
  means = second_means P W A B C K coherent repair

  use_same : SameUse P W B
  use_same = second_use P W A B C K coherent repair

  -- no held slot points
  none_points : (s : ℕ) → IsHeld P W s → slot_pointer P B s ≡ 0
  none_points = pointing.second_pointer P W coherent A repair.first B repair.second

  numbered : (s : ℕ) → IsHeld P W s → slot_inode P B s ≢ 0 → IsLive P W s
  numbered = pointing.second_numbered P W coherent A repair.first B repair.second

  -- ---- the fields after it

  pub third_rest : (j f : ℕ) → j < data_pages_of P → f < 8 → 1 ≤ f → word C (descriptor_word_of P j f) ≡ word B (descriptor_word_of P j f)
  third_rest j f lt small some = stays (Clears P W) B C repair.third (descriptor_word_of P j f) (λ v clears.
      let (zero, free, none) = clears_descriptor P W j f coherent lt small clears refl in omega (arith, zero, some))

  pub third_owner : (j : ℕ) → j < data_pages_of P → (page_owner P C j ≡ page_owner P B j) ⊎ (IsUnkept P W j × (page_owner P C j ≡ 0))
  unfolding page_owner
  third_owner j lt = elim (repair.third.words (descriptor_word_of P j 0)) [
    | inl same ↦ inl same
    | inr has ↦
        let (zero, free, none) = clears_descriptor P W j 0 coherent lt (omega arith) has.1 refl in
        inr (free, repair.third.new (descriptor_word_of P j 0) 0 (Clears.owner j free))
  ]

  pub third_free : (j : ℕ) → IsUnkept P W j → page_owner P C j ≡ 0
  unfolding page_owner
  third_free j unkept = repair.third.new (descriptor_word_of P j 0) 0 (Clears.owner j unkept)

  pub third_number : (s : ℕ) → slot_inode P C s ≡ slot_inode P B s
  unfolding slot_inode
  third_number s = stays (Clears P W) B C repair.third (slot_word_of P s 0) (λ v clears.
      let (some, dead, none) = clears_slot P W s 0 coherent (omega arith) clears refl in omega (arith, some))

  pub third_pointer : (s : ℕ) → IsHeld P W s → slot_pointer P C s ≡ 0
  unfolding slot_pointer
  third_pointer s held = elim (repair.third.words (slot_word_of P s 1)) [
    | inl same ↦ same ∙ none_points s held
    | inr has ↦ let (some, dead, none) = clears_slot P W s 1 coherent (omega arith) has.1 refl in repair.third.new (slot_word_of P s 1) has.0 has.1 ∙ none
  ]

  -- ---- a page that isn't kept

  module _ (j : ℕ) (unkept : IsUnkept P W j) (owned : page_owner P B j ≢ 0) where
    lt : j < data_pages_of P
    lt = unkept.in_range

    not_kept : ¬ IsKept P B j
    not_kept kept = unkept.free ((use_same.kept j).1 kept)

    slot_held : page_kind P B j ≡ 2 → (s : ℕ) → page_of_slot s ≡ j → IsHeld P W s
    unfolding slot_owner
    slot_held kind s at = (use_same.held s).1 (record {
      in_range = slot_below P s (subst (λ z. z < data_pages_of P) (sym at) lt);
      kind = ap (page_kind P B) at ∙ kind;
      owned = λ none. owned (ap (page_owner P B) (sym at) ∙ none);
    })

    is_directory : page_kind P B j ≡ 2 → Reached P B (page_owner P B j) → IsDirectory B (page_owner P B j)
    is_directory kind reached = elim ((means.coherent Rule.kinds (page_owner P B j)).kind reached) [
      | inl file ↦ let one = (means.coherent Rule.page_kinds j).file lt reached file in absurd (omega (arith, one, kind))
      | inr directory ↦ directory
    ]

    is_past : page_kind P B j ≢ 2 → Reached P B (page_owner P B j)
        → (HasBytes B (page_owner P B j)) × (pages_of_size (inode_size B (page_owner P B j)) ≤ page_offset P B j) × (page_kind P B j ≡ 1)
    is_past kind reached = elim ((means.coherent Rule.kinds (page_owner P B j)).kind reached) [
      | inr directory ↦ absurd (kind ((means.coherent Rule.page_kinds j).directory lt reached directory))
      | inl file ↦ elim (cases_lt (page_offset P B j) (pages_of_size (inode_size B (page_owner P B j)))) [
        | inl below ↦ absurd (not_kept (inl (record { in_range = lt; owner = reached; file = file; below = below })))
        | inr past ↦ (file, past, (means.coherent Rule.page_kinds j).file lt reached file)
      ]
    ]

    is_empty : page_kind P B j ≡ 2 → Reached P B (page_owner P B j) → (s : ℕ) → page_of_slot s ≡ j → slot_inode P B s ≡ 0
    unfolding slot_owner
    is_empty kind reached s at = elim (cases_eq (slot_inode P B s) 0) [
      | inl none ↦ none
      | inr some ↦ absurd (not_kept (inr (record {
        reached = reached;
        directory = is_directory kind reached;
        slot = (s, at, ap (page_owner P B) at, (use_same.live s).0 (numbered s (slot_held kind s at) some));
      })))
    ]

    exempt : IsExempt P B C j (page_owner P B j)
    unfolding page_kind page_offset
    exempt = record {
      before = inr refl;
      after = inl (third_free j unkept);
      same_kind = third_rest j 1 lt (omega arith) (omega arith);
      same_offset = third_rest j 2 lt (omega arith) (omega arith);
      file = is_past;
      pointers = λ kind s at. (none_points s (slot_held kind s at), third_pointer s (slot_held kind s at));
      target = λ kind s d at held points. let none = none_points d ((use_same.held d).1 held) in omega (arith, none, points);
      directory = is_directory;
      empty = λ kind reached s at. let none = is_empty kind reached s at in (none, third_number s ∙ none);
    }

  -- ---- the words that change

  free_word : {a v : ℕ} → Clears P W a v → (word C a ≡ word B a) ⊎ IsFree P B a
  unfolding slot_pointer
  free_word (Clears.owner j unkept) = inr (IsFree.owner j unkept.in_range)
  free_word (Clears.links i n reached count) = let (least, most) = in_range P W coherent i reached in inr (IsFree.link i least most)
  free_word (Clears.slot s f dead low small) = elim (cases_eq f 1) [
    | inr more ↦ inr (IsFree.name s f (omega (arith, low, more)) small ((use_same.held s).0 (kept_held P W coherent s dead.page)) (λ slot. dead.dead ((use_same.live s).1 slot.live)))
    | inl one ↦
        let held = kept_held P W coherent s dead.page in
        inl (ap (λ g. word C (slot_word_of P s g)) one ∙ third_pointer s held ∙ sym (none_points s held) ∙ ap (λ g. word B (slot_word_of P s g)) (sym one))
  ]

  owners : (j : ℕ) → j < data_pages_of P → (page_owner P C j ≡ page_owner P B j) ⊎ ((g : ℕ) × IsExempt P B C j g)
  owners j lt = elim (third_owner j lt) [
    | inl same ↦ inl same
    | inr (unkept, none) ↦ elim (cases_eq (page_owner P B j) 0) [
      | inl unowned ↦ inl (none ∙ sym unowned)
      | inr owned ↦ inr (page_owner P B j, exempt j unkept owned)
    ]
  ]

  links : (i : ℕ) → Reached P B i → HasLinks P B i (inode_links C i)
  unfolding inode_links
  links i reached = elim (repair.third.words (inode_word_of i 1)) [
    | inl same ↦ subst (HasLinks P B i) (sym same) (means.coherent Rule.links i reached)
    | inr has ↦
        let before = reached_before P W B means i reached in
        let (least, most) = in_range P W coherent i before in
        let (one, there, count) = clears_inode P W i 1 least most coherent (omega arith) has.1 refl in
        subst (HasLinks P B i) (sym (repair.third.new (inode_word_of i 1) has.0 has.1)) (counted_enough P B i has.0 ((use_same.counted i has.0 before).0 count))
  ]

  stores : Stores P B C
  stores = record {
    size = repair.third.size;
    words = λ a. elim (repair.third.words a) [ inl same ↦ inl same | inr has ↦ free_word has.1 ];
    owners = owners;
    links = links;
  }

  pub third_mix : (M : List ℕ) → IsMix B C M → SameMeaning P W M
  third_mix M mix = same_chained P W B M means (stores_law P B C M means.coherent stores mix)

  pub third_means : SameMeaning P W C
  third_means = third_mix C (record { size = repair.third.size; words = λ a. inr refl })
