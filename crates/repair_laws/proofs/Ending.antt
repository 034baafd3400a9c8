-- What the last words are, in the words before: what is kept stays, what isn't is zero.
use Rattle.std.proofs.Common.{◌≡◌, ◌≢◌, ◌↔◌, inl, inr, ℕ, ◌<◌, ◌≤◌, List, refl, sym, ap, subst, ◌∙◌, arith}
use Rattle.std.proofs.lemmas.Bool.{cases_eq}
use Rattle.layout.specs.Fields.{word, descriptor_words, inode_kind, inode_links, inode_size, page_owner, page_kind, page_offset, slot_inode, slot_pointer}
use Rattle.layout.specs.Geometry.{data_pages_of, page_of_slot, inode_word_of, descriptor_word_of, slot_word_of}
use Rattle.layout.proofs.GeometryLaws.{page_of_slot_below}
use Rattle.image_reading.specs.Reading.{slot_owner, IsHeld, IsLive, Reached, IsReachedSlot, IsNameOf, IsChildOf, IsLinkCount, pages_of_size}
use Rattle.image_reading.specs.Repairs.{IsKept, IsKeptFilePage, IsKeptDirectoryPage}
use Rattle.image_reading.specs.Soundness.{IsCoherent}
use Rattle.image_reading.proofs.Credits.{count_same}
use Rattle.image_counts.proofs.Decided.{room_below}
use Rattle.image_counts.proofs.Paths.{in_range, inode_reached}
use Rattle.image_laws.specs.Frame.{SameMeaning}
use Rattle.repair_laws.specs.Mended.{Clears, Frees, IsRepair}
use Rattle.repair_laws.proofs.After.{stays}
use Rattle.repair_laws.proofs.Apart.{clears_descriptor, clears_inode, frees_descriptor, frees_slot}
use Rattle.repair_laws.proofs.Clearing.{third_free, third_number, third_pointer}
use Rattle.repair_laws.proofs.Freeing.{fourth_owner, fourth_inode, fourth_means}
use Rattle.repair_laws.proofs.Kept.{kept_or_not}
use Rattle.repair_laws.proofs.Pointing as pointing
use Rattle.repair_laws.proofs.Uses.{reached_after, reached_before}

module _ (P : ℕ) (W A B C K : List ℕ) (coherent : IsCoherent P W) (repair : IsRepair P W A B C K) where
  means : SameMeaning P W K
  means = fourth_means P W A B C K coherent repair

  pub kept_below : (j : ℕ) → IsKept P W j → j < data_pages_of P
  kept_below j kept = elim kept [ inl page ↦ page.in_range | inr room ↦ room_below P W (page_owner P W j) j room ]

  -- ---- descriptors

  pub kept_word : (j f : ℕ) → IsKept P W j → f < 8 → word K (descriptor_word_of P j f) ≡ word W (descriptor_word_of P j f)
  kept_word j f kept small =
      let lt = kept_below j kept in
      stays (Frees P W) C K repair.fourth (descriptor_word_of P j f) (λ v frees. let (some, free) = frees_descriptor P W j f lt small frees refl in free.free kept)
      ∙ stays (Clears P W) B C repair.third (descriptor_word_of P j f) (λ v clears. let (zero, free, none) = clears_descriptor P W j f coherent lt small clears refl in free.free kept)
      ∙ pointing.second_descriptor P W coherent A repair.first B repair.second j f lt small

  pub kept_owner : (j : ℕ) → IsKept P W j → page_owner P K j ≡ page_owner P W j
  unfolding page_owner
  kept_owner j kept = kept_word j 0 kept (omega arith)

  kept_kind : (j : ℕ) → IsKept P W j → page_kind P K j ≡ page_kind P W j
  unfolding page_kind
  kept_kind j kept = kept_word j 1 kept (omega arith)

  pub kept_offset : (j : ℕ) → IsKept P W j → page_offset P K j ≡ page_offset P W j
  unfolding page_offset
  kept_offset j kept = kept_word j 2 kept (omega arith)

  pub free_owner : (j : ℕ) → j < data_pages_of P → ¬ IsKept P W j → page_owner P K j ≡ 0
  free_owner j lt free = fourth_owner P W A B C K coherent repair j lt ∙ third_free P W A B C K coherent repair j (record { in_range = lt; free = free })

  pub free_word : (j f : ℕ) → j < data_pages_of P → ¬ IsKept P W j → f < descriptor_words W → word K (descriptor_word_of P j f) ≡ 0
  unfolding page_owner
  free_word j f lt free small = elim (cases_eq f 0) [
    | inl zero ↦ ap (λ g. word K (descriptor_word_of P j g)) zero ∙ free_owner j lt free
    | inr some ↦ repair.fourth.new (descriptor_word_of P j f) 0 (Frees.descriptor j f (record { in_range = lt; free = free }) (omega (arith, some)) small)
  ]

  -- a page with an owner is kept
  pub owned_kept : (j : ℕ) → j < data_pages_of P → page_owner P K j ≢ 0 → IsKept P W j
  owned_kept j lt owned = elim (kept_or_not P W coherent j lt) [ inl kept ↦ kept | inr free ↦ absurd (owned (free_owner j lt free)) ]

  -- ---- slots

  same_slot_word : (s f : ℕ) → f < 16 → word K (slot_word_of P s f) ≡ word C (slot_word_of P s f)
  same_slot_word s f small = stays (Frees P W) C K repair.fourth (slot_word_of P s f) (λ v frees. frees_slot P W s f small frees refl)

  pub last_number : (s : ℕ) → slot_inode P K s ≡ slot_inode P B s
  unfolding slot_inode
  last_number s = same_slot_word s 0 (omega arith) ∙ third_number P W A B C K coherent repair s

  pub last_pointer : (s : ℕ) → IsHeld P W s → slot_pointer P K s ≡ 0
  unfolding slot_pointer
  last_pointer s held = same_slot_word s 1 (omega arith) ∙ third_pointer P W A B C K coherent repair s held

  pub dead_word : (s f : ℕ) → IsKeptDirectoryPage P W (page_of_slot s) → ¬ IsLive P W s → 1 ≤ f → f < 16 → word K (slot_word_of P s f) ≡ 0
  dead_word s f page dead some small = same_slot_word s f small ∙ repair.third.new (slot_word_of P s f) 0 (Clears.slot s f (record { page = page; dead = dead }) some small)

  held_kept : (s : ℕ) → IsHeld P K s → IsKept P W (page_of_slot s)
  unfolding slot_owner
  held_kept s held = owned_kept (page_of_slot s) (page_of_slot_below P s held.in_range) held.owned

  pub held_before : (s : ℕ) → IsHeld P K s → IsHeld P W s
  unfolding slot_owner
  held_before s held =
      let kept = held_kept s held in record {
        in_range = held.in_range;
        kind = sym (kept_kind (page_of_slot s) kept) ∙ held.kind;
        owned = λ none. held.owned (kept_owner (page_of_slot s) kept ∙ none);
      }

  pub none_points : (s : ℕ) → IsHeld P K s → slot_pointer P K s ≡ 0
  none_points s held = last_pointer s (held_before s held)

  pub live_before : (s : ℕ) → IsLive P K s → IsLive P W s
  live_before s live =
      pointing.second_numbered P W coherent A repair.first B repair.second s (held_before s live.held) (λ none. live.names (last_number s ∙ none))

  pub live_number : (s : ℕ) → IsLive P W s → slot_inode P K s ≡ slot_inode P W s
  live_number s live = last_number s ∙ pointing.second_live_number P W coherent A repair.first B repair.second s live

  pub live_after : (s : ℕ) → IsKept P W (page_of_slot s) → IsLive P W s → IsLive P K s
  unfolding slot_owner
  live_after s kept live = record {
    held = record {
      in_range = live.held.in_range;
      kind = kept_kind (page_of_slot s) kept ∙ live.held.kind;
      owned = λ none. live.held.owned (sym (kept_owner (page_of_slot s) kept) ∙ none);
    };
    names = λ none. live.names (sym (live_number s live) ∙ none);
    stays = λ d held at same. let none = none_points d held in omega (arith, none, at);
  }

  -- ---- inodes

  inode_word : (i f : ℕ) → Reached P W i → f < 16 → f ≢ 1 → word K (inode_word_of i f) ≡ word W (inode_word_of i f)
  inode_word i f reached small other =
      let (least, most) = in_range P W coherent i reached in
      fourth_inode P W A B C K coherent repair i f reached small
      ∙ stays (Clears P W) B C repair.third (inode_word_of i f) (λ v clears. let (one, there, count) = clears_inode P W i f least most coherent small clears refl in other one)
      ∙ pointing.second_inodes P W coherent A repair.first B repair.second i f least most small

  pub same_kind : (i : ℕ) → Reached P W i → inode_kind K i ≡ inode_kind W i
  unfolding inode_kind
  same_kind i reached = inode_word i 0 reached (omega arith) (λ e. omega (arith, e))

  pub same_size : (i : ℕ) → Reached P W i → inode_size K i ≡ inode_size W i
  unfolding inode_size
  same_size i reached = inode_word i 2 reached (omega arith) (λ e. omega (arith, e))

  pub counted_links : (i n : ℕ) → Reached P W i → IsLinkCount P W i n → inode_links K i ≡ n
  unfolding inode_links
  counted_links i n reached count = fourth_inode P W A B C K coherent repair i 1 reached (omega arith) ∙ repair.third.new (inode_word_of i 1) n (Clears.links i n reached count)

  -- ---- kept pages and reached slots

  pub slots_page : (s : ℕ) → IsReachedSlot P W s → IsKept P W (page_of_slot s)
  unfolding slot_owner
  slots_page s slot = inr (record { reached = slot.owner; directory = slot.directory; slot = (s, refl, refl, slot.live) })

  slots_owner : (s : ℕ) → IsKept P W (page_of_slot s) → slot_owner P K s ≡ slot_owner P W s
  unfolding slot_owner
  slots_owner s kept = kept_owner (page_of_slot s) kept

  pub slot_after : (s : ℕ) → IsReachedSlot P W s → IsReachedSlot P K s
  slot_after s slot =
      let owner = slots_owner s (slots_page s slot) in record {
        owner = subst (Reached P K) (sym owner) (reached_after P W K means (slot_owner P W s) slot.owner);
        directory = ap (inode_kind K) owner ∙ same_kind (slot_owner P W s) slot.owner ∙ slot.directory;
        live = live_after s (slots_page s slot) slot.live;
      }

  pub slot_before : (s : ℕ) → IsReachedSlot P K s → IsReachedSlot P W s
  slot_before s slot =
      let owner = slots_owner s (held_kept s slot.live.held) in
      let reached : Reached P W (slot_owner P W s) = subst (Reached P W) owner (reached_before P W K means (slot_owner P K s) slot.owner) in record {
        owner = reached;
        directory = sym (same_kind (slot_owner P W s) reached) ∙ ap (inode_kind K) (sym owner) ∙ slot.directory;
        live = live_before s slot.live;
      }

  file_page : (j : ℕ) → IsKeptFilePage P W j → IsKeptFilePage P K j
  file_page j page =
      let owner = kept_owner j (inl page) in
      let size : inode_size K (page_owner P K j) ≡ inode_size W (page_owner P W j) = ap (inode_size K) owner ∙ same_size (page_owner P W j) page.owner in record {
        in_range = page.in_range;
        owner = subst (Reached P K) (sym owner) (reached_after P W K means (page_owner P W j) page.owner);
        file = ap (inode_kind K) owner ∙ same_kind (page_owner P W j) page.owner ∙ page.file;
        below =
            let below' : page_offset P W j < pages_of_size (inode_size K (page_owner P K j)) = subst (λ z. page_offset P W j < pages_of_size z) (sym size) page.below in
            subst (λ z. z < pages_of_size (inode_size K (page_owner P K j))) (sym (kept_offset j (inl page))) below';
      }

  directory_page : (j : ℕ) → IsKeptDirectoryPage P W j → IsKeptDirectoryPage P K j
  unfolding slot_owner
  directory_page j room =
      let owner = kept_owner j (inr room) in
      let (s, page, owns, live) = room.slot in record {
        reached = subst (Reached P K) (sym owner) (reached_after P W K means (page_owner P W j) room.reached);
        directory = ap (inode_kind K) owner ∙ same_kind (page_owner P W j) room.reached ∙ room.directory;
        slot = (s, page, ap (page_owner P K) page, live_after s (subst (IsKept P W) (sym page) (inr room)) live);
      }

  pub kept_after : (j : ℕ) → IsKept P W j → IsKept P K j
  kept_after j kept = elim kept [ inl page ↦ inl (file_page j page) | inr room ↦ inr (directory_page j room) ]

  pub directory_page_before : (j : ℕ) → IsKeptDirectoryPage P K j → IsKeptDirectoryPage P W j
  unfolding slot_owner
  directory_page_before j room =
      let (s, page, owns, live) = room.slot in
      let owner = kept_owner j (subst (IsKept P W) page (held_kept s live.held)) in
      let reached : Reached P W (page_owner P W j) = subst (Reached P W) owner (reached_before P W K means (page_owner P K j) room.reached) in record {
        reached = reached;
        directory = sym (same_kind (page_owner P W j) reached) ∙ ap (inode_kind K) (sym owner) ∙ room.directory;
        slot = (s, page, ap (page_owner P W) page, live_before s live);
      }

  -- ---- links

  named : (i s : ℕ) → IsNameOf P W i s ↔ IsNameOf P K i s
  named i s = (
    λ name. record { slot = slot_after s name.slot; inode = live_number s name.slot.live ∙ name.inode },
    λ name. let slot = slot_before s name.slot in record { slot = slot; inode = sym (live_number s slot.live) ∙ name.inode },
  )

  child : (i s : ℕ) → IsChildOf P W i s ↔ IsChildOf P K i s
  child i s = (
    λ name. record {
      slot = slot_after s name.slot;
      owner = slots_owner s (slots_page s name.slot) ∙ name.owner;
      directory = ap (inode_kind K) (live_number s name.slot.live) ∙ same_kind (slot_inode P W s) (inode_reached P W coherent s name.slot) ∙ name.directory;
    },
    λ name. let slot = slot_before s name.slot in record {
      slot = slot;
      owner = sym (slots_owner s (slots_page s slot)) ∙ name.owner;
      directory = sym (same_kind (slot_inode P W s) (inode_reached P W coherent s slot)) ∙ ap (inode_kind K) (sym (live_number s slot.live)) ∙ name.directory;
    },
  )

  pub counted_after : (i n : ℕ) → Reached P W i → IsLinkCount P W i n → IsLinkCount P K i n
  counted_after i n reached count = record {
    file = λ file. count_same (IsNameOf P W i) (IsNameOf P K i) n (named i) (count.file (sym (same_kind i reached) ∙ file));
    directory = λ directory. let (m, children, is) = count.directory (sym (same_kind i reached) ∙ directory) in
        (m, count_same (IsChildOf P W i) (IsChildOf P K i) m (child i) children, is);
  }
