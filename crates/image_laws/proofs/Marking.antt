-- Words that differ in the mark alone have the same fields, mean the same, and are tidied alike.
use Rattle.std.proofs.Common.{◌≡◌, ◌≢◌, inl, inr, ℕ, ◌+◌, ◌/◌, ◌%◌, ◌^◌, ◌<◌, List, [], ◌∷◌, sym, ap, subst, ◌∙◌, arith}
use Rattle.layout.specs.Fields.{word, inode_kind, inode_links, inode_size, inode_own, page_owner, page_kind, page_offset, slot_inode, slot_pointer, slot_name, slot_words, page_byte}
use Rattle.layout.specs.Geometry.{page_of_slot, inode_word_of, descriptor_word_of, slot_word_of, page_word_of}
use Rattle.layout.specs.Name.{name_in_words}
use Rattle.layout.specs.Superblock.{mark_word}
use Rattle.layout.proofs.Widths.{same_inode_words, same_descriptor_words}
use Rattle.tree_model.specs.PathText.{Route}
use Rattle.image_reading.specs.Counts.{Count}
use Rattle.image_reading.specs.Reading.{IsDirectory, slot_owner, IsHeld, IsLive, Leads, Names, Reached, IsReachedSlot, IsNameOf, IsChildOf, IsLinkCount, IsRoomOf, pages_of_size}
use Rattle.image_reading.specs.Repairs.{IsKeptFilePage, IsKept, IsPointer, IsLitterSlot, IsLitterPage, IsLitterInode, IsLitterCount, HasRepairs, no_repairs}
use Rattle.image_reading.specs.Soundness.{Rule, HasLinks, IsCoherent}
use Rattle.image_reading.proofs.Counts.{count_none, none_counted}
use Rattle.image_reading.proofs.Credits.{count_same}
use Rattle.image_counts.specs.Entries.{IsEntryOf}
use Rattle.image_laws.specs.Agrees.{Agrees}
use Rattle.image_laws.specs.Frame.{AllSameBytes, SameMeaning}
use Rattle.image_laws.specs.Marking.{SameButMark, MarkLaw}
use Rattle.image_laws.proofs.Addresses.{head-ne_inode, head-ne_slot, head-ne_descriptor, head-ne_page}
use Rattle.image_laws.proofs.Frame.{frame}
use Rattle.image_laws.proofs.Meaning.{same_head}
use Rattle.image_laws.proofs.Words.{slot_words-same}

-- and the other way round
pub marked_back : {I J : List ℕ} → SameButMark I J → SameButMark J I
marked_back same = record { long = sym same.long; others = λ a other. sym (same.others a other) }

-- ---- fields

pub other_word : {I J : List ℕ} → SameButMark I J → (a : ℕ) → a ≢ mark_word → word J a ≡ word I a
unfolding word
other_word same a other = same.others a other

module _ {I J : List ℕ} (same : SameButMark I J) where
  inode_word : (i f : ℕ) → word J (inode_word_of i f) ≡ word I (inode_word_of i f)
  inode_word i f = other_word same (inode_word_of i f) (λ e. head-ne_inode i f mark_word (omega arith) (sym e))

  pub same_inode_kind : (i : ℕ) → inode_kind J i ≡ inode_kind I i
  unfolding inode_kind
  same_inode_kind i = inode_word i 0

  pub same_inode_links : (i : ℕ) → inode_links J i ≡ inode_links I i
  unfolding inode_links
  same_inode_links i = inode_word i 1

  pub same_inode_size : (i : ℕ) → inode_size J i ≡ inode_size I i
  unfolding inode_size
  same_inode_size i = inode_word i 2

  pub same_inode_own : (i : ℕ) → inode_own J i ≡ inode_own I i
  unfolding inode_own
  same_inode_own i = inode_word i 3

module _ (P : ℕ) {I J : List ℕ} (same : SameButMark I J) where
  descriptor_word : (j f : ℕ) → word J (descriptor_word_of P j f) ≡ word I (descriptor_word_of P j f)
  descriptor_word j f = other_word same (descriptor_word_of P j f) (λ e. head-ne_descriptor P j f mark_word (omega arith) (sym e))

  slot_word : (s f : ℕ) → word J (slot_word_of P s f) ≡ word I (slot_word_of P s f)
  slot_word s f = other_word same (slot_word_of P s f) (λ e. head-ne_slot P s f mark_word (omega arith) (sym e))

  page_word : (j w : ℕ) → word J (page_word_of P j w) ≡ word I (page_word_of P j w)
  page_word j w = other_word same (page_word_of P j w) (λ e. head-ne_page P j w mark_word (omega arith) (sym e))

  pub same_page_owner : (j : ℕ) → page_owner P J j ≡ page_owner P I j
  unfolding page_owner
  same_page_owner j = descriptor_word j 0

  pub same_page_kind : (j : ℕ) → page_kind P J j ≡ page_kind P I j
  unfolding page_kind
  same_page_kind j = descriptor_word j 1

  pub same_page_offset : (j : ℕ) → page_offset P J j ≡ page_offset P I j
  unfolding page_offset
  same_page_offset j = descriptor_word j 2

  pub same_slot_inode : (s : ℕ) → slot_inode P J s ≡ slot_inode P I s
  unfolding slot_inode
  same_slot_inode s = slot_word s 0

  pub same_slot_pointer : (s : ℕ) → slot_pointer P J s ≡ slot_pointer P I s
  unfolding slot_pointer
  same_slot_pointer s = slot_word s 1

  pub same_slot_words : (s : ℕ) → slot_words P J s ≡ slot_words P I s
  same_slot_words s = slot_words-same P I J s (λ f lt. slot_word s (2 + f))

  pub same_slot_name : (s : ℕ) → slot_name P J s ≡ slot_name P I s
  unfolding slot_name
  same_slot_name s = ap name_in_words (same_slot_words s)

  pub same_slot_owner : (s : ℕ) → slot_owner P J s ≡ slot_owner P I s
  unfolding slot_owner
  same_slot_owner s = same_page_owner (page_of_slot s)

  pub same_page_byte : (j o : ℕ) → page_byte P J j o ≡ page_byte P I j o
  unfolding page_byte
  same_page_byte j o = ap (λ x. x / 256 ^ (o % 8) % 256) (page_word j (o / 8))

  -- ---- slots and paths

  pub held_marked : (s : ℕ) → IsHeld P I s → IsHeld P J s
  held_marked s held = record {
    in_range = held.in_range;
    kind = same_page_kind (page_of_slot s) ∙ held.kind;
    owned = λ z. held.owned (sym (same_slot_owner s) ∙ z);
  }

module _ (P : ℕ) {I J : List ℕ} (same : SameButMark I J) where
  pub live_marked : (s : ℕ) → IsLive P I s → IsLive P J s
  live_marked s live = record {
    held = held_marked P same s live.held;
    names = λ z. live.names (sym (same_slot_inode P same s) ∙ z);
    stays = λ d held points number. live.stays d (held_marked P (marked_back same) d held) (sym (same_slot_pointer P same d) ∙ points)
        (sym (same_slot_inode P same d) ∙ number ∙ same_slot_inode P same s);
  }

  directory_marked : (s : ℕ) → IsDirectory I (slot_owner P I s) → IsDirectory J (slot_owner P J s)
  directory_marked s directory = same_inode_kind same (slot_owner P J s) ∙ ap (inode_kind I) (same_slot_owner P same s) ∙ directory

  leads_marked : (s : ℕ) (n : List ℕ) (i : ℕ) → Leads P I s n i → Leads P J s n i
  leads_marked s n i leads = record {
    directory = directory_marked s leads.directory;
    live = live_marked s leads.live;
    name = same_slot_name P same s ∙ leads.name;
    inode = same_slot_inode P same s ∙ leads.inode;
    in_range = leads.in_range;
  }

  pub names_marked : (p : Route) (i : ℕ) → Names P I p i → Names P J p i
  names_marked [] i e = e
  names_marked (n ∷ p) i (s, path, leads) = (s, subst (Names P J p) (sym (same_slot_owner P same s)) (names_marked p (slot_owner P I s) path), leads_marked s n i leads)

  pub reached_marked : (i : ℕ) → Reached P I i → Reached P J i
  reached_marked i (p, names) = (p, names_marked p i names)

  pub reached_slot_marked : (s : ℕ) → IsReachedSlot P I s → IsReachedSlot P J s
  reached_slot_marked s slot = record {
    owner = subst (Reached P J) (sym (same_slot_owner P same s)) (reached_marked (slot_owner P I s) slot.owner);
    directory = directory_marked s slot.directory;
    live = live_marked s slot.live;
  }

  pub entry_marked : (d : ℕ) (bytes : List ℕ) (s : ℕ) → IsEntryOf P I d bytes s → IsEntryOf P J d bytes s
  entry_marked d bytes s entry = record {
    slot = reached_slot_marked s entry.slot;
    owner = same_slot_owner P same s ∙ entry.owner;
    name = same_slot_name P same s ∙ entry.name;
  }

  name_of_marked : (i s : ℕ) → IsNameOf P I i s → IsNameOf P J i s
  name_of_marked i s name = record { slot = reached_slot_marked s name.slot; inode = same_slot_inode P same s ∙ name.inode }

  child_marked : (i s : ℕ) → IsChildOf P I i s → IsChildOf P J i s
  child_marked i s child = record {
    slot = reached_slot_marked s child.slot;
    owner = same_slot_owner P same s ∙ child.owner;
    directory = same_inode_kind same (slot_inode P J s) ∙ ap (inode_kind I) (same_slot_inode P same s) ∙ child.directory;
  }

  room_marked : (d j : ℕ) → IsRoomOf P I d j → IsRoomOf P J d j
  room_marked d j room =
      let (s, at, owner, live) = room.slot in
      record { reached = reached_marked d room.reached; directory = same_inode_kind same d ∙ room.directory; slot = (s, at, same_slot_owner P same s ∙ owner, live_marked s live) }

  kept_file_marked : (j : ℕ) → IsKeptFilePage P I j → IsKeptFilePage P J j
  kept_file_marked j kept =
      let owner = same_page_owner P same j in
      record {
        in_range = kept.in_range;
        owner = subst (Reached P J) (sym owner) (reached_marked (page_owner P I j) kept.owner);
        file = same_inode_kind same (page_owner P J j) ∙ ap (inode_kind I) owner ∙ kept.file;
        below = subst (λ k. k < pages_of_size (inode_size J (page_owner P J j))) (sym (same_page_offset P same j))
            (subst (λ z. page_offset P I j < pages_of_size z) (sym (same_inode_size same (page_owner P J j) ∙ ap (inode_size I) owner)) kept.below);
      }

  kept_marked : (j : ℕ) → IsKept P I j → IsKept P J j
  kept_marked j (inl file) = inl (kept_file_marked j file)
  kept_marked j (inr room) = inr (subst (λ d. IsRoomOf P J d j) (sym (same_page_owner P same j)) (room_marked (page_owner P I j) j room))

-- ---- what is to be repaired

none_kept : (Q R : ℕ → Type 0) → ((x : ℕ) → R x → Q x) → Count Q 0 → Count R 0
none_kept Q R back none = count_none R (λ x r. none_counted Q none x (back x r))

module _ (P : ℕ) {I J : List ℕ} (same : SameButMark I J) where
  back : SameButMark J I
  back = marked_back same

  version : word J 1 ≡ word I 1
  version = other_word same 1 (λ e. omega (arith, e))

  pointer_back : (s : ℕ) → IsPointer P J s → IsPointer P I s
  pointer_back s pointer = record { held = held_marked P back s pointer.held; nonzero = λ z. pointer.nonzero (same_slot_pointer P same s ∙ z) }

  litter_slot_back : (s : ℕ) → IsLitterSlot P J s → IsLitterSlot P I s
  litter_slot_back s litter =
      let (f, lt, nonzero) = litter.nonzero in
      record {
        page = subst (λ d. IsRoomOf P I d (page_of_slot s)) (same_page_owner P same (page_of_slot s)) (room_marked P back (page_owner P J (page_of_slot s)) (page_of_slot s) litter.page);
        dead = λ live. litter.dead (live_marked P same s live);
        nonzero = (f, lt, λ z. nonzero (slot_word P same s f ∙ z));
      }

  litter_page_back : (j : ℕ) → IsLitterPage P J j → IsLitterPage P I j
  litter_page_back j litter =
      let (f, lt, nonzero) = litter.nonzero in
      let read = subst (λ n. f < n) (same_descriptor_words I J version) lt in
      record { in_range = litter.in_range; free = λ kept. litter.free (kept_marked P same j kept); nonzero = (f, read, λ z. nonzero (descriptor_word P same j f ∙ z)) }

  litter_inode_back : (i : ℕ) → IsLitterInode P J i → IsLitterInode P I i
  litter_inode_back i litter =
      let (f, lt, nonzero) = litter.nonzero in
      let read = subst (λ n. f < n) (same_inode_words I J version) lt in
      record {
        least = litter.least;
        most = litter.most;
        unreached = λ reached. litter.unreached (reached_marked P same i reached);
        nonzero = (f, read, λ z. nonzero (inode_word same i f ∙ z));
      }

  link_count_marked : (i n : ℕ) → IsLinkCount P I i n → IsLinkCount P J i n
  link_count_marked i n count = record {
    file = λ file. count_same (IsNameOf P I i) (IsNameOf P J i) n (λ s. (name_of_marked P same i s, name_of_marked P back i s)) (count.file (same_inode_kind back i ∙ file));
    directory = λ directory.
        let (m, children, is) = count.directory (same_inode_kind back i ∙ directory) in
        (m, count_same (IsChildOf P I i) (IsChildOf P J i) m (λ s. (child_marked P same i s, child_marked P back i s)) children, is);
  }

  litter_count_back : (i : ℕ) → IsLitterCount P J i → IsLitterCount P I i
  litter_count_back i litter = record {
    reached = reached_marked P back i litter.reached;
    other = λ count. litter.other (subst (IsLinkCount P J i) (sym (same_inode_links same i)) (link_count_marked i (inode_links I i) count));
  }

  pub repairs_marked : HasRepairs P I no_repairs → HasRepairs P J no_repairs
  repairs_marked none = record {
    of_pointers = none_kept (IsPointer P I) (IsPointer P J) pointer_back none.of_pointers;
    of_slots = none_kept (IsLitterSlot P I) (IsLitterSlot P J) litter_slot_back none.of_slots;
    of_pages = none_kept (IsLitterPage P I) (IsLitterPage P J) litter_page_back none.of_pages;
    of_inodes = none_kept (IsLitterInode P I) (IsLitterInode P J) litter_inode_back none.of_inodes;
    of_counts = none_kept (IsLitterCount P I) (IsLitterCount P J) litter_count_back none.of_counts;
  }

  -- ---- the meaning

  agrees : IsCoherent P I → Agrees P I J
  agrees coherent = record {
    size = same.long;
    head = λ x. same_head P I J x same.long (λ a lt. other_word same a (λ e. omega (arith, lt, e))) (coherent Rule.head x);
    pages = λ j lt. inl (record {
      owner = same_page_owner P same j;
      kind = λ owned. same_page_kind P same j;
      offset = λ owned. same_page_offset P same j;
      inode = λ s at held. same_slot_inode P same s;
      pointer = λ s at held. same_slot_pointer P same s;
    });
    inodes = λ i reached. record { kind = same_inode_kind same i; size = same_inode_size same i; own = same_inode_own same i };
    links = λ i reached. subst (HasLinks P I i) (sym (same_inode_links same i)) (coherent Rule.links i reached);
    names = λ s slot. same_slot_words P same s;
  }

  same_bytes : AllSameBytes P I J
  same_bytes i reached file = record { bytes = λ o j lt page. same_page_byte P same j (o % 4096) }

  -- what fits together means the same, whatever its mark
  pub means_marked : IsCoherent P I → SameMeaning P I J
  means_marked coherent = frame P I J coherent (agrees coherent) same_bytes

pub mark_law : MarkLaw
mark_law P I J same tidied =
    let means = means_marked P same tidied.coherent in
    (record { coherent = means.coherent; repaired = repairs_marked P same tidied.repaired }, means)
