-- The size of a reached file becomes another: the commit of a write past the size and of a truncation.
use Rattle.std.proofs.Common.{◌≡◌, ◌≢◌, ◌↔◌, inl, inr, ℕ, ◌+◌, ◌-◌, ◌/◌, ◌%◌, ◌^◌, ◌<◌, ◌≤◌, List, [], ◌∷◌, length, set, sym, ap, subst, ◌∙◌, arith, length-set}
use Rattle.std.proofs.lemmas.Bool.{cases_eq}
use Rattle.std.proofs.lemmas.List.{get_or-set_other}
use Rattle.layout.specs.Fields.{word, inode_kind, inode_links, inode_size, inode_own, page_owner, page_kind, page_offset, slot_inode, slot_pointer, slot_name, slot_words, page_byte}
use Rattle.layout.specs.Geometry.{inodes_of, data_pages_of, slots_of, page_of_slot, inode_word_of, descriptor_word_of, page_word_of, slot_word_of}
use Rattle.layout.proofs.GeometryLaws.{page_of_slot_below}
use Rattle.layout.specs.Name.{name_in_words}
use Rattle.tree_model.specs.PathText.{Route}
use Rattle.tree_model.specs.Tree.{Node, Directory, File, Room}
use Rattle.image_reading.specs.Reading.{HasBytes, slot_owner, IsHeld, IsLive, Names, Reached, IsReachedSlot, IsPageOf, IsContent, IsNode, IsRoomOf, HasRoom, pages_of_size}
use Rattle.image_reading.specs.Soundness.{Rule, IsCoherent, HasLinks}
use Rattle.image_reading.proofs.Credits.{count_same}
use Rattle.image_laws.specs.Resize.{IsStored}
use Rattle.image_laws.proofs.Addresses.{head-ne_inode, descriptor-ne_inode, inode-ne_slot, inode-ne_inode, inode-ne_field, page-ne_inode}
use Rattle.image_laws.proofs.KeptPages.{KeepsPages, held_forth, held_back, page_same}
use Rattle.image_laws.proofs.Meaning.{same_head, page_kind_is}
use Rattle.image_laws.proofs.Paths.{reached_pos}
use Rattle.image_laws.proofs.Within.{IsWhole, whole, whole_same, OldSlot, Within, within_coherent, old_links}
use Rattle.image_laws.proofs.Words.{slot_words-same}

pub record OnlySize (P : ℕ) (I J : List ℕ) (i : ℕ) : Type 0 where
  pub size : length J ≡ length I
  pub head : (a : ℕ) → a < 5 → word J a ≡ word I a
  pub owner : (j : ℕ) → j < data_pages_of P → page_owner P J j ≡ page_owner P I j
  pub kind : (j : ℕ) → j < data_pages_of P → page_kind P J j ≡ page_kind P I j
  pub offset : (j : ℕ) → j < data_pages_of P → page_offset P J j ≡ page_offset P I j
  pub node_kind : (x : ℕ) → inode_kind J x ≡ inode_kind I x
  pub links : (x : ℕ) → inode_links J x ≡ inode_links I x
  pub node_size : (x : ℕ) → 1 ≤ x → x ≢ i → inode_size J x ≡ inode_size I x
  pub own : (x : ℕ) → inode_own J x ≡ inode_own I x
  pub inode : (t : ℕ) → slot_inode P J t ≡ slot_inode P I t
  pub pointer : (t : ℕ) → slot_pointer P J t ≡ slot_pointer P I t
  pub words : (t : ℕ) → slot_words P J t ≡ slot_words P I t
  pub bytes : (j o : ℕ) → page_byte P J j o ≡ page_byte P I j o

pub only_size : (P : ℕ) (I : List ℕ) (i v : ℕ) → 1 ≤ i → i ≤ inodes_of P → OnlySize P I (set I (inode_word_of i 2) v) i
unfolding word inode_kind inode_links inode_size inode_own page_owner page_kind page_offset slot_inode slot_pointer page_byte
only_size P I i v pos most = record {
  size = length-set I (inode_word_of i 2) v;
  head = λ a lt. other a (head-ne_inode i 2 a (omega arith));
  owner = λ j lt. other (descriptor_word_of P j 0) (descriptor-ne_inode P j 0 i 2 pos most (omega arith));
  kind = λ j lt. other (descriptor_word_of P j 1) (descriptor-ne_inode P j 1 i 2 pos most (omega arith));
  offset = λ j lt. other (descriptor_word_of P j 2) (descriptor-ne_inode P j 2 i 2 pos most (omega arith));
  node_kind = λ x. other (inode_word_of x 0) (inode-ne_field x 0 i 2 (omega arith) (omega arith) (λ z. omega (arith, z)));
  links = λ x. other (inode_word_of x 1) (inode-ne_field x 1 i 2 (omega arith) (omega arith) (λ z. omega (arith, z)));
  node_size = λ x p ne. other (inode_word_of x 2) (inode-ne_inode x 2 i 2 p pos ne (omega arith) (omega arith));
  own = λ x. other (inode_word_of x 3) (inode-ne_field x 3 i 2 (omega arith) (omega arith) (λ z. omega (arith, z)));
  inode = λ t. other (slot_word_of P t 0) (λ e. inode-ne_slot P i 2 t 0 pos most (omega arith) (sym e));
  pointer = λ t. other (slot_word_of P t 1) (λ e. inode-ne_slot P i 2 t 1 pos most (omega arith) (sym e));
  words = λ t. slot_words-same P I (set I (inode_word_of i 2) v) t (λ f lt. other (slot_word_of P t (2 + f)) (λ e. inode-ne_slot P i 2 t (2 + f) pos most (omega arith) (sym e)));
  bytes = λ j o. ap (λ x. x / 256 ^ (o % 8) % 256) (other (page_word_of P j (o / 8)) (page-ne_inode P j (o / 8) i 2 pos most (omega arith)));
}
  where
    other : (a : ℕ) → a ≢ inode_word_of i 2 → word (set I (inode_word_of i 2) v) a ≡ word I a
    other a ne = get_or-set_other I (inode_word_of i 2) a v 0 ne

pub record Resizes (P : ℕ) (I J : List ℕ) (i z : ℕ) : Type 0 where
  pub only : OnlySize P I J i
  pub reached : Reached P I i
  pub file : HasBytes I i
  pub size : inode_size J i ≡ z
  pub small : z ≤ 2 ^ 40
  pub full : (k : ℕ) → k < pages_of_size z → (j : ℕ) × IsPageOf P I i k j
  pub one : (h j k : ℕ) → h < j → k < pages_of_size z → IsPageOf P I i k h → IsPageOf P I i k j → ⊥

module _ (P : ℕ) (I J : List ℕ) (i z : ℕ) (coherent : IsCoherent P I) (a : Resizes P I J i z) where
  owner_same : (t : ℕ) → t < slots_of P → slot_owner P J t ≡ slot_owner P I t
  unfolding slot_owner
  owner_same t lt = a.only.owner (page_of_slot t) (page_of_slot_below P t lt)

  name_same : (t : ℕ) → slot_name P J t ≡ slot_name P I t
  unfolding slot_name
  name_same t = ap name_in_words (a.only.words t)

  paged : KeepsPages P I J (λ j. ⊥)
  paged = record { owner = λ j lt none. a.only.owner j lt; kind = λ j lt none. a.only.kind j lt; offset = λ j lt none. a.only.offset j lt }

  live_forward : (t : ℕ) → IsLive P I t → IsLive P J t
  live_forward t l = record {
    held = held_forth paged t (λ none. none) l.held;
    names = λ e. l.names (sym (a.only.inode t) ∙ e);
    stays = λ q h points same. l.stays q (held_back paged q (λ none. none) h) (sym (a.only.pointer q) ∙ points) (sym (a.only.inode q) ∙ same ∙ a.only.inode t);
  }

  live_back : (t : ℕ) → IsLive P J t → IsLive P I t
  live_back t l = record {
    held = held_back paged t (λ none. none) l.held;
    names = λ e. l.names (a.only.inode t ∙ e);
    stays = λ q h points same. l.stays q (held_forth paged q (λ none. none) h) (a.only.pointer q ∙ points) (a.only.inode q ∙ same ∙ sym (a.only.inode t));
  }

  names_forward : (q : Route) (x : ℕ) → Names P I q x → Names P J q x
  names_forward [] x e = e
  names_forward (n ∷ q) x (t, b, l) = let o = owner_same t l.live.held.in_range in (
    t,
    subst (Names P J q) (sym o) (names_forward q (slot_owner P I t) b),
    record {
      directory = ap (inode_kind J) o ∙ a.only.node_kind (slot_owner P I t) ∙ l.directory;
      live = live_forward t l.live;
      name = name_same t ∙ l.name;
      inode = a.only.inode t ∙ l.inode;
      in_range = l.in_range;
    },
  )

  names_back : (q : Route) (x : ℕ) → Names P J q x → Names P I q x
  names_back [] x e = e
  names_back (n ∷ q) x (t, b, l) = let o = owner_same t l.live.held.in_range in (
    t,
    subst (Names P I q) o (names_back q (slot_owner P J t) b),
    record {
      directory = sym (a.only.node_kind (slot_owner P I t)) ∙ ap (inode_kind J) (sym o) ∙ l.directory;
      live = live_back t l.live;
      name = sym (name_same t) ∙ l.name;
      inode = sym (a.only.inode t) ∙ l.inode;
      in_range = l.in_range;
    },
  )

  pub resized_names : (q : Route) (x : ℕ) → Names P I q x ↔ Names P J q x
  resized_names q x = (names_forward q x, names_back q x)

  reached_back : (x : ℕ) → Reached P J x → Reached P I x
  reached_back x (q, b) = (q, names_back q x b)

  page_back : (x k j : ℕ) → IsPageOf P J x k j → IsPageOf P I x k j
  page_back x k j = (page_same paged x k j (λ none. none)).0

  page_forward : (x k j : ℕ) → IsPageOf P I x k j → IsPageOf P J x k j
  page_forward x k j = (page_same paged x k j (λ none. none)).1

  slot_back : (t : ℕ) → IsReachedSlot P J t → OldSlot P I J (λ u. ⊥) t
  slot_back t r = let o = owner_same t r.live.held.in_range in record {
    other = λ none. none;
    reached = record {
      owner = subst (Reached P I) o (reached_back (slot_owner P J t) r.owner);
      live = live_back t r.live;
      directory = sym (a.only.node_kind (slot_owner P I t)) ∙ ap (inode_kind J) (sym o) ∙ r.directory;
    };
    inode = a.only.inode t;
    owner = o;
    words = a.only.words t;
  }

  pos : (x : ℕ) → Reached P I x → 1 ≤ x
  pos x r = let h = reached_pos P I x r in omega arith

  files : (x : ℕ) → Reached P J x → HasBytes J x → IsWhole P J x
  files x r k = let m = reached_back x r in elim (cases_eq x i) [
    | inl e ↦ subst (IsWhole P J) (sym e) (record {
      small = subst (λ y. y ≤ 2 ^ 40) (sym a.size) a.small;
      full = λ n lt. let lt' = subst (λ y. n < pages_of_size y) a.size lt in let (j, g) = a.full n lt' in (j, page_forward i n j g);
      one = λ h j n lt below f g. let lt' = subst (λ y. n < pages_of_size y) a.size below in a.one h j n lt lt' (page_back i n h f) (page_back i n j g);
    })
    | inr ne ↦ whole_same P I J x (a.only.node_size x (pos x m) ne) (λ n j lt g. page_forward x n j g) (λ n j lt g. page_back x n j g)
        (whole P I x coherent m (sym (a.only.node_kind x) ∙ k))
  ]

  within : Within P I J (λ t. ⊥)
  within = record {
    size = a.only.size;
    head = λ x. same_head P I J x a.only.size a.only.head (coherent Rule.head x);
    pointers = λ t. record {
      other = λ held z. (coherent Rule.pointers t).other (held_back paged t (λ none. none) held) (sym (a.only.pointer t) ∙ z);
      held = λ held nonzero.
          let e = a.only.pointer t in
          subst (λ x. IsHeld P J (x - 1)) (sym e) (held_forth paged (slot_pointer P I t - 1) (λ none. none) ((coherent Rule.pointers t).held (held_back paged t (λ none. none) held) (λ z. nonzero (e ∙ z))));
    };
    one_pointer = λ t r lt hr ht nonzero. a.only.pointer t ∙ coherent Rule.one_pointer t r lt (held_back paged r (λ none. none) hr) (held_back paged t (λ none. none) ht) (λ y. nonzero (a.only.pointer r ∙ y));
    slots = λ t r. inr (slot_back t r);
    new = λ t none. absurd none;
    named = λ t r. a.only.node_kind (slot_inode P I t);
    inodes = λ x r. inl (record { reached = reached_back x r; kind = a.only.node_kind x; own = a.only.own x });
    links = λ x r. old_links P I J x (inode_links J x) slot_back (λ t r. a.only.node_kind (slot_inode P I t)) (a.only.node_kind x)
        (subst (HasLinks P I x) (sym (a.only.links x)) (coherent Rule.links x (reached_back x r)));
    kinds = λ j lt r. let o = a.only.owner j lt in
        a.only.kind j lt ∙ page_kind_is P I coherent j lt (subst (Reached P I) o (reached_back (page_owner P J j) r)) ∙ ap (inode_kind I) (sym o)
        ∙ sym (a.only.node_kind (page_owner P J j));
    files = files;
  }

  pub resized_coherent : IsCoherent P J
  resized_coherent = within_coherent P I J (λ t. ⊥) coherent within

  -- the content after: as many bytes as the new size, as they stand in the pages
  pub resized_content : (bytes : List ℕ) → IsStored P I i z bytes → IsContent P J i bytes
  resized_content bytes stored = record {
    size = stored.size ∙ sym a.size;
    bytes_at = λ o j lt g. stored.bytes_at o j (subst (λ y. o < y) a.size lt) (page_back i (o / 4096) j g) ∙ sym (a.only.bytes j (o % 4096));
  }

  -- ---- the pages of directories

  reached_forward : (x : ℕ) → Reached P I x → Reached P J x
  reached_forward x (q, b) = (q, names_forward q x b)

  room_forward : (x j : ℕ) → IsRoomOf P I x j → IsRoomOf P J x j
  room_forward x j room =
      let (t, at, o, live) = room.slot in
      record {
        reached = reached_forward x room.reached;
        directory = a.only.node_kind x ∙ room.directory;
        slot = (t, at, owner_same t live.held.in_range ∙ o, live_forward t live);
      }

  room_back : (x j : ℕ) → IsRoomOf P J x j → IsRoomOf P I x j
  room_back x j room =
      let (t, at, o, live) = room.slot in
      record {
        reached = reached_back x room.reached;
        directory = sym (a.only.node_kind x) ∙ room.directory;
        slot = (t, at, sym (owner_same t live.held.in_range) ∙ o, live_back t live);
      }

  pub resized_room : (room : Room) → HasRoom P I room → HasRoom P J room
  resized_room room has x n = (
    (λ e.
        let (r, k, count) = (has x n).0 e in
        (reached_forward x r, a.only.node_kind x ∙ k, count_same (IsRoomOf P I x) (IsRoomOf P J x) n (λ j. (room_forward x j, room_back x j)) count)),
    (λ (r, k, count).
        (has x n).1 (reached_back x r, sym (a.only.node_kind x) ∙ k, count_same (IsRoomOf P J x) (IsRoomOf P I x) n (λ j. (room_back x j, room_forward x j)) count)),
  )

  pub resized_node : (x : ℕ) (y : Node) → 1 ≤ x → x ≢ i → IsNode P I x y ↔ IsNode P J x y
  resized_node x Directory p ne = (λ k. a.only.node_kind x ∙ k, λ k. sym (a.only.node_kind x) ∙ k)
  resized_node x (File bs) p ne = let e = a.only.node_size x p ne in (
    (λ (k, c). (
      a.only.node_kind x ∙ k,
      record {
        size = c.size ∙ sym e;
        bytes_at = λ o j lt g. c.bytes_at o j (subst (λ y. o < y) e lt) (page_back x (o / 4096) j g) ∙ sym (a.only.bytes j (o % 4096));
      },
    )),
    (λ (k, c). (
      sym (a.only.node_kind x) ∙ k,
      record {
        size = c.size ∙ e;
        bytes_at = λ o j lt g. c.bytes_at o j (subst (λ y. o < y) (sym e) lt) (page_forward x (o / 4096) j g) ∙ a.only.bytes j (o % 4096);
      },
    )),
  )
