-- An image that is alike to a coherent one means the same.
use Rattle.std.proofs.Common.{◌≡◌, ◌≢◌, ◌↔◌, ◌⊎◌, inl, inr, ℕ, ◌/◌, ◌^◌, ◌<◌, ◌≤◌, List, [], ◌∷◌, length, reverse, refl, sym, ap, subst, ◌∙◌, arith}
use Rattle.layout.specs.Fields.{word, inode_kind, inode_links, inode_size, page_owner, page_kind, page_offset, slot_inode, slot_name}
use Rattle.layout.specs.Geometry.{inodes_of, data_pages_of, slots_of, page_of_slot}
use Rattle.layout.proofs.GeometryLaws.{page_of_slot_below}
use Rattle.layout.specs.Name.{name_in_words, IsNameWords}
use Rattle.tree_model.specs.PathText.{Route}
use Rattle.tree_model.specs.Tree.{Node, Directory, File}
use Rattle.image_reading.specs.Reading.{IsDirectory, HasBytes, slot_owner, IsLive, Leads, Names, Reached, IsReachedSlot, IsPageOf, IsContent, IsNode, pages_of_size, IsRoomOf, IsNameOf, IsChildOf}
use Rattle.image_reading.specs.Soundness.{Rule, Obeys, IsCoherent, HasHead, HasLinks}
use Rattle.image_reading.proofs.Credits.{count_same}
use Rattle.image_reading.proofs.FilePages.{page_from_place}
use Rattle.image_laws.specs.Agrees.{IsUnneeded, SameDescriptor, Alike, ShapeLaw}
use Rattle.image_laws.specs.Frame.{SameBytes, AllSameBytes, SameShape, SameMeaning, NodeLaw, MeaningsChain}
use Rattle.image_laws.proofs.Addresses.{page_of_byte-lt}
use Rattle.image_laws.proofs.Counts.{at_most}
use Rattle.image_laws.proofs.Paths.{reached_pos}

-- rule 1 is about the length and the first five words
pub same_head : (P : ℕ) (I J : List ℕ) (x : ℕ) → length J ≡ length I → ((a : ℕ) → a < 5 → word J a ≡ word I a) → HasHead P I x → HasHead P J x
same_head P I J x size head h = record {
  size = h.size;
  whole = λ z. size ∙ h.whole z;
  head = λ lt. head x lt ∙ h.head lt;
}

-- an inode with the kind of one that is well-formed
pub formed : (I J : List ℕ) (i : ℕ) → inode_kind J i ≡ inode_kind I i → HasBytes I i ⊎ IsDirectory I i → HasBytes J i ⊎ IsDirectory J i
formed I J i same kind = elim kind [ inl bytes ↦ inl (same ∙ bytes) | inr directory ↦ inr (same ∙ directory) ]

-- rule 10, as one fact
pub page_kind_is : (P : ℕ) (I : List ℕ) → IsCoherent P I → (j : ℕ) → j < data_pages_of P → Reached P I (page_owner P I j) → page_kind P I j ≡ inode_kind I (page_owner P I j)
page_kind_is P I coherent j lt r = elim ((coherent Rule.kinds (page_owner P I j)).kind r) [
  | inl file ↦ (coherent Rule.page_kinds j).file lt r file ∙ sym file
  | inr directory ↦ (coherent Rule.page_kinds j).directory lt r directory ∙ sym directory
]

module _ (P : ℕ) (I J : List ℕ) (a : Alike P I J) where
  pub same_owner : (s : ℕ) → SameDescriptor P I J (page_of_slot s) → slot_owner P J s ≡ slot_owner P I s
  unfolding slot_owner
  same_owner s h = h.owner

  page_case : (s : ℕ) → s < slots_of P → SameDescriptor P I J (page_of_slot s) ⊎ (IsUnneeded P I I (page_of_slot s) × IsUnneeded P I J (page_of_slot s))
  page_case s lt = a.pages (page_of_slot s) (page_of_slot_below P s lt)

  -- a page with a reached slot is the same in both
  needed : (s : ℕ) → Reached P I (slot_owner P I s) → IsLive P I s → SameDescriptor P I J (page_of_slot s)
  unfolding slot_owner
  needed s r l = elim (page_case s l.held.in_range) [
    | inl k ↦ k
    | inr k ↦ elim (k.0 l.held.owned r) [
      | inl e ↦ let kind = l.held.kind in absurd (omega (arith, e.kind, kind))
      | inr e ↦ absurd (l.names (e.empty s refl))
    ]
  ]

  needed_back : (s : ℕ) → Reached P I (slot_owner P J s) → IsLive P J s → SameDescriptor P I J (page_of_slot s)
  unfolding slot_owner
  needed_back s r l = elim (page_case s l.held.in_range) [
    | inl k ↦ k
    | inr k ↦ elim (k.1 l.held.owned r) [
      | inl e ↦ let kind = l.held.kind in absurd (omega (arith, e.kind, kind))
      | inr e ↦ absurd (l.names (e.empty s refl))
    ]
  ]

  pub slot_name_same : (s : ℕ) → IsReachedSlot P I s → slot_name P J s ≡ slot_name P I s
  unfolding slot_name
  slot_name_same s r = ap name_in_words (a.names s r)

  slot_forward : (s : ℕ) (h : SameDescriptor P I J (page_of_slot s)) → IsReachedSlot P I s → (n : List ℕ) (i : ℕ) → Leads P I s n i → Leads P J s n i
  slot_forward s h r n i l = record {
    directory = ap (inode_kind J) (same_owner s h) ∙ (a.inodes (slot_owner P I s) r.owner).kind ∙ l.directory;
    live = (a.slots s l.live.held.in_range h r.owner).forward l.live;
    name = slot_name_same s r ∙ l.name;
    inode = (a.slots s l.live.held.in_range h r.owner).inode l.live ∙ l.inode;
    in_range = l.in_range;
  }

  pub names_forward : (p : Route) (i : ℕ) → Names P I p i → Names P J p i
  names_forward [] i e = e
  names_forward (n ∷ p) i (s, q, l) =
      let r : Reached P I (slot_owner P I s) = (p, q) in
      let h = needed s r l.live in (
        s,
        subst (Names P J p) (sym (same_owner s h)) (names_forward p (slot_owner P I s) q),
        slot_forward s h (record { owner = r; directory = l.directory; live = l.live }) n i l,
      )

  -- what a live slot of J in a page of a directory that I reaches is in I
  pub slot_back : (s : ℕ) → Reached P I (slot_owner P J s) → IsDirectory J (slot_owner P J s) → IsLive P J s → SameDescriptor P I J (page_of_slot s) × IsReachedSlot P I s
  slot_back s r k l =
      let h = needed_back s r l in
      let e = same_owner s h in
      let r' : Reached P I (slot_owner P I s) = subst (Reached P I) e r in (
        h,
        record {
          owner = r';
          directory = sym (a.inodes (slot_owner P I s) r').kind ∙ ap (inode_kind J) (sym e) ∙ k;
          live = (a.slots s l.held.in_range h r').back l;
        },
      )

  pub names_back : (p : Route) (i : ℕ) → Names P J p i → Names P I p i
  names_back [] i e = e
  names_back (n ∷ p) i (s, q, l) =
      let q' = names_back p (slot_owner P J s) q in
      let (h, r) = slot_back s (p, q') l.directory l.live in (
        s,
        subst (Names P I p) (same_owner s h) q',
        record {
          directory = r.directory;
          live = r.live;
          name = sym (slot_name_same s r) ∙ l.name;
          inode = sym ((a.slots s r.live.held.in_range h r.owner).inode r.live) ∙ l.inode;
          in_range = l.in_range;
        },
      )

  pub reached_forward : (i : ℕ) → Reached P I i → Reached P J i
  reached_forward i (p, q) = (p, names_forward p i q)

  pub reached_back : (i : ℕ) → Reached P J i → Reached P I i
  reached_back i (p, q) = (p, names_back p i q)

  -- a reached slot of J is one of I, in a page that is the same
  pub reached_slot : (s : ℕ) → IsReachedSlot P J s → SameDescriptor P I J (page_of_slot s) × IsReachedSlot P I s
  reached_slot s r = slot_back s (reached_back (slot_owner P J s) r.owner) r.directory r.live

  pub reached_slot_forward : (s : ℕ) → IsReachedSlot P I s → SameDescriptor P I J (page_of_slot s) × IsReachedSlot P J s
  reached_slot_forward s r =
      let h = needed s r.owner r.live in
      let e = same_owner s h in (
        h,
        record {
          owner = subst (Reached P J) (sym e) (reached_forward (slot_owner P I s) r.owner);
          directory = ap (inode_kind J) e ∙ (a.inodes (slot_owner P I s) r.owner).kind ∙ r.directory;
          live = (a.slots s r.live.held.in_range h r.owner).forward r.live;
        },
      )

  same_inode : (s : ℕ) → SameDescriptor P I J (page_of_slot s) → IsReachedSlot P I s → slot_inode P J s ≡ slot_inode P I s
  same_inode s h r = (a.slots s r.live.held.in_range h r.owner).inode r.live

  -- a page of a reached file, below its end
  page_back : (i k j : ℕ) → Reached P I i → HasBytes I i → k < pages_of_size (inode_size I i) → IsPageOf P J i k j → IsPageOf P I i k j
  page_back i k j r file lt g = elim (a.pages j g.in_range) [
    | inl h ↦
        let owned : page_owner P I j ≢ 0 = λ z. reached_pos P I i r (sym g.owner ∙ h.owner ∙ z) in
        page_from_place (record { in_range = g.in_range; owner = sym h.owner ∙ g.owner; kind = sym (h.kind owned) ∙ g.kind; offset = sym (h.offset owned) ∙ g.offset })
    | inr h ↦
        elim (h.1 (λ z. reached_pos P I i r (sym g.owner ∙ z)) (subst (Reached P I) (sym g.owner) r)) [
          | inl e ↦ let past = subst (λ x. pages_of_size (inode_size I x) ≤ page_offset P J j) g.owner e.past in
              absurd (omega (arith, past, g.offset))
          | inr e ↦ let k2 = e.kind in absurd (omega (arith, k2, g.kind))
        ]
  ]

  page_forward : (i k j : ℕ) → Reached P I i → HasBytes I i → k < pages_of_size (inode_size I i) → IsPageOf P I i k j → IsPageOf P J i k j
  page_forward i k j r file lt g =
      let owned : page_owner P I j ≢ 0 = λ z. reached_pos P I i r (sym g.owner ∙ z) in
      elim (a.pages j g.in_range) [
        | inl h ↦ page_from_place (record { in_range = g.in_range; owner = h.owner ∙ g.owner; kind = h.kind owned ∙ g.kind; offset = h.offset owned ∙ g.offset })
        | inr h ↦ elim (h.0 owned (subst (Reached P I) (sym g.owner) r)) [
          | inl e ↦ let past = subst (λ x. pages_of_size (inode_size I x) ≤ page_offset P I j) g.owner e.past in
              absurd (omega (arith, past, g.offset))
          | inr e ↦ let k2 = e.kind in absurd (omega (arith, k2, g.kind))
        ]
      ]

  module _ (coherent : IsCoherent P I) where
    rule8 : (s : ℕ) → Obeys P J Rule.own_names s
    rule8 s r lt hr hs owners names =
        let (kr, mr) = reached_slot r hr in
        let (ks, ms) = reached_slot s hs in
        coherent Rule.own_names s r lt mr ms (sym (same_owner r kr) ∙ owners ∙ same_owner s ks) (sym (slot_name_same r mr) ∙ names ∙ slot_name_same s ms)

    rule9 : (s : ℕ) → Obeys P J Rule.own_directories s
    rule9 s r lt hr hs directory same =
        let (kr, mr) = reached_slot r hr in
        let (ks, ms) = reached_slot s hs in
        let er = same_inode r kr mr in
        let es = same_inode s ks ms in
        let reached : Reached P I (slot_inode P I s) = reach s ms in
        coherent Rule.own_directories s r lt mr ms (sym (a.inodes (slot_inode P I s) reached).kind ∙ ap (inode_kind J) (sym es) ∙ directory) (sym er ∙ same ∙ es)
      where
        reach : (s : ℕ) → IsReachedSlot P I s → Reached P I (slot_inode P I s)
        reach s r = let (p, q) = r.owner in
            (slot_name P I s ∷ p, (s, q, record { directory = r.directory; live = r.live; name = refl; inode = refl; in_range = (coherent Rule.inodes s).most r }))

    -- a page that a reached inode of J owns has its owner's kind in I
    owners_kind : (j : ℕ) → j < data_pages_of P → Reached P I (page_owner P J j) → page_kind P J j ≡ inode_kind I (page_owner P J j)
    owners_kind j lt mine = elim (a.pages j lt) [
      | inl k ↦
          let mine' : Reached P I (page_owner P I j) = subst (Reached P I) k.owner mine in
          k.kind (reached_pos P I (page_owner P I j) mine') ∙ page_kind_is P I coherent j lt mine' ∙ ap (inode_kind I) (sym k.owner)
      | inr k ↦ elim (k.1 (reached_pos P I (page_owner P J j) mine) mine) [
        | inl e ↦ e.kind ∙ sym e.file
        | inr e ↦ e.kind ∙ sym e.directory
      ]
    ]

    same_kind : (j : ℕ) → j < data_pages_of P → Reached P J (page_owner P J j) → page_kind P J j ≡ inode_kind J (page_owner P J j)
    same_kind j lt r =
        let mine = reached_back (page_owner P J j) r in
        owners_kind j lt mine ∙ sym (a.inodes (page_owner P J j) mine).kind

    has_links : (i : ℕ) → Reached P J i → HasLinks P J i (inode_links J i)
    has_links i r =
        let mine = reached_back i r in
        let e = (a.inodes i mine).kind in
        record {
          file = λ k. at_most 0 (inode_links J i) (IsNameOf P I i) (IsNameOf P J i)
              (λ s n. let (h, m) = reached_slot s n.slot in record { slot = m; inode = sym (same_inode s h m) ∙ n.inode })
              ((a.links i mine).file (sym e ∙ k));
          directory = λ k. at_most 2 (inode_links J i) (IsChildOf P I i) (IsChildOf P J i) (λ s n. child s n)
              ((a.links i mine).directory (sym e ∙ k));
        }
      where
        child : (s : ℕ) → IsChildOf P J i s → IsChildOf P I i s
        child s n = let (h, m) = reached_slot s n.slot in
            let (p, q) = m.owner in
            let reached : Reached P I (slot_inode P I s) = (slot_name P I s ∷ p, (s, q, record { directory = m.directory; live = m.live; name = refl; inode = refl; in_range = (coherent Rule.inodes s).most m })) in
            record { slot = m; owner = sym (same_owner s h) ∙ n.owner; directory = sym (a.inodes (slot_inode P I s) reached).kind ∙ ap (inode_kind J) (sym (same_inode s h m)) ∙ n.directory }

    coherent_after : IsCoherent P J
    coherent_after Rule.head x = a.head x
    coherent_after Rule.root x = record {
      directory = λ z. (a.inodes x ([], z)).kind ∙ (coherent Rule.root x).directory z;
      own = λ z. (a.inodes x ([], z)).own ∙ (coherent Rule.root x).own z;
    }
    coherent_after Rule.pointers x = a.pointers x
    coherent_after Rule.one_pointer x = a.one_pointer x
    coherent_after Rule.inodes x = record {
      least = λ r. let (h, m) = reached_slot x r in subst (λ i. 2 ≤ i) (sym (same_inode x h m)) ((coherent Rule.inodes x).least m);
      most = λ r. let (h, m) = reached_slot x r in subst (λ i. i ≤ inodes_of P) (sym (same_inode x h m)) ((coherent Rule.inodes x).most m);
    }
    coherent_after Rule.names x = λ r. let (h, m) = reached_slot x r in subst IsNameWords (sym (a.names x m)) (coherent Rule.names x m)
    coherent_after Rule.kinds x = record {
      kind = λ r. let m = reached_back x r in formed I J x (a.inodes x m).kind ((coherent Rule.kinds x).kind m);
      own = λ r. let m = reached_back x r in (a.inodes x m).own ∙ (coherent Rule.kinds x).own m;
    }
    coherent_after Rule.own_names x = rule8 x
    coherent_after Rule.own_directories x = rule9 x
    coherent_after Rule.page_kinds x = record { file = λ lt r k. same_kind x lt r ∙ k; directory = λ lt r k. same_kind x lt r ∙ k }
    coherent_after Rule.sizes x = λ r k. let m = reached_back x r in
        let same = a.inodes x m in
        subst (λ z. z ≤ 2 ^ 40) (sym same.size) (coherent Rule.sizes x m (sym same.kind ∙ k))
    coherent_after Rule.all_pages x = λ r file k lt. let m = reached_back x r in
        let same = a.inodes x m in
        let lt' : k < pages_of_size (inode_size I x) = subst (λ z. k < pages_of_size z) same.size lt in
        let file' : HasBytes I x = sym same.kind ∙ file in
        let (j, g) = coherent Rule.all_pages x m file' k lt' in
        (j, page_forward x k j m file' lt' g)
    coherent_after Rule.own_offsets x = λ h i k lt r file below g1 g2. let m = reached_back i r in
        let same = a.inodes i m in
        let below' : k < pages_of_size (inode_size I i) = subst (λ z. k < pages_of_size z) same.size below in
        let file' : HasBytes I i = sym same.kind ∙ file in
        coherent Rule.own_offsets x h i k lt m file' below' (page_back i k h m file' below' g1) (page_back i k x m file' below' g2)
    coherent_after Rule.links x = has_links x

    room_forward : (d j : ℕ) → IsRoomOf P I d j → IsRoomOf P J d j
    room_forward d j r =
        let (s, e, o, l) = r.slot in
        let (h, q) = reached_slot_forward s (record { owner = subst (Reached P I) (sym o) r.reached; directory = ap (inode_kind I) o ∙ r.directory; live = l }) in
        record { reached = reached_forward d r.reached; directory = (a.inodes d r.reached).kind ∙ r.directory; slot = (s, e, same_owner s h ∙ o, q.live) }

    room_back : (d j : ℕ) → IsRoomOf P J d j → IsRoomOf P I d j
    room_back d j r =
        let (s, e, o, l) = r.slot in
        let m = reached_back d r.reached in
        let (h, q) = reached_slot s (record { owner = subst (Reached P J) (sym o) r.reached; directory = ap (inode_kind J) o ∙ r.directory; live = l }) in
        record { reached = m; directory = sym (a.inodes d m).kind ∙ r.directory; slot = (s, e, sym (same_owner s h) ∙ o, q.live) }

    same_shape : SameShape P I J
    same_shape = record {
      coherent = coherent_after;
      names = λ p i. (names_forward p i, names_back p i);
      inodes = a.inodes;
      pages = λ i k j r file lt. (page_forward i k j r file lt, page_back i k j r file lt);
      directories = λ d j. (room_forward d j, room_back d j);
    }

pub shape : ShapeLaw
shape P I J coherent a = same_shape P I J a coherent

module _ (P : ℕ) (I J : List ℕ) (h : SameShape P I J) where
  content_forward : (i : ℕ) (bs : List ℕ) → Reached P I i → HasBytes I i → SameBytes P I J i → IsContent P I i bs → IsContent P J i bs
  content_forward i bs r file b c =
      let same = h.inodes i r in
      record {
        size = c.size ∙ sym same.size;
        bytes_at = λ o j lt g.
            let lt' : o < inode_size I i = subst (λ z. o < z) same.size lt in
            let g' = (h.pages i (o / 4096) j r file (page_of_byte-lt o (inode_size I i) lt')).1 g in
            c.bytes_at o j lt' g' ∙ sym (b.bytes o j lt' g');
      }

  content_back : (i : ℕ) (bs : List ℕ) → Reached P I i → HasBytes I i → SameBytes P I J i → IsContent P J i bs → IsContent P I i bs
  content_back i bs r file b c =
      let same = h.inodes i r in
      record {
        size = c.size ∙ same.size;
        bytes_at = λ o j lt g.
            let g' = (h.pages i (o / 4096) j r file (page_of_byte-lt o (inode_size I i) lt)).0 g in
            c.bytes_at o j (subst (λ z. o < z) (sym same.size) lt) g' ∙ b.bytes o j lt g;
      }

  same_node : (i : ℕ) (x : Node) → Reached P I i → (HasBytes I i → SameBytes P I J i) → IsNode P I i x ↔ IsNode P J i x
  same_node i Directory r b = (λ k. (h.inodes i r).kind ∙ k, λ k. sym (h.inodes i r).kind ∙ k)
  same_node i (File bs) r b = (
    (λ (k, c). ((h.inodes i r).kind ∙ k, content_forward i bs r k (b k) c)),
    (λ (k, c). let k' = sym (h.inodes i r).kind ∙ k in (k', content_back i bs r k' (b k') c)),
  )

  same_meaning : AllSameBytes P I J → SameMeaning P I J
  same_meaning b = record {
    coherent = h.coherent;
    names = h.names;
    nodes = λ i x r. same_node i x r (b i r);
    room = λ room g d k. (
      λ e. let (r, dir, count) = (g d k).0 e in ((r.0, (h.names r.0 d).0 r.1), (h.inodes d r).kind ∙ dir, count_same (IsRoomOf P I d) (IsRoomOf P J d) k (h.directories d) count),
      λ (r, dir, count).
          let m : Reached P I d = (r.0, (h.names r.0 d).1 r.1) in
          (g d k).1 (m, sym (h.inodes d m).kind ∙ dir, count_same (IsRoomOf P J d) (IsRoomOf P I d) k (λ j. ((h.directories d j).1, (h.directories d j).0)) count),
    );
    reads = λ t g. record {
      names = λ p i. (λ e. (h.names (reverse p) i).0 ((g.names p i).0 e), λ q. (g.names p i).1 ((h.names (reverse p) i).1 q));
      nodes = λ i x. (
        λ e. let (r, k) = (g.nodes i x).0 e in ((r.0, (h.names r.0 i).0 r.1), (same_node i x r (b i r)).0 k),
        λ (r, k). let m : Reached P I i = (r.0, (h.names r.0 i).1 r.1) in (g.nodes i x).1 (m, (same_node i x m (b i m)).1 k),
      );
    };
  }

pub node : NodeLaw
node P I J h i x r b = same_node P I J h i x r b

pub meaning : (P : ℕ) (I J : List ℕ) → SameShape P I J → AllSameBytes P I J → SameMeaning P I J
meaning P I J h b = same_meaning P I J h b

pub same_itself : (P : ℕ) (I : List ℕ) → IsCoherent P I → SameMeaning P I I
same_itself P I coherent = record {
  coherent = coherent;
  names = λ p i. ((λ h. h), (λ h. h));
  nodes = λ i x r. ((λ h. h), (λ h. h));
  reads = λ T h. h;
  room = λ room h. h;
}

pub same_chained : (P : ℕ) (I J K : List ℕ) → SameMeaning P I J → SameMeaning P J K → SameMeaning P I K
same_chained P I J K g h = record {
  coherent = h.coherent;
  names = λ p i. ((λ b. (h.names p i).0 ((g.names p i).0 b)), (λ b. (g.names p i).1 ((h.names p i).1 b)));
  nodes = λ i x r.
      let after : Reached P J i = (r.0, (g.names r.0 i).0 r.1) in
      ((λ k. (h.nodes i x after).0 ((g.nodes i x r).0 k)), (λ k. (g.nodes i x r).1 ((h.nodes i x after).1 k)));
  reads = λ T reads. h.reads T (g.reads T reads);
  room = λ room has. h.room room (g.room room has);
}

pub meanings_chain : MeaningsChain
meanings_chain = record { itself = same_itself; chained = same_chained }
