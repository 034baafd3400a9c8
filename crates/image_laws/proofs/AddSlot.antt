-- A free slot of a reached directory takes an inode number: the tree has one more path.
use Rattle.std.proofs.Common.{◌≡◌, ◌≢◌, ◌↔◌, ◌⊎◌, inl, inr, ℕ, ◌+◌, ◌/◌, ◌<◌, ◌≤◌, List, [], ◌∷◌, sym, ap, subst, ◌∙◌, arith}
use Rattle.std.proofs.lemmas.Bool.{cases_eq}
use Rattle.layout.specs.Fields.{inode_kind, inode_links, inode_size, page_owner, slot_inode, slot_pointer, slot_name}
use Rattle.layout.specs.Geometry.{inodes_of, page_of_slot}
use Rattle.layout.proofs.GeometryLaws.{page_of_slot_below}
use Rattle.layout.specs.Name.{IsNameWords}
use Rattle.tree_model.specs.PathText.{Route}
use Rattle.tree_model.specs.Tree.{Node}
use Rattle.image_reading.specs.Counts.{AtMost}
use Rattle.image_reading.specs.Reading.{IsDirectory, HasBytes, slot_owner, IsHeld, IsLive, Names, Reached, IsReachedSlot, IsNode, pages_of_size, IsNameOf, IsChildOf}
use Rattle.image_reading.specs.Soundness.{Rule, IsCoherent, HasLinks}
use Rattle.image_counts.proofs.Paths.{one_path}
use Rattle.image_laws.specs.Add.{IsNewNode, CanAdd}
use Rattle.image_laws.proofs.Counts.{at_most, at_most_more}
use Rattle.image_reading.proofs.Counts.{at_most_none}
use Rattle.image_laws.proofs.Meaning.{same_head, formed}
use Rattle.image_laws.proofs.OnlySlot.{OnlySlot, same_owner, same_name, held_forward, held_back, pointers_kept, one_pointer_kept, kind_reached, whole_kept, page_kind_kept, only_node}
use Rattle.image_laws.proofs.Paths.{reach, reached-le}
use Rattle.image_laws.proofs.Within.{IsWhole, OldSlot, NewSlot, NewInode, Within, within_coherent}

module _ (P : ℕ) (I J : List ℕ) (p : Route) (d s i : ℕ) (c : CanAdd P I p d s i) (only : OnlySlot P I J s) (stored : slot_inode P J s ≡ i) where
  pub live_forward : (t : ℕ) → IsLive P I t → IsLive P J t
  live_forward t l = record {
    held = held_forward only t l.held;
    names = λ z. l.names (sym (only.inode t other) ∙ z);
    stays = λ q h points same. elim (cases_eq q s) [
      | inl e ↦ let z = only.pointer q ∙ ap (slot_pointer P I) e ∙ c.slot.no_pointer in omega (arith, z, points)
      | inr ne ↦ l.stays q (held_back only q h) (sym (only.pointer q) ∙ points) (sym (only.inode q ne) ∙ same ∙ only.inode t other)
    ];
  }
    where
      other : t ≢ s
      other e = l.names (ap (slot_inode P I) e ∙ c.slot.free)

  pub live_new : IsLive P J s
  live_new = record {
    held = held_forward only s c.slot.held;
    names = λ z. let h = c.least in let e = stored in omega (arith, h, e, z);
    stays = λ q h points same. c.slot.no_target q (held_back only q h) (sym (only.pointer q) ∙ points);
  }

  pub live_cases : (t : ℕ) → IsLive P J t → (t ≡ s) ⊎ IsLive P I t
  live_cases t l = elim (cases_eq t s) [
    | inl e ↦ inl e
    | inr ne ↦ inr (record {
      held = held_back only t l.held;
      names = λ z. l.names (only.inode t ne ∙ z);
      stays = λ q h points same. elim (cases_eq q s) [
        | inl e ↦ let z = ap (slot_pointer P I) e ∙ c.slot.no_pointer in omega (arith, z, points)
        | inr other ↦ l.stays q (held_forward only q h) (only.pointer q ∙ points) (only.inode q other ∙ same ∙ sym (only.inode t ne))
      ];
    })
  ]

  -- the inode has no slots of its own
  pub leaf : (t : ℕ) → IsHeld P I t → slot_owner P I t ≡ i → IsDirectory I i → ⊥
  unfolding slot_owner
  leaf t h e k = elim c.node [
    | inl f ↦ f.no_pages (page_of_slot t) (page_of_slot_below P t h.in_range) e
    | inr o ↦ let one = o.file in omega (arith, one, k)
  ]

  names_forward : (q : Route) (x : ℕ) → Names P I q x → Names P J q x
  names_forward [] x e = e
  names_forward (n ∷ q) x (t, b, l) =
      let o = same_owner only t l.live.held.in_range in (
        t,
        subst (Names P J q) (sym o) (names_forward q (slot_owner P I t) b),
        record {
          directory = ap (inode_kind J) o ∙ kind_reached only c.coherent (slot_owner P I t) (q, b) ∙ l.directory;
          live = live_forward t l.live;
          name = same_name only t ∙ l.name;
          inode = only.inode t (λ e. l.live.names (ap (slot_inode P I) e ∙ c.slot.free)) ∙ l.inode;
          in_range = l.in_range;
        },
      )

  pub names_new : Names P J (slot_name P I s ∷ p) i
  names_new =
      let o = same_owner only s c.slot.held.in_range ∙ c.slot.owner in (
        s,
        subst (Names P J p) (sym o) (names_forward p d c.slot.path),
        record {
          directory = ap (inode_kind J) o ∙ kind_reached only c.coherent d (p, c.slot.path) ∙ c.slot.directory;
          live = live_new;
          name = same_name only s;
          inode = stored;
          in_range = c.most;
        },
      )

  names_cases : (q : Route) (x : ℕ) → Names P J q x → Names P I q x ⊎ ((q ≡ slot_name P I s ∷ p) × (x ≡ i))
  names_cases [] x e = inl e
  names_cases (n ∷ q) x (t, b, l) =
      let o = same_owner only t l.live.held.in_range in
      let mine = held_back only t l.live.held in
      elim (names_cases q (slot_owner P I t) (subst (Names P J q) o b)) [
        | inr new ↦ absurd (leaf t mine new.1 (sym (only.node_kind i c.most) ∙ ap (inode_kind J) (sym (o ∙ new.1)) ∙ l.directory))
        | inl old ↦
            let directory : IsDirectory I (slot_owner P I t) = sym (kind_reached only c.coherent (slot_owner P I t) (q, old)) ∙ ap (inode_kind J) (sym o) ∙ l.directory in
            elim (live_cases t l.live) [
              | inl e ↦
                  let path : q ≡ p = one_path P I c.coherent q p d c.slot.directory (subst (Names P I q) (ap (slot_owner P I) e ∙ c.slot.owner) old) c.slot.path in
                  let name : n ≡ slot_name P I s = sym l.name ∙ same_name only t ∙ ap (slot_name P I) e in
                  inr (cc, sym l.inode ∙ ap (slot_inode P J) e ∙ stored)
              | inr live ↦ inl (
                t,
                old,
                record {
                  directory = directory;
                  live = live;
                  name = sym (same_name only t) ∙ l.name;
                  inode = sym (only.inode t (λ e. live.names (ap (slot_inode P I) e ∙ c.slot.free))) ∙ l.inode;
                  in_range = l.in_range;
                },
              )
            ]
      ]

  pub reached_forward : (x : ℕ) → Reached P I x → Reached P J x
  reached_forward x (q, b) = (q, names_forward q x b)

  pub reached_cases : (x : ℕ) → Reached P J x → Reached P I x ⊎ (x ≡ i)
  reached_cases x (q, b) = elim (names_cases q x b) [ inl old ↦ inl (q, old) | inr new ↦ inr new.1 ]

  pub slot_cases : (t : ℕ) → IsReachedSlot P J t → (t ≡ s) ⊎ IsReachedSlot P I t
  slot_cases t r =
      let o = same_owner only t r.live.held.in_range in
      elim (reached_cases (slot_owner P I t) (subst (Reached P J) o r.owner)) [
        | inr e ↦ absurd (leaf t (held_back only t r.live.held) e (sym (only.node_kind i c.most) ∙ ap (inode_kind J) (sym (o ∙ e)) ∙ r.directory))
        | inl old ↦ elim (live_cases t r.live) [
          | inl e ↦ inl e
          | inr live ↦ inr (record { owner = old; directory = sym (kind_reached only c.coherent (slot_owner P I t) old) ∙ ap (inode_kind J) (sym o) ∙ r.directory; live = live })
        ]
      ]

  same_inode : (t : ℕ) → IsReachedSlot P I t → slot_inode P J t ≡ slot_inode P I t
  same_inode t r = only.inode t (λ e. r.live.names (ap (slot_inode P I) e ∙ c.slot.free))

  slot_range : (t : ℕ) → IsReachedSlot P I t → slot_inode P I t ≤ inodes_of P
  slot_range t r = (c.coherent Rule.inodes t).most r

  -- a fresh inode that is a file has no pages below its end
  fresh_whole : IsNewNode P I i → HasBytes J i → IsWhole P J i
  unfolding pages_of_size
  fresh_whole f one =
      let z : inode_size J i ≡ 0 = only.node_size i c.most ∙ f.empty (sym (only.node_kind i c.most) ∙ one) in
      let none : (k : ℕ) → k < pages_of_size (inode_size J i) → ⊥ = λ k lt. (let lt' : k < (0 + 4095) / 4096 = subst (λ x. k < (x + 4095) / 4096) z lt in omega arith) in
      record { small = omega (arith, z); full = λ k lt. absurd (none k lt); one = λ h j k lt below. absurd (none k below) }

  -- i is a directory only where it is new, and then no slot of I names it
  no_second : (t : ℕ) → IsReachedSlot P I t → slot_inode P I t ≡ i → IsDirectory I i → ⊥
  no_second t r e k = elim c.node [
    | inl f ↦ f.unreached (subst (Reached P I) e (reach P I t r (slot_range t r)))
    | inr o ↦ let one = o.file in omega (arith, one, k)
  ]

  -- each reached inode of J is one of I, or new
  pub inode_cases : (x : ℕ) → Reached P J x → Reached P I x ⊎ ((x ≡ i) × IsNewNode P I i)
  inode_cases x r = elim (reached_cases x r) [
    | inl old ↦ inl old
    | inr e ↦ elim c.node [ inl f ↦ inr (e, f) | inr q ↦ inl (subst (Reached P I) (sym e) q.reached) ]
  ]

  pub in_range : (x : ℕ) → Reached P J x → x ≤ inodes_of P
  in_range x r = elim (inode_cases x r) [
    | inl old ↦ reached-le P I c.coherent x old
    | inr new ↦ subst (λ z. z ≤ inodes_of P) (sym new.0) c.most
  ]

  name_of : (x t : ℕ) → IsNameOf P J x t → ((t ≡ s) × (x ≡ i)) ⊎ IsNameOf P I x t
  name_of x t n = elim (slot_cases t n.slot) [
    | inl e ↦ inl (e, sym n.inode ∙ ap (slot_inode P J) e ∙ stored)
    | inr old ↦ inr (record { slot = old; inode = sym (same_inode t old) ∙ n.inode })
  ]

  child_of : (x t : ℕ) → IsChildOf P J x t → ((t ≡ s) × (x ≡ d) × IsDirectory I i) ⊎ IsChildOf P I x t
  child_of x t n =
      let o = same_owner only t n.slot.live.held.in_range in
      elim (slot_cases t n.slot) [
        | inl e ↦ inl (
          e,
          sym n.owner ∙ o ∙ ap (slot_owner P I) e ∙ c.slot.owner,
          sym (only.node_kind i c.most) ∙ ap (inode_kind J) (sym (ap (slot_inode P J) e ∙ stored)) ∙ n.directory,
        )
        | inr old ↦ inr (record {
          slot = old;
          owner = sym o ∙ n.owner;
          directory = sym (kind_reached only c.coherent (slot_inode P I t) (reach P I t old (slot_range t old))) ∙ ap (inode_kind J) (sym (same_inode t old)) ∙ n.directory;
        })
      ]

  kind_of : HasBytes I i ⊎ IsDirectory I i
  kind_of = elim c.node [ inl f ↦ f.kind | inr q ↦ inl q.file ]

  -- the names of the inode itself
  links_self : HasBytes I i → AtMost 0 (IsNameOf P J i) (inode_links I i)
  links_self k = at_most_more 0 (inode_links I i) s (IsNameOf P I i) (IsNameOf P J i)
      (λ t n. elim (name_of i t n) [ inl e ↦ inl e.0 | inr old ↦ inr old ]) (c.name_link k)

  links_file : (x : ℕ) → Reached P I x → x ≢ i → HasBytes I x → AtMost 0 (IsNameOf P J x) (inode_links I x)
  links_file x r ne k = at_most 0 (inode_links I x) (IsNameOf P I x) (IsNameOf P J x)
      (λ t n. elim (name_of x t n) [ inl e ↦ absurd (ne e.1) | inr old ↦ old ]) ((c.coherent Rule.links x r).file k)

  links_new : IsNewNode P I i → IsDirectory I i → AtMost 2 (IsChildOf P J i) (inode_links I i)
  links_new f k = at_most_none 2 (inode_links I i) (IsChildOf P J i)
      (λ t n. elim (child_of i t n) [
        | inl e ↦ f.unreached (subst (Reached P I) (sym e.1) (p, c.slot.path))
        | inr old ↦ leaf t old.slot.live.held old.owner k
      ])
      (f.no_children k)

  links_directory : (x : ℕ) → Reached P I x → IsDirectory I x → AtMost 2 (IsChildOf P J x) (inode_links I x)
  links_directory x r k = elim kind_of [
    | inl one ↦ at_most 2 (inode_links I x) (IsChildOf P I x) (IsChildOf P J x)
        (λ t n. elim (child_of x t n) [ inl e ↦ (let two = e.2 in absurd (omega (arith, one, two))) | inr old ↦ old ]) ((c.coherent Rule.links x r).directory k)
    | inr two ↦ elim (cases_eq x d) [
      | inl e ↦ subst (λ z. AtMost 2 (IsChildOf P J z) (inode_links I z)) (sym e)
          (at_most_more 2 (inode_links I d) s (IsChildOf P I d) (IsChildOf P J d)
          (λ t n. elim (child_of d t n) [ inl e ↦ inl e.0 | inr old ↦ inr old ]) (c.child_link two))
      | inr ne ↦ at_most 2 (inode_links I x) (IsChildOf P I x) (IsChildOf P J x)
          (λ t n. elim (child_of x t n) [ inl e ↦ absurd (ne e.1) | inr old ↦ old ]) ((c.coherent Rule.links x r).directory k)
    ]
  ]

  links_of : (x : ℕ) → Reached P J x → HasLinks P J x (inode_links I x)
  links_of x r = elim (inode_cases x r) [
    | inl old ↦ record {
      file = λ k. let k' = sym (only.node_kind x (in_range x r)) ∙ k in elim (cases_eq x i) [
        | inl e ↦ subst (λ z. AtMost 0 (IsNameOf P J z) (inode_links I z)) (sym e) (links_self (ap (inode_kind I) (sym e) ∙ k'))
        | inr ne ↦ links_file x old ne k'
      ];
      directory = λ k. links_directory x old (sym (only.node_kind x (in_range x r)) ∙ k);
    }
    | inr new ↦ subst (λ z. HasLinks P J z (inode_links I z)) (sym new.0) (record {
      file = λ k. links_self (sym (only.node_kind i c.most) ∙ k);
      directory = λ k. links_new new.1 (sym (only.node_kind i c.most) ∙ k);
    })
  ]

  new : NewSlot P I J (λ t. t ≡ s) s
  new = record {
    alone = λ t e. sym e;
    range = subst (λ z. (2 ≤ z) × (z ≤ inodes_of P)) (sym stored) (c.least, c.most);
    words = subst IsNameWords (sym (only.words s)) c.name;
    name = λ t _ o owner name. c.new t o.reached (owner ∙ same_owner only s c.slot.held.in_range ∙ c.slot.owner) (name ∙ same_name only s);
    directory = λ t _ o two number. no_second t o.reached (number ∙ stored) (sym (only.node_kind i c.most) ∙ ap (inode_kind J) (sym stored) ∙ two);
  }

  old_slot : (t : ℕ) → IsReachedSlot P I t → OldSlot P I J (λ u. u ≡ s) t
  old_slot t r = record {
    other = λ e. r.live.names (ap (slot_inode P I) e ∙ c.slot.free);
    reached = r;
    inode = same_inode t r;
    owner = same_owner only t r.live.held.in_range;
    words = only.words t;
  }

  node_fits : IsNewNode P I i → NewInode J i
  node_fits f = record {
    other = λ e. let two = c.least in omega (arith, two, e);
    kind = formed I J i (only.node_kind i c.most) f.kind;
    own = only.own i c.most ∙ f.own;
  }

  within : Within P I J (λ t. t ≡ s)
  within = record {
    size = only.size;
    head = λ x. same_head P I J x only.size only.head (c.coherent Rule.head x);
    pointers = pointers_kept only c.coherent;
    one_pointer = one_pointer_kept only c.coherent;
    slots = λ t r. elim (slot_cases t r) [ inl e ↦ inl e | inr old ↦ inr (old_slot t old) ];
    new = λ t e. subst (NewSlot P I J (λ u. u ≡ s)) (sym e) new;
    named = λ t r. only.node_kind (slot_inode P I t) (slot_range t r);
    inodes = λ x r. elim (inode_cases x r) [
      | inl old ↦ inl (record { reached = old; kind = only.node_kind x (in_range x r); own = only.own x (in_range x r) })
      | inr (e, f) ↦ inr (subst (NewInode J) (sym e) (node_fits f))
    ];
    links = λ x r. subst (HasLinks P J x) (sym (only.links x (in_range x r))) (links_of x r);
    kinds = λ j lt r. page_kind_kept only c.coherent j lt (elim (reached_cases (page_owner P I j) (subst (Reached P J) (only.owner j lt) r)) [
      | inl old ↦ old
      | inr is ↦ elim c.node [ inl f ↦ absurd (f.no_pages j lt is) | inr q ↦ subst (Reached P I) (sym is) q.reached ]
    ]);
    files = λ x r k. elim (inode_cases x r) [
      | inl old ↦ whole_kept only c.coherent x old k
      | inr (e, f) ↦ subst (IsWhole P J) (sym e) (fresh_whole f (ap (inode_kind J) (sym e) ∙ k))
    ];
  }

  pub added_coherent : IsCoherent P J
  added_coherent = within_coherent P I J (λ t. t ≡ s) c.coherent within

  pub added_names : (q : Route) (x : ℕ) → Names P J q x ↔ (Names P I q x ⊎ ((q ≡ slot_name P I s ∷ p) × (x ≡ i)))
  added_names q x = (
    names_cases q x,
    λ h. elim h [
      | inl old ↦ names_forward q x old
      | inr new ↦ subst (λ z. Names P J z x) (sym new.0) (subst (Names P J (slot_name P I s ∷ p)) (sym new.1) names_new)
    ],
  )

  pub added_node : (x : ℕ) (z : Node) → x ≤ inodes_of P → IsNode P I x z ↔ IsNode P J x z
  added_node = only_node only c.slot.held
