-- A slot that points at a live slot takes its inode number: what was there is then at the new path.
use Rattle.std.proofs.Common.{◌≡◌, ◌≢◌, ◌↔◌, ◌⊎◌, inl, inr, ℕ, ◌+◌, ◌≤◌, List, [], ◌∷◌, ◌++◌, length, refl, sym, ap, subst, ◌∙◌, arith, length-append}
use Rattle.std.proofs.lemmas.Bool.{cases_eq}
use Rattle.layout.specs.Fields.{inode_kind, inode_links, page_owner, slot_inode, slot_pointer, slot_name}
use Rattle.layout.specs.Geometry.{inodes_of}
use Rattle.layout.specs.Name.{IsNameWords}
use Rattle.tree_model.specs.PathText.{Route}
use Rattle.image_reading.specs.Counts.{AtMost}
use Rattle.image_reading.specs.Reading.{IsDirectory, HasBytes, slot_owner, IsLive, Leads, Names, Reached, IsReachedSlot, IsNameOf, IsChildOf}
use Rattle.image_reading.specs.Soundness.{Rule, IsCoherent, HasLinks}
use Rattle.image_counts.proofs.Paths.{one_path, one_inode, same_slot, same_directory}
use Rattle.image_laws.proofs.Counts.{at_most, at_most_swap}
use Rattle.image_laws.specs.Move.{CanMove}
use Rattle.image_laws.proofs.Meaning.{same_head}
use Rattle.image_laws.proofs.OnlySlot.{GetsNumber, same_owner, same_name, held_forward, held_back, pointers_kept, one_pointer_kept, kind_reached, whole_kept, page_kind_kept}
use Rattle.image_laws.proofs.Paths.{slot_of, reach, reached-le}
use Rattle.image_laws.proofs.Within.{NewSlot, Within, within_coherent}

not_longer : (r : Route) (n : List ℕ) (p : Route) → p ≡ r ++ n ∷ p → ⊥
not_longer r n p e = let h = ap length e ∙ length-append r (n ∷ p) in omega (arith, h)

module _ (P : ℕ) (I J : List ℕ) (pa pb : Route) (s d : ℕ) (c : CanMove P I pa pb s d) (a : GetsNumber P I J d (slot_inode P I s)) where
  new_path : Route
  new_path = slot_name P I d ∷ pb

  pub apart : s ≢ d
  apart e = (c.coherent Rule.pointers d).other c.held (c.pointer ∙ ap (λ x. x + 1) e)

  pub source_slot : IsReachedSlot P I s
  source_slot = record { owner = (pa, c.source_path); directory = c.source_directory; live = c.source }

  source_inode : slot_inode P J s ≡ slot_inode P I s
  source_inode = a.only.inode s apart

  pub not_source : (t : ℕ) → IsLive P J t → t ≢ s
  not_source t l e = l.stays d (held_forward a.only d c.held) (a.only.pointer d ∙ c.pointer ∙ ap (λ x. x + 1) (sym e)) (a.number ∙ sym source_inode ∙ ap (slot_inode P J) (sym e))

  pub live_new : IsLive P J d
  live_new = record {
    held = held_forward a.only d c.held;
    names = λ z. c.source.names (sym a.number ∙ z);
    stays = λ q h points same. elim (cases_eq q d) [
      | inl e ↦ apart (let x = sym (a.only.pointer q ∙ ap (slot_pointer P I) e ∙ c.pointer) ∙ points in omega (arith, x))
      | inr ne ↦ (let z = a.only.pointer q ∙ c.alone q (held_back a.only q h) ne in omega (arith, z, points))
    ];
  }

  pub live_forward : (t : ℕ) → t ≢ s → t ≢ d → IsLive P I t → IsLive P J t
  live_forward t ns nd l = let e = a.only.inode t nd in record {
    held = held_forward a.only t l.held;
    names = λ z. l.names (sym e ∙ z);
    stays = λ q h points same. elim (cases_eq q d) [
      | inl f ↦ ns (let x = sym (a.only.pointer q ∙ ap (slot_pointer P I) f ∙ c.pointer) ∙ points in omega (arith, x))
      | inr ne ↦ (let z = a.only.pointer q ∙ c.alone q (held_back a.only q h) ne in omega (arith, z, points))
    ];
  }

  pub live_back : (t : ℕ) → t ≢ d → IsLive P J t → IsLive P I t
  live_back t nd l = let e = a.only.inode t nd in record {
    held = held_back a.only t l.held;
    names = λ z. l.names (e ∙ z);
    stays = λ q h points same. elim (cases_eq q d) [
      | inl f ↦ not_source t l (let x = sym (ap (slot_pointer P I) f ∙ c.pointer) ∙ points in omega (arith, x))
      | inr ne ↦ l.stays q (held_forward a.only q h) (a.only.pointer q ∙ points) (a.only.inode q ne ∙ same ∙ sym e)
    ];
  }

  -- the step from a directory that J and I reach by paths q and q'
  leads_forward : (t : ℕ) (n : List ℕ) (x : ℕ) → t ≢ s → t ≢ d → Reached P I (slot_owner P I t) → Leads P I t n x → Leads P J t n x
  leads_forward t n x ns nd r l = record {
    directory = ap (inode_kind J) (same_owner a.only t l.live.held.in_range) ∙ kind_reached a.only c.coherent (slot_owner P I t) r ∙ l.directory;
    live = live_forward t ns nd l.live;
    name = same_name a.only t ∙ l.name;
    inode = a.only.inode t nd ∙ l.inode;
    in_range = l.in_range;
  }

  leads_back : (t : ℕ) (n : List ℕ) (x : ℕ) → t ≢ d → Reached P I (slot_owner P I t) → Leads P J t n x → Leads P I t n x
  leads_back t n x nd r l = record {
    directory = sym (kind_reached a.only c.coherent (slot_owner P I t) r) ∙ ap (inode_kind J) (sym (same_owner a.only t l.live.held.in_range)) ∙ l.directory;
    live = live_back t nd l.live;
    name = sym (same_name a.only t) ∙ l.name;
    inode = sym (a.only.inode t nd) ∙ l.inode;
    in_range = l.in_range;
  }

  -- paths to the directories of the two slots are theirs
  to_source : (q : Route) (t : ℕ) → t ≡ s → Names P I q (slot_owner P I t) → q ≡ pa
  to_source q t e b = one_path P I c.coherent q pa (slot_owner P I s) c.source_directory (subst (Names P I q) (ap (slot_owner P I) e) b) c.source_path

  to_target : (q : Route) (t : ℕ) → t ≡ d → Names P I q (slot_owner P I t) → q ≡ pb
  to_target q t e b = one_path P I c.coherent q pb (slot_owner P I d) c.target_directory (subst (Names P I q) (ap (slot_owner P I) e) b) c.target_path

  IsUnder : Route → Type 0
  IsUnder q = (r : Route) × (q ≡ r ++ slot_name P I s ∷ pa)

  -- nothing stands below the new path
  pub none_below : (t : ℕ) (q : Route) → q ≡ slot_name P I d ∷ pb → Names P I q (slot_owner P I t) → {n : List ℕ} {y : ℕ} → Leads P I t n y → ⊥
  none_below t q e b l =
      let (w, above, k) = subst (λ z. Names P I z (slot_owner P I t)) e b in
      let same : slot_owner P I w ≡ slot_owner P I d = one_inode P I c.coherent pb (slot_owner P I w) (slot_owner P I d) above c.target_path in
      elim (cases_eq w d) [
        | inl f ↦
            let is : slot_inode P I d ≡ slot_owner P I t = ap (slot_inode P I) (sym f) ∙ k.inode in
            c.leaf (subst (IsLive P I) f k.live) (ap (inode_kind I) is ∙ l.directory) t l.live (sym is)
        | inr ne ↦ c.new w (slot_of P I w pb (slot_name P I d) (slot_owner P I t) above k) ne same k.name
      ]

  -- and it isn't the old one, nor below it
  pub not_under : (r : Route) → slot_name P I d ∷ pb ≡ r ++ slot_name P I s ∷ pa → ⊥
  not_under [] e =
      let paths : pb ≡ pa = cc in
      let names : slot_name P I d ≡ slot_name P I s = cc in
      let owners = one_inode P I c.coherent pa (slot_owner P I s) (slot_owner P I d) c.source_path (subst (λ q. Names P I q (slot_owner P I d)) paths c.target_path) in
      c.new s source_slot apart owners (sym names)
  not_under (m ∷ r) e = let rest : pb ≡ r ++ slot_name P I s ∷ pa = cc in c.outside r rest

  -- paths that stay
  names_stay : (q : Route) (x : ℕ) → Names P I q x → (IsUnder q → ⊥) → q ≢ new_path → Names P J q x
  unfolding IsUnder new_path
  names_stay [] x e u n = e
  names_stay (m ∷ q) x (t, b, l) u n =
      let ns : t ≢ s = λ e.
      let path : q ≡ pa = to_source q t e b in
      let name : m ≡ slot_name P I s = sym l.name ∙ ap (slot_name P I) e in
      let whole : m ∷ q ≡ slot_name P I s ∷ pa = cc in
      u ([], whole) in
      let nd : t ≢ d = λ e.
      let path : q ≡ pb = to_target q t e b in
      let name : m ≡ slot_name P I d = sym l.name ∙ ap (slot_name P I) e in
      let whole : m ∷ q ≡ slot_name P I d ∷ pb = cc in
      n whole in
      let o = same_owner a.only t l.live.held.in_range in (
        t,
        subst (Names P J q) (sym o) (names_stay q (slot_owner P I t) b (λ (r, e). u (m ∷ r, ap (λ z. m ∷ z) e)) (λ e. none_below t q e b l)),
        leads_forward t m x ns nd (q, b) l,
      )

  pub pb_stays : Names P J pb (slot_owner P J d)
  unfolding IsUnder new_path
  pb_stays = subst (Names P J pb) (sym (same_owner a.only d c.held.in_range)) (names_stay pb (slot_owner P I d) c.target_path (λ (r, e). c.outside r e) (λ e. not_longer [] (slot_name P I d) pb e))

  names_move : (r : Route) (x : ℕ) → Names P I (r ++ slot_name P I s ∷ pa) x → Names P J (r ++ slot_name P I d ∷ pb) x
  names_move [] x (t, b, l) =
      let same : slot_owner P I t ≡ slot_owner P I s = one_inode P I c.coherent pa (slot_owner P I t) (slot_owner P I s) b c.source_path in
      let e : t ≡ s = same_slot P I c.coherent t s (slot_of P I t pa (slot_name P I s) x b l) source_slot same l.name in
      let is : slot_inode P I s ≡ x = ap (slot_inode P I) (sym e) ∙ l.inode in (
        d,
        pb_stays,
        record {
          directory = ap (inode_kind J) (same_owner a.only d c.held.in_range) ∙ kind_reached a.only c.coherent (slot_owner P I d) (pb, c.target_path) ∙ c.target_directory;
          live = live_new;
          name = same_name a.only d;
          inode = a.number ∙ is;
          in_range = l.in_range;
        },
      )
  names_move (m ∷ r) x (t, b, l) =
      let ns : t ≢ s = λ e. not_longer r (slot_name P I s) pa (sym (to_source (r ++ slot_name P I s ∷ pa) t e b)) in
      let nd : t ≢ d = λ e. c.outside r (sym (to_target (r ++ slot_name P I s ∷ pa) t e b)) in
      let o = same_owner a.only t l.live.held.in_range in (
        t,
        subst (Names P J (r ++ slot_name P I d ∷ pb)) (sym o) (names_move r (slot_owner P I t) b),
        leads_forward t m x ns nd (r ++ slot_name P I s ∷ pa, b) l,
      )

  Stays : Route → ℕ → Type 0
  Stays q x = Names P I q x × (IsUnder q → ⊥) × (q ≢ new_path)

  Moved : Route → ℕ → Type 0
  Moved q x = (r : Route) × (q ≡ r ++ slot_name P I d ∷ pb) × Names P I (r ++ slot_name P I s ∷ pa) x

  names_back : (q : Route) (x : ℕ) → Names P J q x → Stays q x ⊎ Moved q x
  unfolding IsUnder new_path Stays Moved
  names_back [] x e = inl (e, (λ (r, h). nil r h), (λ h. cc))
    where
      nil : (r : Route) → [] ≡ r ++ slot_name P I s ∷ pa → ⊥
      nil [] h = cc
      nil (m ∷ r) h = cc
  names_back (m ∷ q) x (t, b, l) =
      let o = same_owner a.only t l.live.held.in_range in
      elim (names_back q (slot_owner P I t) (subst (Names P J q) o b)) [
        | inl (old, u, n) ↦ elim (cases_eq t d) [
          | inl e ↦
              let path : q ≡ pb = to_target q t e old in
              let name : m ≡ slot_name P I d = sym l.name ∙ same_name a.only t ∙ ap (slot_name P I) e in
              let is : slot_inode P I s ≡ x = sym a.number ∙ ap (slot_inode P J) (sym e) ∙ l.inode in
              let whole : m ∷ q ≡ slot_name P I d ∷ pb = cc in
              inr ([], whole, (s, c.source_path, record { directory = c.source_directory; live = c.source; name = refl; inode = is; in_range = l.in_range }))
          | inr nd ↦
              let k = leads_back t m x nd (q, old) l in
              inl ((t, old, k), (λ (r, h). under t q m x old k (not_source t l.live) u r h), (λ h. at_new t q m x old k nd h))
        ]
        | inr (r, e, old) ↦ elim (cases_eq t d) [
          | inl f ↦ absurd (c.outside r (sym (to_target (r ++ slot_name P I s ∷ pa) t f old)))
          | inr nd ↦ inr (m ∷ r, ap (λ z. m ∷ z) e, (t, old, leads_back t m x nd (r ++ slot_name P I s ∷ pa, old) l))
        ]
      ]
    where
      under : (t : ℕ) (q : Route) (m : List ℕ) (x : ℕ) → Names P I q (slot_owner P I t) → Leads P I t m x → t ≢ s →
          ((r : Route) × (q ≡ r ++ slot_name P I s ∷ pa) → ⊥) → (r : Route) → m ∷ q ≡ r ++ slot_name P I s ∷ pa → ⊥
      under t q m x b k ns u [] h =
          let path : q ≡ pa = cc in
          let name : m ≡ slot_name P I s = cc in
          let same : slot_owner P I t ≡ slot_owner P I s = one_inode P I c.coherent pa (slot_owner P I t) (slot_owner P I s) (subst (λ z. Names P I z (slot_owner P I t)) path b) c.source_path in
          ns (same_slot P I c.coherent t s (slot_of P I t q m x b k) source_slot same (k.name ∙ name))
      under t q m x b k ns u (n ∷ r) h = let rest : q ≡ r ++ slot_name P I s ∷ pa = cc in u (r, rest)

      at_new : (t : ℕ) (q : Route) (m : List ℕ) (x : ℕ) → Names P I q (slot_owner P I t) → Leads P I t m x → t ≢ d → m ∷ q ≡ slot_name P I d ∷ pb → ⊥
      at_new t q m x b k nd h =
          let path : q ≡ pb = cc in
          let name : m ≡ slot_name P I d = cc in
          let same : slot_owner P I t ≡ slot_owner P I d = one_inode P I c.coherent pb (slot_owner P I t) (slot_owner P I d) (subst (λ z. Names P I z (slot_owner P I t)) path b) c.target_path in
          c.new t (slot_of P I t q m x b k) nd same (k.name ∙ name)

  pub moved_names : (q : Route) (x : ℕ) → Names P J q x ↔
      ((Names P I q x × ((r : Route) × (q ≡ r ++ slot_name P I s ∷ pa) → ⊥) × (q ≢ slot_name P I d ∷ pb))
      ⊎ ((r : Route) × (q ≡ r ++ slot_name P I d ∷ pb) × Names P I (r ++ slot_name P I s ∷ pa) x))
  unfolding IsUnder new_path Stays Moved
  moved_names q x = (
    names_back q x,
    λ h. elim h [
      | inl (old, u, n) ↦ names_stay q x old u n
      | inr (r, e, old) ↦ subst (λ z. Names P J z x) (sym e) (names_move r x old)
    ],
  )

  pub reached_back : (x : ℕ) → Reached P J x → Reached P I x
  unfolding Stays Moved
  reached_back x (q, b) = elim (names_back q x b) [ inl h ↦ (q, h.0) | inr h ↦ (h.0 ++ slot_name P I s ∷ pa, h.2) ]

  -- each reached slot of J is d, or one of I that isn't the source
  slot_cases : (t : ℕ) → IsReachedSlot P J t → (t ≡ d) ⊎ (IsReachedSlot P I t × (t ≢ s) × (t ≢ d))
  slot_cases t r =
      let o = same_owner a.only t r.live.held.in_range in
      let owner : Reached P I (slot_owner P I t) = subst (Reached P I) o (reached_back (slot_owner P J t) r.owner) in
      elim (cases_eq t d) [
        | inl e ↦ inl e
        | inr nd ↦ inr (
          record {
            owner = owner;
            live = live_back t nd r.live;
            directory = sym (kind_reached a.only c.coherent (slot_owner P I t) owner) ∙ ap (inode_kind J) (sym o) ∙ r.directory;
          },
          not_source t r.live,
          nd,
        )
      ]

  i_range : (2 ≤ slot_inode P I s) × (slot_inode P I s ≤ inodes_of P)
  i_range = ((c.coherent Rule.inodes s).least source_slot, (c.coherent Rule.inodes s).most source_slot)

  kind_named : (t : ℕ) → IsReachedSlot P I t → t ≢ d → inode_kind J (slot_inode P J t) ≡ inode_kind I (slot_inode P I t)
  kind_named t r nd = ap (inode_kind J) (a.only.inode t nd) ∙ a.only.node_kind (slot_inode P I t) ((c.coherent Rule.inodes t).most r)

  name_of : (x t : ℕ) → IsNameOf P J x t → ((t ≡ d) × (x ≡ slot_inode P I s)) ⊎ (IsNameOf P I x t × (t ≢ s))
  name_of x t n = elim (slot_cases t n.slot) [
    | inl e ↦ inl (e, sym n.inode ∙ ap (slot_inode P J) e ∙ a.number)
    | inr old ↦ inr (record { slot = old.0; inode = sym (a.only.inode t old.2) ∙ n.inode }, old.1)
  ]

  child_of : (x t : ℕ) → IsChildOf P J x t → ((t ≡ d) × (x ≡ slot_owner P I d) × IsDirectory I (slot_inode P I s)) ⊎ (IsChildOf P I x t × (t ≢ s))
  child_of x t n =
      let o = same_owner a.only t n.slot.live.held.in_range in
      elim (slot_cases t n.slot) [
        | inl e ↦ inl (e, sym n.owner ∙ o ∙ ap (slot_owner P I) e, sym (a.only.node_kind (slot_inode P I s) i_range.1) ∙ ap (inode_kind J) (sym (ap (slot_inode P J) e ∙ a.number)) ∙ n.directory)
        | inr old ↦ inr (record { slot = old.0; owner = sym o ∙ n.owner; directory = sym (kind_named t old.0 old.2) ∙ n.directory }, old.1)
      ]

  links_file : (x : ℕ) → Reached P I x → HasBytes I x → AtMost 0 (IsNameOf P J x) (inode_links I x)
  links_file x r k = elim (cases_eq x (slot_inode P I s)) [
    | inl e ↦ at_most_swap 0 (inode_links I x) s d (IsNameOf P I x) (IsNameOf P J x) (record { slot = source_slot; inode = sym e })
        (λ t n. elim (name_of x t n) [ inl h ↦ inl h.0 | inr old ↦ inr old ]) ((c.coherent Rule.links x r).file k)
    | inr ne ↦ at_most 0 (inode_links I x) (IsNameOf P I x) (IsNameOf P J x)
        (λ t n. elim (name_of x t n) [ inl h ↦ absurd (ne h.1) | inr old ↦ old.0 ]) ((c.coherent Rule.links x r).file k)
  ]

  -- children of x, where the moved slot isn't one
  links_other : (x : ℕ) → Reached P I x → IsDirectory I x → (x ≡ slot_owner P I d → IsDirectory I (slot_inode P I s) → ⊥) → AtMost 2 (IsChildOf P J x) (inode_links I x)
  links_other x r k never = at_most 2 (inode_links I x) (IsChildOf P I x) (IsChildOf P J x)
      (λ t n. elim (child_of x t n) [ inl h ↦ absurd (never h.1 h.2) | inr old ↦ old.0 ]) ((c.coherent Rule.links x r).directory k)

  links_parent : IsDirectory I (slot_inode P I s) → AtMost 2 (IsChildOf P J (slot_owner P I d)) (inode_links I (slot_owner P I d))
  links_parent two = elim (cases_eq (slot_owner P I d) (slot_owner P I s)) [
    | inl e ↦ at_most_swap 2 (inode_links I (slot_owner P I d)) s d (IsChildOf P I (slot_owner P I d)) (IsChildOf P J (slot_owner P I d))
        (record { slot = source_slot; owner = sym e; directory = two })
        (λ t n. elim (child_of (slot_owner P I d) t n) [ inl h ↦ inl h.0 | inr old ↦ inr old ])
        ((c.coherent Rule.links (slot_owner P I d) (pb, c.target_path)).directory c.target_directory)
    | inr ne ↦ at_most 2 (inode_links I (slot_owner P I d)) (λ t. (t ≡ d) ⊎ IsChildOf P I (slot_owner P I d) t) (IsChildOf P J (slot_owner P I d))
        (λ t n. elim (child_of (slot_owner P I d) t n) [ inl h ↦ inl h.0 | inr old ↦ inr old.0 ]) (c.child_link two ne)
  ]

  links_directory : (x : ℕ) → Reached P I x → IsDirectory I x → AtMost 2 (IsChildOf P J x) (inode_links I x)
  links_directory x r k = elim (cases_eq x (slot_owner P I d)) [
    | inl e ↦ elim ((c.coherent Rule.kinds (slot_inode P I s)).kind (reach P I s source_slot i_range.1)) [
      | inl one ↦ links_other x r k (λ h two. omega (arith, one, two))
      | inr two ↦ subst (λ z. AtMost 2 (IsChildOf P J z) (inode_links I z)) (sym e) (links_parent two)
    ]
    | inr ne ↦ links_other x r k (λ h two. ne h)
  ]

  new : NewSlot P I J (λ t. t ≡ d) d
  new = record {
    alone = λ t e. sym e;
    range = subst (λ z. (2 ≤ z) × (z ≤ inodes_of P)) (sym a.number) i_range;
    words = subst IsNameWords (sym (a.only.words d)) c.name;
    name = λ t r o owner name. c.new t o.reached o.other (owner ∙ same_owner a.only d c.held.in_range) (name ∙ same_name a.only d);
    -- only the source named it, where it is a directory
    directory = λ t r o two number. not_source t r.live (same_directory P I c.coherent t s o.reached source_slot
        (ap (inode_kind I) (number ∙ a.number) ∙ sym (a.only.node_kind (slot_inode P I s) i_range.1) ∙ ap (inode_kind J) (sym a.number) ∙ two) (number ∙ a.number));
  }

  within : Within P I J (λ t. t ≡ d)
  within = record {
    size = a.only.size;
    head = λ x. same_head P I J x a.only.size a.only.head (c.coherent Rule.head x);
    pointers = pointers_kept a.only c.coherent;
    one_pointer = one_pointer_kept a.only c.coherent;
    slots = λ t r. elim (slot_cases t r) [
      | inl e ↦ inl e
      | inr (old, ns, nd) ↦ inr (record { other = nd; reached = old; inode = a.only.inode t nd; owner = same_owner a.only t old.live.held.in_range; words = a.only.words t })
    ];
    new = λ t e. subst (NewSlot P I J (λ u. u ≡ d)) (sym e) new;
    named = λ t r. a.only.node_kind (slot_inode P I t) ((c.coherent Rule.inodes t).most r);
    inodes = λ x r. let m = reached_back x r in inl (record { reached = m; kind = kind_reached a.only c.coherent x m; own = a.only.own x (reached-le P I c.coherent x m) });
    links = λ x r. let m = reached_back x r in
        subst (HasLinks P J x) (sym (a.only.links x (reached-le P I c.coherent x m))) (record {
          file = λ k. links_file x m (sym (kind_reached a.only c.coherent x m) ∙ k);
          directory = λ k. links_directory x m (sym (kind_reached a.only c.coherent x m) ∙ k);
        });
    kinds = λ j lt r. page_kind_kept a.only c.coherent j lt (subst (Reached P I) (a.only.owner j lt) (reached_back (page_owner P J j) r));
    files = λ x r. whole_kept a.only c.coherent x (reached_back x r);
  }

  pub moved_coherent : IsCoherent P J
  moved_coherent = within_coherent P I J (λ t. t ≡ d) c.coherent within
