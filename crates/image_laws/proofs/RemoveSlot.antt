-- A reached slot's inode number becomes 0: the tree has one path less.
use Rattle.std.proofs.Common.{◌≡◌, ◌≢◌, ◌↔◌, ◌⊎◌, inl, inr, ℕ, List, [], ◌∷◌, sym, ap, subst, ◌∙◌, arith}
use Rattle.std.proofs.lemmas.Bool.{cases_eq}
use Rattle.layout.specs.Fields.{inode_kind, inode_links, page_owner, slot_inode, slot_pointer, slot_name}
use Rattle.tree_model.specs.PathText.{Route}
use Rattle.image_reading.specs.Reading.{slot_owner, IsLive, Names, Reached, IsReachedSlot}
use Rattle.image_reading.specs.Soundness.{Rule, IsCoherent, HasLinks}
use Rattle.image_counts.proofs.Paths.{one_path, one_inode, same_slot}
use Rattle.image_laws.specs.Remove.{CanRemove}
use Rattle.image_laws.proofs.Meaning.{same_head}
use Rattle.image_laws.proofs.OnlySlot.{GetsNumber, same_owner, same_name, held_forward, held_back, pointers_kept, one_pointer_kept, kind_reached, whole_kept, page_kind_kept}
use Rattle.image_laws.proofs.Paths.{reached-le}
use Rattle.image_laws.proofs.Within.{OldSlot, Within, within_coherent, old_links}

module _ (P : ℕ) (I J : List ℕ) (p : Route) (s : ℕ) (c : CanRemove P I p s) (a : GetsNumber P I J s 0) where
  pub other : (t : ℕ) → IsLive P J t → t ≢ s
  other t l e = l.names (ap (slot_inode P J) e ∙ a.number)

  pub live_back : (t : ℕ) → IsLive P J t → IsLive P I t
  live_back t l = let e = a.only.inode t (other t l) in record {
    held = held_back a.only t l.held;
    names = λ z. l.names (e ∙ z);
    stays = λ q h points same. elim (cases_eq q s) [
      | inl f ↦ let z = ap (slot_pointer P I) f ∙ c.no_pointer in omega (arith, z, points)
      | inr ne ↦ l.stays q (held_forward a.only q h) (a.only.pointer q ∙ points) (a.only.inode q ne ∙ same ∙ sym e)
    ];
  }

  pub live_forward : (t : ℕ) → t ≢ s → IsLive P I t → IsLive P J t
  live_forward t ne l = let e = a.only.inode t ne in record {
    held = held_forward a.only t l.held;
    names = λ z. l.names (sym e ∙ z);
    stays = λ q h points same. elim (cases_eq q s) [
      | inl f ↦ let z = a.only.pointer q ∙ ap (slot_pointer P I) f ∙ c.no_pointer in omega (arith, z, points)
      | inr other ↦ l.stays q (held_back a.only q h) (sym (a.only.pointer q) ∙ points) (sym (a.only.inode q other) ∙ same ∙ e)
    ];
  }

  names_back : (q : Route) (x : ℕ) → Names P J q x → Names P I q x
  names_back [] x e = e
  names_back (n ∷ q) x (t, b, l) =
      let o = same_owner a.only t l.live.held.in_range in
      let b' : Names P I q (slot_owner P I t) = subst (Names P I q) o (names_back q (slot_owner P J t) b) in (
        t,
        b',
        record {
          directory = sym (kind_reached a.only c.coherent (slot_owner P I t) (q, b')) ∙ ap (inode_kind J) (sym o) ∙ l.directory;
          live = live_back t l.live;
          name = sym (same_name a.only t) ∙ l.name;
          inode = sym (a.only.inode t (other t l.live)) ∙ l.inode;
          in_range = l.in_range;
        },
      )

  -- the path that goes
  unfoldable pub gone : Route
  gone = slot_name P I s ∷ p

  pub names_cases : (q : Route) (x : ℕ) → Names P I q x → Names P J q x ⊎ ((q ≡ gone) × (x ≡ slot_inode P I s))
  unfolding gone
  names_cases [] x e = inl e
  names_cases (n ∷ q) x (t, b, l) =
      let o = same_owner a.only t l.live.held.in_range in
      elim (names_cases q (slot_owner P I t) b) [
        | inr new ↦ absurd (c.leaf (ap (inode_kind I) (sym new.1) ∙ l.directory) t l.live new.1)
        | inl old ↦ elim (cases_eq t s) [
          | inl e ↦
              let path : q ≡ p = one_path P I c.coherent q p (slot_owner P I s) c.directory (subst (Names P I q) (ap (slot_owner P I) e) b) c.path in
              let name : n ≡ slot_name P I s = sym l.name ∙ ap (slot_name P I) e in
              inr (cc, sym l.inode ∙ ap (slot_inode P I) e)
          | inr ne ↦ inl (
            t,
            subst (Names P J q) (sym o) old,
            record {
              directory = ap (inode_kind J) o ∙ kind_reached a.only c.coherent (slot_owner P I t) (q, b) ∙ l.directory;
              live = live_forward t ne l.live;
              name = same_name a.only t ∙ l.name;
              inode = a.only.inode t ne ∙ l.inode;
              in_range = l.in_range;
            },
          )
        ]
      ]

  names_gone : (x : ℕ) → Names P J gone x → ⊥
  unfolding gone
  names_gone x (t, b, l) =
      let o = same_owner a.only t l.live.held.in_range in
      let b' : Names P I p (slot_owner P I t) = subst (Names P I p) o (names_back p (slot_owner P J t) b) in
      let mine : IsReachedSlot P I t = record {
        owner = (p, b');
        live = live_back t l.live;
        directory = sym (kind_reached a.only c.coherent (slot_owner P I t) (p, b')) ∙ ap (inode_kind J) (sym o) ∙ l.directory;
      } in
      let his : IsReachedSlot P I s = record { owner = (p, c.path); live = c.live; directory = c.directory } in
      let same : slot_owner P I t ≡ slot_owner P I s = one_inode P I c.coherent p (slot_owner P I t) (slot_owner P I s) b' c.path in
      other t l.live (same_slot P I c.coherent t s mine his same (sym (same_name a.only t) ∙ l.name))

  pub removed_names : (q : Route) (x : ℕ) → Names P J q x ↔ (Names P I q x × (q ≢ gone))
  removed_names q x = (
    (λ b. (names_back q x b, λ e. names_gone x (subst (λ z. Names P J z x) e b))),
    (λ h. elim (names_cases q x h.0) [ inl old ↦ old | inr e ↦ absurd (h.1 e.0) ]),
  )

  pub reached_back : (x : ℕ) → Reached P J x → Reached P I x
  reached_back x (q, b) = (q, names_back q x b)

  pub slot_back : (t : ℕ) → IsReachedSlot P J t → OldSlot P I J (λ u. ⊥) t
  slot_back t r =
      let o = same_owner a.only t r.live.held.in_range in
      let owner : Reached P I (slot_owner P I t) = subst (Reached P I) o (reached_back (slot_owner P J t) r.owner) in
      record {
        other = λ none. none;
        reached = record {
          owner = owner;
          live = live_back t r.live;
          directory = sym (kind_reached a.only c.coherent (slot_owner P I t) owner) ∙ ap (inode_kind J) (sym o) ∙ r.directory;
        };
        inode = a.only.inode t (other t r.live);
        owner = o;
        words = a.only.words t;
      }

  within : Within P I J (λ t. ⊥)
  within = record {
    size = a.only.size;
    head = λ x. same_head P I J x a.only.size a.only.head (c.coherent Rule.head x);
    pointers = pointers_kept a.only c.coherent;
    one_pointer = one_pointer_kept a.only c.coherent;
    slots = λ t r. inr (slot_back t r);
    new = λ t none. absurd none;
    named = named;
    inodes = λ x r. let m = reached_back x r in inl (record { reached = m; kind = kind_reached a.only c.coherent x m; own = a.only.own x (reached-le P I c.coherent x m) });
    links = λ x r. let m = reached_back x r in
        old_links P I J x (inode_links J x) slot_back named (kind_reached a.only c.coherent x m) (subst (HasLinks P I x) (sym (a.only.links x (reached-le P I c.coherent x m))) (c.coherent Rule.links x m));
    kinds = λ j lt r. page_kind_kept a.only c.coherent j lt (subst (Reached P I) (a.only.owner j lt) (reached_back (page_owner P J j) r));
    files = λ x r. whole_kept a.only c.coherent x (reached_back x r);
  }
    where
      named : (t : ℕ) → IsReachedSlot P I t → inode_kind J (slot_inode P I t) ≡ inode_kind I (slot_inode P I t)
      named t r = a.only.node_kind (slot_inode P I t) ((c.coherent Rule.inodes t).most r)

  pub removed_coherent : IsCoherent P J
  removed_coherent = within_coherent P I J (λ t. ⊥) c.coherent within
