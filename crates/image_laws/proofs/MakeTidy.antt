-- Once the slot has the new node's number, nothing is to be repaired.
use Rattle.std.proofs.Common.{◌≡◌, ◌≢◌, ◌↔◌, inl, inr, ℕ, ◌+◌, List, [], ◌∷◌, refl, sym, ap, subst, ◌∙◌, arith}
use Rattle.std.proofs.lemmas.Bool.{cases_eq}
use Rattle.layout.specs.Fields.{word, inode_kind, inode_links, slot_inode}
use Rattle.layout.specs.Geometry.{slot_word_of}
use Rattle.layout.specs.Kinds.{node_code}
use Rattle.layout.specs.declared.kinds.NodeKind.{NodeKind}
use Rattle.layout.specs.declared.kinds.NodeKind.TheVariants.{File, Directory}
use Rattle.tree_model.specs.PathText.{Route}
use Rattle.image_reading.specs.Counts.{Count}
use Rattle.image_reading.specs.Reading.{HasBytes, slot_owner, Reached, IsReachedSlot, IsNameOf, IsChildOf, IsLinkCount}
use Rattle.image_reading.specs.Repairs.{IsLitterCount}
use Rattle.image_reading.specs.Soundness.{Rule, IsCoherent}
use Rattle.image_reading.specs.Tidy.{IsTidied}
use Rattle.image_reading.proofs.Counts.{count_none}
use Rattle.image_laws.specs.Add.{CanAdd}
use Rattle.image_laws.specs.Create.{parent_links, MakesNode}
use Rattle.image_laws.specs.Grown.{HasGrown}
use Rattle.image_laws.specs.Stages.{IsReady}
use Rattle.image_laws.proofs.AddTidy as adds
use Rattle.image_laws.proofs.AddTidy.{IsWritten}
use Rattle.image_laws.proofs.KeptSlots as slot_laws
use Rattle.image_laws.proofs.KeptSlots.{KeepsSlots, count_kept, count_gained}
use Rattle.image_laws.proofs.Making as making
use Rattle.image_laws.proofs.OnlySlot.{OnlySlot}
use Rattle.image_laws.proofs.Paths.{reach, reached-le}
use Rattle.image_laws.proofs.Ready.{IsCleanSlot}

-- exactly one has Q
count_single : (Q : ℕ → Type 0) (s : ℕ) → ((x : ℕ) → Q x ↔ (x ≡ s)) → Count Q 1
count_single Q s is = (s ∷ [], ((λ c. c), tt), (λ x. ((λ c. elim c [ inl e ↦ (is x).1 e | inr n ↦ absurd n ]), (λ q. inl ((is x).0 q)))), refl)

module _ (P : ℕ) (B C D : List ℕ) (p : Route) (kind : NodeKind) (d s i : ℕ) (name : List ℕ) (ready : IsReady P B p d s i name) (makes : MakesNode P B C kind d s i name)
    (can : CanAdd P C p d s i) (only : OnlySlot P C D s) (stored : slot_inode P D s ≡ i) (others : (a : ℕ) → a ≢ slot_word_of P s 0 → word D a ≡ word C a) (coherent : IsCoherent P D) where
  d_reached : Reached P B d
  d_reached = (p, ready.place.slot.path)

  other_inode : (x : ℕ) → Reached P B x → x ≢ i
  other_inode x r e = ready.inode.unreached (subst (Reached P B) e r)

  written : IsWritten P B C s i d name
  written = record {
    named = making.named P B C p kind d s i name ready makes;
    linked = d_reached;
    inodes = λ x f some most lt old links. making.inode_same P B C p kind d s i name ready makes x f some most lt (elim old [ inl r ↦ other_inode x r | inr ne ↦ ne ]) links;
  }

  kept : KeepsSlots P B D (λ t. t ≡ s)
  kept = adds.kept ready.place written can only stored others coherent

  kind_same : (x : ℕ) → Reached P B x → inode_kind D x ≡ inode_kind B x
  kind_same = (adds.nodes ready.place written can only stored others coherent).kind

  links_same : (x : ℕ) → Reached P B x → x ≢ d → inode_links D x ≡ inode_links B x
  links_same = (adds.nodes ready.place written can only stored others coherent).links

  new_slot : IsReachedSlot P D s
  new_slot = adds.new_slot ready.place written can only stored others coherent

  new_owner : slot_owner P D s ≡ d
  new_owner = adds.new_owner ready.place written can only stored others coherent

  old_slot : (t : ℕ) → IsReachedSlot P B t → t ≢ s
  old_slot = adds.old_slot ready.place written can only stored others coherent

  parent_links_after : inode_links D d ≡ parent_links kind (inode_links B d)
  parent_links_after = only.links d (reached-le P B ready.place.coherent d d_reached) ∙ makes.parent

  made_kind : inode_kind D i ≡ node_code kind
  made_kind = only.node_kind i ready.inode.most ∙ making.made_kind P B C p kind d s i name ready makes

  made_links : inode_links D i ≡ node_code kind
  made_links = only.links i ready.inode.most ∙ making.made_links P B C p kind d s i name ready makes

  -- ---- links

  -- the new node has its links
  name_new : (t : ℕ) → IsNameOf P D i t ↔ (t ≡ s)
  name_new t = (
    (λ n. elim (cases_eq t s) [
      | inl e ↦ e
      | inr ne ↦
          let was = (slot_laws.names kept i t ne).1 n in
          absurd (other_inode i (subst (Reached P B) was.inode (reach P B t was.slot ((ready.place.coherent Rule.inodes t).most was.slot))) refl)
    ]),
    (λ e. subst (IsNameOf P D i) (sym e) (record { slot = new_slot; inode = stored })),
  )

  no_child : (t : ℕ) → IsChildOf P D i t → ⊥
  no_child t n = elim (cases_eq t s) [
    | inl e ↦ other_inode d d_reached (sym new_owner ∙ ap (slot_owner P D) (sym e) ∙ n.owner)
    | inr ne ↦ (let was = (slot_laws.children kept i t ne).1 n in ready.inode.unreached (subst (Reached P B) was.owner was.slot.owner))
  ]

  new_links : (kind : NodeKind) → inode_kind D i ≡ node_code kind → inode_links D i ≡ node_code kind → IsLinkCount P D i (inode_links D i)
  new_links Directory is links = record {
    file = λ one. absurd (omega (arith, one, is));
    directory = λ _. (0, count_none (IsChildOf P D i) no_child, links);
  }
  new_links File is links = record {
    file = λ _. subst (Count (IsNameOf P D i)) (sym links) (count_single (IsNameOf P D i) s name_new);
    directory = λ two. absurd (omega (arith, two, is));
  }

  file_links : (x : ℕ) → Reached P B x → HasBytes D x → IsLinkCount P B x (inode_links B x) → Count (IsNameOf P D x) (inode_links D x)
  file_links x r file count =
      let file_before : HasBytes B x = sym (kind_same x r) ∙ file in
      let other : x ≢ d = λ e. (let two = ap (inode_kind B) e ∙ ready.place.slot.directory in omega (arith, two, file_before)) in
      subst (Count (IsNameOf P D x)) (sym (links_same x r other))
      (count_kept (IsNameOf P B x) (IsNameOf P D x) s (inode_links B x) (slot_laws.names kept x) (λ n. old_slot s n.slot refl) (λ n. other_inode x r (sym n.inode ∙ stored)) (count.file file_before))

  -- the children that link counts tell of
  HasChildren : List ℕ → ℕ → Type 0
  HasChildren I x = (m : ℕ) × Count (IsChildOf P I x) m × (inode_links I x ≡ 2 + m)

  -- the new slot is of d, and a child where the node is a directory
  children_same : (x m : ℕ) → (IsChildOf P D x s → ⊥) → Count (IsChildOf P B x) m → Count (IsChildOf P D x) m
  children_same x m none = count_kept (IsChildOf P B x) (IsChildOf P D x) s m (slot_laws.children kept x) (λ n. old_slot s n.slot refl) none

  new_child : IsChildOf P D d s ↔ (node_code kind ≡ 2)
  new_child = (
    (λ n. sym made_kind ∙ ap (inode_kind D) (sym stored) ∙ n.directory),
    (λ two. record { slot = new_slot; owner = new_owner; directory = ap (inode_kind D) stored ∙ made_kind ∙ two }),
  )

  parent_children : (other : NodeKind) → node_code kind ≡ node_code other → inode_links D d ≡ parent_links other (inode_links B d) → HasChildren B d → HasChildren D d
  unfolding HasChildren
  parent_children Directory is links (m, count, e) =
      (m + 1, count_gained (IsChildOf P B d) (IsChildOf P D d) s m (slot_laws.children kept d) (λ n. old_slot s n.slot refl) (new_child.1 is) count, omega (arith, links, e))
  parent_children File is links (m, count, e) = (m, children_same d m (λ n. (let two = new_child.0 n in omega (arith, two, is))) count, links ∙ e)

  directory_children : (x : ℕ) → Reached P B x → HasChildren B x → HasChildren D x
  unfolding HasChildren
  directory_children x r h = elim (cases_eq x d) [
    | inl e ↦ subst (HasChildren D) (sym e) (parent_children kind refl parent_links_after (subst (HasChildren B) e h))
    | inr ne ↦ (let (m, count, e) = h in (m, children_same x m (λ n. ne (sym n.owner ∙ new_owner)) count, links_same x r ne ∙ e))
  ]

  old_links : (x : ℕ) → Reached P B x → IsLinkCount P B x (inode_links B x) → IsLinkCount P D x (inode_links D x)
  unfolding HasChildren
  old_links x r count = record {
    file = λ file. file_links x r file count;
    directory = λ dir. directory_children x r (count.directory (sym (kind_same x r) ∙ dir));
  }

  no_count : IsCleanSlot P B s → (x : ℕ) → IsLitterCount P D x → ⊥
  no_count rest x l = elim (adds.reached_cases ready.place written can only stored others coherent x l.reached) [
    | inl old ↦ rest.but.counts x (record { reached = old; other = λ count. l.other (old_links x old count) })
    | inr e ↦ l.other (subst (λ y. IsLinkCount P D y (inode_links D y)) (sym e) (new_links kind made_kind made_links))
  ]

  pub tidy_after : IsCleanSlot P B s → IsTidied P D
  tidy_after rest = adds.tidy_but_links ready.place written can only stored others coherent rest (no_count rest)

  pub grown_after : HasGrown P B D d s i name
  grown_after = adds.grown ready.place written can only stored others coherent
