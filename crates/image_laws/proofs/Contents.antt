-- The nodes of a coherent image.
use Rattle.std.proofs.Common.{◌≡◌, ◌⊎◌, inl, inr, ℕ, zero, suc, ◌/◌, ◌<◌, List, [], ◌∷◌, refl, sym, ap, subst, ◌∙◌, arith}
use Rattle.std.proofs.lemmas.Bool.{cases_eq}
use Rattle.std.proofs.lemmas.List.{ext_get_or}
use Rattle.layout.specs.Fields.{inode_size}
use Rattle.tree_model.specs.PathText.{Route}
use Rattle.tree_model.specs.Tree.{Node, Directory, File}
use Rattle.image_reading.specs.Reading.{IsDirectory, HasBytes, Reached, IsNode}
use Rattle.image_reading.specs.Soundness.{Rule, IsCoherent}
use Rattle.image_counts.proofs.Nodes.{some_content}
use Rattle.image_laws.proofs.Addresses.{page_of_byte-lt}
use Rattle.image_laws.proofs.AllNames.{all_names, all_names_are}
use Rattle.image_laws.proofs.Decide.{dec_eq}
use Rattle.image_laws.proofs.Entries.{Listed}

module _ (P : ℕ) (I : List ℕ) (coherent : IsCoherent P I) where
  node_in : (i : ℕ) (r : Reached P I i) → HasBytes I i ⊎ IsDirectory I i → Node
  node_in i r (inl k) = File (some_content P I coherent i r k).0
  node_in i r (inr k) = Directory

  node_in_is : (i : ℕ) (r : Reached P I i) (c : HasBytes I i ⊎ IsDirectory I i) → IsNode P I i (node_in i r c)
  unfolding node_in
  node_in_is i r (inl k) = (k, (some_content P I coherent i r k).1)
  node_in_is i r (inr k) = k

  pub node_of : (i : ℕ) → Reached P I i → Node
  node_of i r = node_in i r ((coherent Rule.kinds i).kind r)

  pub node_is : (i : ℕ) (r : Reached P I i) → IsNode P I i (node_of i r)
  unfolding node_of
  node_is i r = node_in_is i r ((coherent Rule.kinds i).kind r)

  -- a coherent image determines the node
  pub one_node : (i : ℕ) (x y : Node) → Reached P I i → IsNode P I i x → IsNode P I i y → x ≡ y
  one_node i Directory Directory r a b = refl
  one_node i Directory (File bs) r a (k, b) = absurd (omega (arith, a, k))
  one_node i (File bs) Directory r (k, a) b = absurd (omega (arith, k, b))
  one_node i (File bs) (File cs) r (k, a) (l, b) = ap File (ext_get_or 0 bs cs (a.size ∙ sym b.size) (λ o lt.
      let lt' : o < inode_size I i = let e = a.size in omega (arith, lt, e) in
      let (j, g) = coherent Rule.all_pages i r k (o / 4096) (page_of_byte-lt o (inode_size I i) lt') in
      a.bytes_at o j lt' g ∙ sym (b.bytes_at o j lt' g)))

  find : (es : List (Route × ℕ)) (i : ℕ) → Dec ((p : Route) × Listed es p i)
  find [] i = no (λ (p, h). h)
  find (e ∷ es) i = elim (dec_eq e.1 i) [
    | yes h ↦ yes (e.0, inl (refl, h))
    | no n ↦ elim (find es i) [
      | yes (p, h) ↦ yes (p, inr h)
      | no f ↦ no (λ (p, h). elim h [ inl g ↦ n g.1 | inr g ↦ f (p, g) ])
    ]
  ]

  pub dec_reached : (i : ℕ) → Dec (Reached P I i)
  dec_reached i = elim (find (all_names P I coherent) i) [
    | yes (p, h) ↦ yes (p, (all_names_are P I coherent p i).0 h)
    | no f ↦ no (λ (p, b). f (p, (all_names_are P I coherent p i).1 b))
  ]

  add_node : (n : ℕ) → Dec (Reached P I n) → List (ℕ × Node) → List (ℕ × Node)
  add_node n (yes r) es = (n, node_of n r) ∷ es
  add_node n (no f) es = es

  pub nodes_below : ℕ → List (ℕ × Node)
  unfolding add_node
  nodes_below zero = []
  nodes_below (suc n) = add_node n (dec_reached n) (nodes_below n)

  in_add : (n : ℕ) (c : Dec (Reached P I n)) (es : List (ℕ × Node)) (i : ℕ) (x : Node) → Listed (add_node n c es) i x → (Reached P I i × IsNode P I i x) ⊎ Listed es i x
  unfolding add_node
  in_add n (yes r) es i x h = elim h [
    | inl e ↦ inl (subst (Reached P I) e.0 r, subst (λ z. IsNode P I z x) e.0 (subst (IsNode P I n) e.1 (node_is n r)))
    | inr g ↦ inr g
  ]
  in_add n (no f) es i x h = inr h

  pub in_nodes : (n i : ℕ) (x : Node) → Listed (nodes_below n) i x → Reached P I i × IsNode P I i x
  unfolding nodes_below
  in_nodes zero i x h = absurd h
  in_nodes (suc n) i x h = elim (in_add n (dec_reached n) (nodes_below n) i x h) [ inl r ↦ r | inr g ↦ in_nodes n i x g ]

  add_has : (n : ℕ) (c : Dec (Reached P I n)) (es : List (ℕ × Node)) (i : ℕ) (x : Node) → Reached P I i → IsNode P I i x → (n ≡ i) ⊎ Listed es i x → Listed (add_node n c es) i x
  unfolding add_node
  add_has n (yes r) es i x m k h = elim h [
    | inl e ↦ inl (e, one_node n (node_of n r) x r (node_is n r) (subst (λ z. IsNode P I z x) (sym e) k))
    | inr g ↦ inr g
  ]
  add_has n (no f) es i x m k h = elim h [ inl e ↦ absurd (f (subst (Reached P I) (sym e) m)) | inr g ↦ g ]

  pub nodes_has : (n i : ℕ) (x : Node) → i < n → Reached P I i → IsNode P I i x → Listed (nodes_below n) i x
  unfolding nodes_below
  nodes_has zero i x lt r k = absurd (omega arith)
  nodes_has (suc n) i x lt r k = add_has n (dec_reached n) (nodes_below n) i x r k (elim (cases_eq n i) [ inl e ↦ inl e | inr ne ↦ inr (nodes_has n i x (omega arith) r k) ])
