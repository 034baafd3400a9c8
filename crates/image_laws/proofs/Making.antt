-- The words of a new node and of its name are stored: nothing is meant by them yet.
use Rattle.std.proofs.Common.{◌≡◌, ◌≢◌, ◌⊎◌, inl, inr, ℕ, ◌+◌, ◌<◌, ◌≤◌, List, slice_index, refl, sym, ap, subst, ◌∙◌, arith}
use Rattle.std.proofs.lemmas.Bool.{cases_eq}
use Rattle.layout.specs.Fields.{word, inode_words, inode_kind, inode_links, inode_size, inode_own, page_owner, slot_inode}
use Rattle.layout.specs.Geometry.{inodes_of, data_pages_of, inode_word_of, descriptor_word_of, slot_word_of}
use Rattle.layout.specs.Kinds.{node_code}
use Rattle.layout.specs.declared.kinds.NodeKind.{NodeKind}
use Rattle.layout.specs.declared.kinds.NodeKind.TheVariants.{File, Directory}
use Rattle.layout.proofs.Widths.{in_inode, inode_field_read}
use Rattle.tree_model.specs.PathText.{Route}
use Rattle.tree_model.specs.Step.{new_node}
use Rattle.image_reading.specs.Counts.{AtMost}
use Rattle.image_reading.specs.Reading.{HasBytes, IsDirectory, IsLive, Reached, IsNode, IsNameOf, IsChildOf}
use Rattle.image_reading.specs.Soundness.{Rule, HasLinks}
use Rattle.image_reading.proofs.Counts.{at_most_none}
use Rattle.image_counts.proofs.Paths.{in_range}
use Rattle.image_laws.specs.Add.{IsNewNode, CanAdd}
use Rattle.image_laws.specs.Create.{node_words, parent_links, IsMadeWord, MakesNode}
use Rattle.image_laws.specs.Free.{IsFree, Stores}
use Rattle.image_laws.proofs.Addresses.{descriptor-ne_inode, descriptor-ne_slot, inode-ne_inode, inode-ne_field, inode-ne_slot, slot-ne_slot, slot-ne_field}
use Rattle.image_laws.proofs.Counts.{at_most}
use Rattle.image_laws.proofs.Free.{SameEntries}
use Rattle.image_laws.proofs.KeptInodes.{KeepsInodes, by_inodes}
use Rattle.image_laws.proofs.Naming as names
use Rattle.image_laws.proofs.Naming.{StoresName}
use Rattle.image_laws.proofs.Paths.{reach}
use Rattle.image_laws.proofs.Ready.{dec_made, made_cases, not_made}
use Rattle.image_laws.specs.Stages.{IsReady}

-- one link more is enough too
pub links_more : (P : ℕ) (I : List ℕ) (x n : ℕ) → HasLinks P I x n → HasLinks P I x (n + 1)
links_more P I x n h = record {
  file = λ k xs d all. let le = h.file k xs d all in omega (arith, le);
  directory = λ k xs d all. let le = h.directory k xs d all in omega (arith, le);
}

pub links_for : (kind : NodeKind) (P : ℕ) (I : List ℕ) (x n : ℕ) → HasLinks P I x n → HasLinks P I x (parent_links kind n)
links_for Directory P I x n h = links_more P I x n h
links_for File P I x n h = h

-- what the words of a new node say: a file has one link, a directory two
pub node_says : (kind : NodeKind) (i : ℕ)
    → (slice_index (node_words kind i) 0 ≡ node_code kind) × (slice_index (node_words kind i) 1 ≡ node_code kind) × (slice_index (node_words kind i) 2 ≡ 0) × (slice_index (node_words kind i) 3 ≡ i)
node_says Directory i = (refl, refl, refl, refl)
node_says File i = (refl, refl, refl, refl)

pub kind_told : (I : List ℕ) (i : ℕ) (kind : NodeKind) → inode_kind I i ≡ node_code kind → HasBytes I i ⊎ IsDirectory I i
kind_told I i Directory is = inr is
kind_told I i File is = inl is

module _ (P : ℕ) (B C : List ℕ) (p : Route) (kind : NodeKind) (d s i : ℕ) (name : List ℕ) (ready : IsReady P B p d s i name) (makes : MakesNode P B C kind d s i name) where
  i_pos : 1 ≤ i
  i_pos = let least = ready.inode.least in omega (arith, least)

  d_reached : Reached P B d
  d_reached = (p, ready.place.slot.path)

  range : (x : ℕ) → Reached P B x → (1 ≤ x) × (x ≤ inodes_of P)
  range x r = in_range P B ready.place.coherent x r

  other_inode : (x : ℕ) → Reached P B x → x ≢ i
  other_inode x r e = ready.inode.unreached (subst (Reached P B) e r)

  not_live : (t : ℕ) → IsLive P B t → t ≢ s
  not_live t l e = l.names (ap (slot_inode P B) e ∙ ready.place.slot.free)

  -- ---- which words stay

  same_word : (a : ℕ) → ((f : ℕ) → f < inode_words B → a ≢ inode_word_of i f) → ((k : ℕ) → k < 14 → a ≢ slot_word_of P s (2 + k)) → a ≢ inode_word_of d 1 → word C a ≡ word B a
  same_word a f g h = makes.others a (not_made P B kind d s i a f g h)

  pub descriptor_same : (j f : ℕ) → j < data_pages_of P → f < 8 → word C (descriptor_word_of P j f) ≡ word B (descriptor_word_of P j f)
  descriptor_same j f lt l8 = same_word (descriptor_word_of P j f)
      (λ g l. descriptor-ne_inode P j f i g i_pos ready.inode.most (in_inode B g l))
      (λ k l. descriptor-ne_slot P j f s (2 + k) lt l8)
      (descriptor-ne_inode P j f d 1 (range d d_reached).0 (range d d_reached).1 (omega arith))

  -- an inode's words, but the made inode's and the parent's link word
  pub inode_same : (x f : ℕ) → 1 ≤ x → x ≤ inodes_of P → f < 16 → x ≢ i → (f ≢ 1) ⊎ (x ≢ d) → word C (inode_word_of x f) ≡ word B (inode_word_of x f)
  inode_same x f some most lt other parent = same_word (inode_word_of x f)
      (λ g l. inode-ne_inode x f i g some i_pos other lt (in_inode B g l))
      (λ k l. inode-ne_slot P x f s (2 + k) some most lt)
      (elim parent [
        | inl field ↦ inode-ne_field x f d 1 lt (omega arith) field
        | inr ne ↦ inode-ne_inode x f d 1 some (range d d_reached).0 ne lt (omega arith)
      ])

  -- a slot's words, but name words of the slot
  pub slot_same : (t f : ℕ) → f < 16 → (f < 2) ⊎ (t ≢ s) → word C (slot_word_of P t f) ≡ word B (slot_word_of P t f)
  slot_same t f lt other = same_word (slot_word_of P t f)
      (λ g l e. inode-ne_slot P i g t f i_pos ready.inode.most (in_inode B g l) (sym e))
      (λ k l. elim other [
        | inl low ↦ slot-ne_field P t f s (2 + k) lt (omega arith) (λ e. omega (arith, e, low))
        | inr ne ↦ slot-ne_slot P t f s (2 + k) lt (omega arith) ne
      ])
      (λ e. inode-ne_slot P d 1 t f (range d d_reached).0 (range d d_reached).1 (omega arith) (sym e))

  nodes : KeepsInodes B C (Reached P B) (λ x. x ≡ d)
  nodes = by_inodes P B C (Reached P B) (λ x. x ≡ d) range (λ x f r some most lt links. inode_same x f some most (in_inode B f lt) (other_inode x r) links)

  -- ---- the made inode

  pub made_kind : inode_kind C i ≡ node_code kind
  unfolding inode_kind
  made_kind = makes.inode 0 (inode_field_read B 0 (omega arith)) ∙ (node_says kind i).0

  pub made_links : inode_links C i ≡ node_code kind
  unfolding inode_links
  made_links = makes.inode 1 (inode_field_read B 1 (omega arith)) ∙ (node_says kind i).1

  made_size : inode_size C i ≡ 0
  unfolding inode_size
  made_size = makes.inode 2 (inode_field_read B 2 (omega arith)) ∙ (node_says kind i).2

  made_own : inode_own C i ≡ i
  unfolding inode_own
  made_own = makes.inode 3 (inode_field_read B 3 (omega arith)) ∙ (node_says kind i).3

  -- ---- the stores are free

  free_made : (a : ℕ) → IsMadeWord P B kind d s i a → IsFree P B a
  free_made a m = elim (made_cases P B kind d s i a m) [
    | inl (f, lt, e) ↦ subst (IsFree P B) (sym e) (IsFree.inode i f i_pos ready.inode.most (in_inode B f lt) ready.inode.unreached)
    | inr n ↦ elim n [
      | inl (k, lt, e) ↦ subst (IsFree P B) (sym e) (IsFree.name s (2 + k) (omega arith) (omega arith) ready.place.slot.held (λ r. not_live s r.live refl))
      | inr e ↦ subst (IsFree P B) (sym e) (IsFree.link d (range d d_reached).0 (range d d_reached).1)
    ]
  ]

  enough_links : (x : ℕ) → Reached P B x → HasLinks P B x (inode_links C x)
  enough_links x r = elim (cases_eq x d) [
    | inl e ↦ subst (λ y. HasLinks P B y (inode_links C y)) (sym e) (subst (HasLinks P B d) (sym makes.parent) (links_for kind P B d (inode_links B d) (ready.place.coherent Rule.links d d_reached)))
    | inr ne ↦ subst (HasLinks P B x) (sym (nodes.links x r ne)) (ready.place.coherent Rule.links x r)
  ]

  pub stores : Stores P B C
  unfolding page_owner
  stores = record {
    size = makes.size;
    words = λ a. elim (dec_made P B kind d s i a) [ no n ↦ inl (makes.others a n) | yes m ↦ inr (free_made a m) ];
    owners = λ j lt. inl (descriptor_same j 0 lt (omega arith));
    links = enough_links;
  }

  pub named : StoresName P B C s name
  named = record { stores = stores; descriptors = descriptor_same; slots = slot_same; words = makes.words }

  entries : SameEntries P B C
  entries = names.entries ready.place named

  -- ---- the slot may take the inode

  unreached_after : Reached P C i → ⊥
  unreached_after (q, b) = ready.inode.unreached (q, (entries.same.names q i).1 b)

  pub is_new : IsNewNode P C i
  is_new = record {
    unreached = unreached_after;
    no_pages = λ j lt e. ready.inode.no_pages j lt (sym ((names.paged ready.place named).owner j lt (λ none. none)) ∙ e);
    kind = kind_told C i kind made_kind;
    own = made_own;
    empty = λ _. made_size;
    no_children = λ two. let e = sym made_kind ∙ two in let links = made_links in omega (arith, e, links);
  }

  no_name : (t : ℕ) → IsNameOf P C i t → ⊥
  no_name t n = unreached_after (subst (Reached P C) n.inode (reach P C t n.slot ((entries.same.coherent Rule.inodes t).most n.slot)))

  one_link : 1 ≤ inode_links C i
  one_link = let e = sym made_kind in let links = made_links in elim (kind_told C i kind made_kind) [ inl one ↦ omega (arith, e, links, one) | inr two ↦ omega (arith, e, links, two) ]

  child_room : (kind : NodeKind) → inode_links C d ≡ parent_links kind (inode_links B d) → node_code kind ≡ 2 → AtMost 2 (IsChildOf P C d) (inode_links B d) → AtMost 3 (IsChildOf P C d) (inode_links C d)
  child_room Directory links two few xs distinct all = let le = few xs distinct all in omega (arith, le, links)
  child_room File links two few xs distinct all = omega (arith, two)

  child_back : (t : ℕ) → IsChildOf P C d t → IsChildOf P B d t
  child_back t n =
      let m = (entries.slots t).1 n.slot in
      let r = reach P B t m ((ready.place.coherent Rule.inodes t).most m) in
      record {
        slot = m;
        owner = sym (names.owner_same ready.place named t m.live.held) ∙ n.owner;
        directory = sym (nodes.kind (slot_inode P B t) r) ∙ ap (inode_kind C) (sym (names.number_same ready.place named t)) ∙ n.directory;
      }

  pub can_add : CanAdd P C p d s i
  can_add = names.may_add ready.place named i ready.inode.least ready.inode.most (inl is_new) (λ _. at_most_none 1 (inode_links C i) (IsNameOf P C i) no_name one_link)
      (λ two. child_room kind makes.parent (sym made_kind ∙ two) (at_most 2 (inode_links B d) (IsChildOf P B d) (IsChildOf P C d) child_back ((ready.place.coherent Rule.links d d_reached).directory ready.place.slot.directory)))

  -- the made inode is the node
  pub node_made : IsNode P C i (new_node kind)
  node_made = is_node kind made_kind
    where
      no : (o : ℕ) → o < 0 → ⊥
      no o lt = omega arith

      is_node : (kind : NodeKind) → inode_kind C i ≡ node_code kind → IsNode P C i (new_node kind)
      is_node Directory is = is
      is_node File is = (is, record { size = sym made_size; bytes_at = λ o j lt g. absurd (no o (subst (λ z. o < z) made_size lt)) })
