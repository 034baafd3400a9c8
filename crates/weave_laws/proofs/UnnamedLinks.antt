-- A slot gives up its number: what it named is to be repaired where no other path names it, and so are the links of what has one less.
use Rattle.std.proofs.Common.{◌≡◌, ◌≢◌, ◌↔◌, ◌⊎◌, inl, inr, ℕ, ◌+◌, ◌≤◌, Bool, true, false, List, ◌++◌, Some, None, Option, refl, sym, ap, subst, ◌∙◌, arith}
use Rattle.std.proofs.lemmas.Bool.{cases_eq}
use Rattle.layout.specs.Geometry.{inodes_of}
use Rattle.layout.specs.Fields.{inode_kind, inode_links, slot_inode}
use Rattle.layout.proofs.Widths.{inode_field_read}
use Rattle.tree_model.specs.PathText.{Route}
use Rattle.image_reading.specs.Counts.{IsIn, IsListOf}
use Rattle.image_reading.specs.Reading.{IsDirectory, IsFile, slot_owner, Reached, IsNameOf, IsChildOf}
use Rattle.image_reading.specs.Repairs.{IsLitterInode, IsLitterCount}
use Rattle.image_reading.proofs.Counts.{count_one}
use Rattle.image_counts.proofs.Paths.{in_range}
use Rattle.image_laws.specs.Drop.{dropped}
use Rattle.image_laws.specs.Remove.{CanRemove}
use Rattle.image_laws.proofs.Contents.{dec_reached}
use Rattle.image_laws.proofs.KeptSlots as slot_laws
use Rattle.image_laws.proofs.KeptSlots.{count_gained}
use Rattle.image_laws.proofs.Paths.{reached-le}
use Rattle.image_laws.proofs.RemoveFacts as facts
use Rattle.weave_laws.specs.Removing.{inodes_left, falling_left}
use Rattle.weave_laws.specs.Unnaming.{IsFallen}
use Rattle.weave_laws.proofs.Listed.{listed_same, listed_more}
use Rattle.weave_laws.proofs.Same as same
use Rattle.weave_laws.proofs.UnnamedSlots.{only, version, coherent, inode_words_same, kept}

module _ {P : ℕ} {I : List ℕ} {p : Route} {s : ℕ} (can : CanRemove P I p s) where
  i_reached : Reached P I (slot_inode P I s)
  i_reached = facts.i_reached P I p s can

  -- a node that doesn't go stays reached
  pub stays : (goes : Bool) → ((goes ≡ true) ↔ ¬ Reached P (dropped P I s) (slot_inode P I s)) → goes ≡ false → Reached P (dropped P I s) (slot_inode P I s)
  stays goes node no_goes = elim (dec_reached P (dropped P I s) (coherent can) (slot_inode P I s)) [
    | yes r ↦ r
    | no none ↦ (let all = node.1 none in absurd cc)
  ]

  reached_other : (x : ℕ) → x ≢ slot_inode P I s → Reached P I x ↔ Reached P (dropped P I s) x
  reached_other x ne = (facts.reached_forward P I p s can x ne, facts.reached_back P I p s can x)

  -- ---- inodes

  inode_same : (x : ℕ) → Reached P I x ↔ Reached P (dropped P I s) x → IsLitterInode P I x ↔ IsLitterInode P (dropped P I s) x
  inode_same x reached = same.inode_same P I (dropped P I s) x (version can) reached (λ f least most lt unreached. inode_words_same can x f least most lt)

  node_kind : IsFile I (slot_inode P I s) ⊎ IsDirectory I (slot_inode P I s) → inode_kind (dropped P I s) (slot_inode P I s) ≢ 0
  node_kind kind z =
      let k = facts.kind_same P I p s can (slot_inode P I s) i_reached in
      elim kind [ inl one ↦ omega (arith, one, k, z) | inr two ↦ omega (arith, two, k, z) ]

  inode_left : IsFile I (slot_inode P I s) ⊎ IsDirectory I (slot_inode P I s) → ¬ Reached P (dropped P I s) (slot_inode P I s) → IsLitterInode P (dropped P I s) (slot_inode P I s)
  unfolding inode_kind
  inode_left kind none =
      let (least, most) = in_range P I can.coherent (slot_inode P I s) i_reached in
      record { least = least; most = most; unreached = none; nonzero = (0, inode_field_read (dropped P I s) 0 (omega arith), node_kind kind) }

  pub inodes_after : (goes : Bool) → ((goes ≡ true) ↔ ¬ Reached P (dropped P I s) (slot_inode P I s)) → IsFile I (slot_inode P I s) ⊎ IsDirectory I (slot_inode P I s) → (rest : List ℕ)
      → IsListOf (IsLitterInode P I) rest → IsListOf (IsLitterInode P (dropped P I s)) (inodes_left goes (slot_inode P I s) ++ rest)
  inodes_after true node kind rest = listed_more (IsLitterInode P I) (IsLitterInode P (dropped P I s)) (slot_inode P I s) rest
      (λ l. l.unreached i_reached) (inode_left kind (node.0 refl)) (λ x ne. inode_same x (reached_other x ne))
  inodes_after false node kind rest = listed_same (IsLitterInode P I) (IsLitterInode P (dropped P I s)) rest (λ x. inode_same x (elim (cases_eq x (slot_inode P I s)) [
    | inl e ↦ ((λ r. subst (Reached P (dropped P I s)) (sym e) (stays false node refl)), facts.reached_back P I p s can x)
    | inr ne ↦ reached_other x ne
  ]))

  kind_kept : (x : ℕ) → x ≤ inodes_of P → inode_kind I x ≢ 0 → inode_kind (dropped P I s) x ≢ 0
  kind_kept x most kind z = kind (sym ((only can).node_kind x most) ∙ z)

  pub kinds_after : (goes : Bool) → IsFile I (slot_inode P I s) ⊎ IsDirectory I (slot_inode P I s) → (rest : List ℕ) → IsListOf (IsLitterInode P I) rest → ((x : ℕ) → IsIn x rest → inode_kind I x ≢ 0)
      → (x : ℕ) → IsIn x (inodes_left goes (slot_inode P I s) ++ rest) → inode_kind (dropped P I s) x ≢ 0
  kinds_after false kind rest listed kinds x among = kind_kept x ((listed.each x).0 among).most (kinds x among)
  kinds_after true kind rest listed kinds x among = elim among [
    | inl e ↦ subst (λ z. inode_kind (dropped P I s) z ≢ 0) (sym e) (node_kind kind)
    | inr other ↦ kind_kept x ((listed.each x).0 other).most (kinds x other)
  ]

  -- ---- links

  no_name : (x : ℕ) → ¬ IsNameOf P (dropped P I s) x s
  no_name x n = (facts.slot_back P I p s can s n.slot).1 refl

  no_child : (x : ℕ) → ¬ IsChildOf P (dropped P I s) x s
  no_child x n = (facts.slot_back P I p s can s n.slot).1 refl

  names_same : (x : ℕ) → x ≢ slot_inode P I s → (t : ℕ) → IsNameOf P I x t ↔ IsNameOf P (dropped P I s) x t
  names_same x ne t = (
    (λ n. (slot_laws.names (kept can) x t (λ e. ne (sym n.inode ∙ ap (slot_inode P I) e))).0 n),
    (λ n. (slot_laws.names (kept can) x t (facts.slot_back P I p s can t n.slot).1).1 n),
  )

  children_same : (x : ℕ) → ¬ IsChildOf P I x s → (t : ℕ) → IsChildOf P I x t ↔ IsChildOf P (dropped P I s) x t
  children_same x none t = (
    (λ n. (slot_laws.children (kept can) x t (λ e. none (subst (IsChildOf P I x) e n))).0 n),
    (λ n. (slot_laws.children (kept can) x t (facts.slot_back P I p s can t n.slot).1).1 n),
  )

  links_word : (x : ℕ) → Reached P I x → inode_links (dropped P I s) x ≡ inode_links I x
  links_word x r = (only can).links x (reached-le P I can.coherent x r)

  count_same : (x : ℕ) → x ≢ slot_inode P I s → ¬ IsChildOf P I x s → IsLitterCount P I x ↔ IsLitterCount P (dropped P I s) x
  count_same x ne none = same.count_kept_at P I (dropped P I s) x (names_same x ne) (children_same x none) (reached_other x ne) (facts.kind_same P I p s can x) (links_word x)

  count_gone : ¬ Reached P (dropped P I s) (slot_inode P I s) → ¬ IsLitterCount P I (slot_inode P I s) → (x : ℕ) → x ≡ slot_inode P I s → IsLitterCount P I x ↔ IsLitterCount P (dropped P I s) x
  count_gone none was x e = ((λ l. absurd (was (subst (IsLitterCount P I) e l))), (λ l. absurd (none (subst (Reached P (dropped P I s)) e l.reached))))

  -- a file that stays has a name less,
  file_left : IsFile I (slot_inode P I s) → Reached P (dropped P I s) (slot_inode P I s) → ¬ IsLitterCount P I (slot_inode P I s) → IsLitterCount P (dropped P I s) (slot_inode P I s)
  file_left one r was = record {
    reached = r;
    other = λ count. was (record {
      reached = i_reached;
      other = λ before.
          let i = slot_inode P I s in
          let kind = facts.kind_same P I p s can i i_reached in
          let links = links_word i i_reached in
          let more = count_gained (IsNameOf P (dropped P I s) i) (IsNameOf P I i) s (inode_links (dropped P I s) i)
          (λ t ne. ((slot_laws.names (kept can) i t ne).1, (slot_laws.names (kept can) i t ne).0)) (no_name i) (record { slot = facts.old_slot P I p s can; inode = refl }) (count.file (kind ∙ one)) in
          let wrong = count_one (IsNameOf P I i) (inode_links (dropped P I s) i + 1) (inode_links I i) more (before.file one) in
          omega (arith, links, wrong);
    });
  }

  -- and the directory that a directory goes from has a child less
  parent_left : IsDirectory I (slot_inode P I s) → ¬ IsLitterCount P I (slot_owner P I s) → IsLitterCount P (dropped P I s) (slot_owner P I s)
  parent_left two was = record {
    reached = facts.d_reached P I p s can;
    other = λ count. was (record {
      reached = (p, can.path);
      other = λ before.
          let d = slot_owner P I s in
          let kind = facts.kind_same P I p s can d (p, can.path) in
          let links = links_word d (p, can.path) in
          let (m, after, after_is) = count.directory (kind ∙ can.directory) in
          let (k, had, had_is) = before.directory can.directory in
          let more = count_gained (IsChildOf P (dropped P I s) d) (IsChildOf P I d) s m
          (λ t ne. ((slot_laws.children (kept can) d t ne).1, (slot_laws.children (kept can) d t ne).0)) (no_child d) (record { slot = facts.old_slot P I p s can; owner = refl; directory = two }) after in
          let wrong = count_one (IsChildOf P I d) (m + 1) k more had in
          omega (arith, links, wrong, after_is, had_is);
    });
  }

  file_child : IsFile I (slot_inode P I s) → (x : ℕ) → ¬ IsChildOf P I x s
  file_child one x n = let two = n.directory in omega (arith, one, two)

  pub counts_after : (goes : Bool) → ((goes ≡ true) ↔ ¬ Reached P (dropped P I s) (slot_inode P I s)) → (falling : Option ℕ) → IsFallen P I s goes falling → (rest : List ℕ)
      → ¬ IsLitterCount P I (slot_inode P I s) → ¬ IsLitterCount P I (slot_owner P I s) → IsListOf (IsLitterCount P I) rest → IsListOf (IsLitterCount P (dropped P I s)) (falling_left falling ++ rest)
  counts_after goes node None (one, all) rest alone parent = listed_same (IsLitterCount P I) (IsLitterCount P (dropped P I s)) rest (λ x. elim (cases_eq x (slot_inode P I s)) [
    | inl e ↦ count_gone (node.0 all) alone x e
    | inr ne ↦ count_same x ne (file_child one x)
  ])
  counts_after goes node (Some y) (inl (one, part, e)) rest alone parent = listed_more (IsLitterCount P I) (IsLitterCount P (dropped P I s)) y rest
      (λ l. alone (subst (IsLitterCount P I) e l))
      (subst (IsLitterCount P (dropped P I s)) (sym e) (file_left one (stays goes node part) alone))
      (λ x ne. count_same x (λ z. ne (z ∙ sym e)) (file_child one x))
  counts_after goes node (Some y) (inr (two, e)) rest alone parent = listed_more (IsLitterCount P I) (IsLitterCount P (dropped P I s)) y rest
      (λ l. parent (subst (IsLitterCount P I) e l))
      (subst (IsLitterCount P (dropped P I s)) (sym e) (parent_left two parent))
      (λ x ne. elim (cases_eq x (slot_inode P I s)) [
        | inl is ↦ count_gone (facts.directory_gone P I p s can two) alone x is
        | inr other ↦ count_same x other (λ n. ne (sym n.owner ∙ sym e))
      ])

  pub kind_of : (goes : Bool) (falling : Option ℕ) → IsFallen P I s goes falling → IsFile I (slot_inode P I s) ⊎ IsDirectory I (slot_inode P I s)
  kind_of goes None (one, all) = inl one
  kind_of goes (Some y) (inl (one, part, e)) = inl one
  kind_of goes (Some y) (inr (two, e)) = inr two
