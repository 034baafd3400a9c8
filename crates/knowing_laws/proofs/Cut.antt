-- Pages that leave their lists, behind a step that frees them; and the last pages of a file.
use Rattle.std.proofs.Common.{◌≡◌, ◌≢◌, ◌↔◌, inl, inr, ℕ, zero, suc, ◌-◌, ◌<◌, ◌≤◌, Bool, List, [], ◌∷◌, ◌++◌, length, Some, sym, ap, subst, ◌∙◌, arith}
use Rattle.std.specs.Prelude.{Contains, slice_get}
use Rattle.std.proofs.lemmas.Bool.{cases_eq}
use Rattle.layout.specs.Geometry.{inodes_of}
use Rattle.layout.specs.Fields.{inode_kind}
use Rattle.image_reading.specs.Counts.{IsIn, IsDistinct}
use Rattle.image_reading.specs.Reading.{HasBytes}
use Rattle.image_reading.specs.Residue.{Residue}
use Rattle.image_counts.specs.Entries.{IsEntryOf, IsPageIn, IsUnusedPage}
use Rattle.image_counts.proofs.Distinct.{in_front, in_back, in_either}
use Rattle.allocators.specs.Numbers.{IsFree}
use Rattle.volatile_index.specs.Index.{NodeView, inodes_of_index, entries_of, pages_of, IsSameElsewhere}
use Rattle.volatile_index.specs.declared.entry.Entry.{Entry}
use Rattle.volume.specs.Volume.{VolumeView}
use Rattle.volume.specs.Beside.{KnowsNodesBeside, KnowsBeside}
use Rattle.volume.specs.Entered.{with_given, LeavesLastPages}
use Rattle.volume.proofs.Given.{length-with_given, free_before_given, free_still_given, free_given}
use Rattle.volume.proofs.PageLists.{in_contained, contained_in}
use Rattle.entry_steps.proofs.Facts.{is_in}
use Rattle.entry_steps.proofs.Lists.{contains_at, not_none}
use Rattle.knowing_laws.specs.Knowing.{KeepsEntries, KeepsPagesBut, FreesNumbers, AreListedAt, CutKnownLaw}

-- ---- lists

-- The list has lost all of these numbers that it had, and no other.
pub record Loses (gone before now : List ℕ) : Type 0 where
  pub once : IsDistinct now
  pub was : (j : ℕ) → IsIn j now → IsIn j before × ¬ IsIn j gone
  pub stays : (j : ℕ) → IsIn j before → ¬ IsIn j gone → IsIn j now

pub had_none : (gone list : List ℕ) → IsDistinct list → ((j : ℕ) → IsIn j gone → ¬ IsIn j list) → Loses gone list list
had_none gone list once none = record { once = once; was = λ j among. (among, (λ lost. none j lost among)); stays = λ j among out. among }

pub loses_both : (first second before mid now : List ℕ) → Loses first before mid → Loses second mid now → Loses (first ++ second) before now
loses_both first second before mid now early late = record {
  once = late.once;
  was = λ j among.
      let held = late.was j among in
      let had = early.was j held.0 in
      (had.0, (λ gone. elim (in_either j first second gone) [ inl front ↦ had.1 front | inr back ↦ held.1 back ]));
  stays = λ j among out. late.stays j (early.stays j among (λ gone. out (in_front j first second gone))) (λ gone. out (in_back j first second gone));
}

front_once : (xs ys : List ℕ) → IsDistinct (xs ++ ys) → IsDistinct xs
front_once [] ys once = tt
front_once (x ∷ xs) ys once = ((λ among. once.0 (in_front x xs ys among)), front_once xs ys once.1)

not_both : (xs ys : List ℕ) (j : ℕ) → IsDistinct (xs ++ ys) → IsIn j xs → ¬ IsIn j ys
not_both [] ys j once front back = front
not_both (x ∷ xs) ys j once (inl same) back = once.0 (in_back x xs ys (subst (λ k. IsIn k ys) same back))
not_both (x ∷ xs) ys j once (inr front) back = not_both xs ys j once.1 front back

get_in_front : (xs ys : List ℕ) (k j : ℕ) → slice_get xs k ≡ Some j → slice_get (xs ++ ys) k ≡ Some j
get_in_front [] ys k j is = absurd (not_none j is)
get_in_front (x ∷ xs) ys zero j is = is
get_in_front (x ∷ xs) ys (suc k) j is = get_in_front xs ys k j is

loses_last : (kept gone : List ℕ) → IsDistinct (kept ++ gone) → Loses gone (kept ++ gone) kept
loses_last kept gone once = record {
  once = front_once kept gone once;
  was = λ j among. (in_front j kept gone among, not_both kept gone j once among);
  stays = λ j among out. elim (in_either j kept gone among) [ inl front ↦ front | inr back ↦ absurd (out back) ];
}

-- ---- the nodes of an index

-- what is so at one inode and at the others is so at each
at_each : (i : ℕ) (Q : ℕ → Type 0) → Q i → ((x : ℕ) → x ≢ i → Q x) → (x : ℕ) → Q x
at_each i Q here elsewhere x = elim (cases_eq x i) [ inl same ↦ subst Q (sym same) here | inr other ↦ elsewhere x other ]

-- All lists have lost these pages; none but that of inode i has changed.
pub record LosesAt (P : ℕ) (old new : List NodeView) (i : ℕ) (gone : List ℕ) : Type 0 where
  pub inodes : inodes_of_index new ≡ inodes_of_index old
  pub entries : (x : ℕ) → entries_of new x ≡ entries_of old x
  pub others : (x : ℕ) → x ≢ i → pages_of new x ≡ pages_of old x
  pub lists : (x : ℕ) → 1 ≤ x → x ≤ inodes_of P → Loses gone (pages_of old x) (pages_of new x)

pub loses_at : (P : ℕ) (old new : List NodeView) (i : ℕ) (gone : List ℕ) → IsSameElsewhere i old new → entries_of new i ≡ entries_of old i → ((x : ℕ) → 1 ≤ x → x ≤ inodes_of P → IsDistinct (pages_of old x))
    → ((x j : ℕ) → IsIn j gone → 1 ≤ x → x ≤ inodes_of P → x ≢ i → ¬ Contains (pages_of old x) j) → Loses gone (pages_of old i) (pages_of new i) → LosesAt P old new i gone
loses_at P old new i gone elsewhere entries once listed here = record {
  inodes = elsewhere.inodes;
  entries = at_each i (λ x. entries_of new x ≡ entries_of old x) entries (λ x other. ap (λ (node : NodeView). node.entries) (elsewhere.others x other));
  others = same;
  lists = at_each i (λ x. 1 ≤ x → x ≤ inodes_of P → Loses gone (pages_of old x) (pages_of new x)) (λ least most. here)
      (λ x other least most. subst (λ (l : List ℕ). Loses gone (pages_of old x) l) (sym (same x other))
      (had_none gone (pages_of old x) (once x least most) (λ j lost among. listed x j lost least most other (in_contained j (pages_of old x) among))));
}
  where
    same : (x : ℕ) → x ≢ i → pages_of new x ≡ pages_of old x
    same x other = ap (λ (node : NodeView). node.pages) (elsewhere.others x other)

-- All lists have lost these pages; what a file still has stands where it stood.
pub record LosesPages (P : ℕ) (J : List ℕ) (old new : List NodeView) (gone : List ℕ) : Type 0 where
  pub inodes : inodes_of_index new ≡ inodes_of_index old
  pub entries : (x : ℕ) → entries_of new x ≡ entries_of old x
  pub lists : (x : ℕ) → 1 ≤ x → x ≤ inodes_of P → Loses gone (pages_of old x) (pages_of new x)
  pub places : (x k j : ℕ) → HasBytes J x → slice_get (pages_of new x) k ≡ Some j → slice_get (pages_of old x) k ≡ Some j

module _ (P : ℕ) (old new : List NodeView) (I J : List ℕ) (before after : Residue) (gone : List ℕ) (knows : KnowsNodesBeside P old I before) (stay : KeepsEntries P I J)
    (keeps : KeepsPagesBut P I J before after gone) (unused : (j : ℕ) → IsIn j gone → IsUnusedPage P J j) (loses : LosesPages P J old new gone) where
  listed_now : (x j : ℕ) → 1 ≤ x → x ≤ inodes_of P → ¬ IsIn j after.pages → Contains (pages_of new x) j ↔ IsPageIn P J x j
  listed_now x j least most kept =
      let list = loses.lists x least most in
      elim (is_in j gone) [
        | yes among ↦ (
          (λ there. absurd ((list.was j (contained_in j (pages_of new x) there)).1 among)),
          (λ inside. let none = (unused j among).0 in let owner = inside.owner in absurd (omega (arith, none, owner, least))),
        )
        | no out ↦ (
          (λ there.
              let was = (knows.pages x j least most (keeps.left j kept out)).0 (in_contained j (pages_of old x) (list.was j (contained_in j (pages_of new x) there)).0) in
              record { in_range = was.in_range; owner = keeps.owners j was.in_range kept out ∙ was.owner }),
          (λ inside.
              let was = (knows.pages x j least most (keeps.left j kept out)).1 (record { in_range = inside.in_range; owner = sym (keeps.owners j inside.in_range kept out) ∙ inside.owner }) in
              in_contained j (pages_of new x) (list.stays j (contained_in j (pages_of old x) was) out)),
        )
      ]

  nodes_lost : KnowsNodesBeside P new J after
  nodes_lost = record {
    each_inode = loses.inodes ∙ knows.each_inode;
    entries = λ d slot bytes least most.
        let was = knows.entries d slot bytes least most in
        let same = stay.entries d slot bytes in
        subst (λ (l : List Entry). Contains l (record { name = bytes; slot = slot }) ↔ IsEntryOf P J d bytes slot) (sym (loses.entries d)) ((λ there. same.0 (was.0 there)), (λ is. was.1 (same.1 is)));
    pages = listed_now;
    once = λ x least most. (loses.lists x least most).once;
    offsets = λ x k j reached bytes kept there.
        let was = stay.files x reached bytes in
        let out = ((loses.lists x was.least was.most).was j (contained_in j (pages_of new x) (contains_at (pages_of new x) k j there))).1 in
        let inside = (listed_now x j was.least was.most kept).0 (contains_at (pages_of new x) k j there) in
        keeps.offsets j inside.in_range kept out ∙ knows.offsets x k j was.reached was.file (keeps.left j kept out) (loses.places x k j bytes there);
  }

-- ---- numbers that are free

free_now : (free : List Bool) (given : List ℕ) (k : ℕ) (was now : Type 0) → k < length free → IsFree free k ↔ was → (¬ IsIn k given → was ↔ now) → (IsIn k given → now) → IsFree (with_given free given) k ↔ now
free_now free given k was now low is other here = elim (is_in k given) [
  | yes among ↦ ((λ f. here among), (λ n. free_given free given k low among))
  | no out ↦ ((λ f. (other out).0 (is.0 (free_before_given free given k out f))), (λ n. free_still_given free given k (is.1 ((other out).1 n))))
]

-- ---- a volume

pub known_lost : (old : VolumeView) (index : List NodeView) (I J : List ℕ) (before after : Residue) (inodes places gone : List ℕ) → KnowsBeside old I before → length J ≡ length I → KeepsEntries old.size I J
    → KeepsPagesBut old.size I J before after gone → FreesNumbers old.size I J inodes gone → ((i : ℕ) → 1 ≤ i → IsIn (i - 1) places ↔ IsIn i inodes) → LosesPages old.size J old.index index gone
    → KnowsBeside (record old { index = index; inodes = with_given old.inodes places; data_pages = with_given old.data_pages gone }) J after
known_lost old index I J before after inodes places gone knows long stay keeps frees placed loses = record {
  whole = long ∙ knows.whole;
  nodes = nodes_lost old.size old.index index I J before after gone knows.nodes stay keeps frees.pages_free loses;
  each_inode = length-with_given old.inodes places ∙ knows.each_inode;
  inodes = λ i least most.
      free_now old.inodes places (i - 1) (inode_kind I i ≡ 0) (inode_kind J i ≡ 0) (let each = knows.each_inode in omega (arith, each, least, most)) (knows.inodes i least most)
      (λ out. frees.change.other_inodes i least most (λ among. out ((placed i least).1 among))) (λ among. frees.inodes_free i ((placed i least).0 among));
  each_page = length-with_given old.data_pages gone ∙ knows.each_page;
  data_pages = λ j low.
      free_now old.data_pages gone j (IsUnusedPage old.size I j) (IsUnusedPage old.size J j) (let each = knows.each_page in omega (arith, each, low)) (knows.data_pages j low)
      (frees.change.other_pages j low) (frees.pages_free j);
}

-- ---- the last pages of a file

cut_lists : (old new : VolumeView) (I J : List ℕ) (before : Residue) (i count : ℕ) → KnowsBeside old I before → 1 ≤ i → i ≤ inodes_of old.size → (leaves : LeavesLastPages old new i count)
    → AreListedAt old leaves.gone i → LosesPages old.size J old.index new.index leaves.gone
cut_lists old new I J before i count knows least most leaves listed =
    let split = leaves.split in
    let now = leaves.index.node.pages in
    let here : Loses leaves.gone (pages_of old.index i) (pages_of new.index i) =
    subst (λ (l : List ℕ). Loses leaves.gone (pages_of old.index i) l) (sym now)
    (subst (λ (l : List ℕ). Loses leaves.gone l leaves.kept) (sym split) (loses_last leaves.kept leaves.gone (subst IsDistinct split (knows.nodes.once i least most)))) in
    let lost = loses_at old.size old.index new.index i leaves.gone leaves.index.elsewhere leaves.index.node.entries knows.nodes.once listed here in
    record {
      inodes = lost.inodes;
      entries = lost.entries;
      lists = lost.lists;
      places = at_each i (λ x. (k j : ℕ) → HasBytes J x → slice_get (pages_of new.index x) k ≡ Some j → slice_get (pages_of old.index x) k ≡ Some j)
          (λ k j bytes there. ap (λ (l : List ℕ). slice_get l k) split ∙ get_in_front leaves.kept leaves.gone k j (ap (λ (l : List ℕ). slice_get l k) (sym now) ∙ there))
          (λ x other k j bytes there. ap (λ (l : List ℕ). slice_get l k) (sym (lost.others x other)) ∙ there);
    }

pub cut_known_law : CutKnownLaw
cut_known_law old new I J before after i count knows long least most leaves stay keeps frees listed =
    subst (λ (v : VolumeView). KnowsBeside v J after) (sym leaves.rest)
    (known_lost old new.index I J before after [] [] leaves.gone knows long stay keeps frees (λ x some. ((λ none. none), (λ none. none))) (cut_lists old new I J before i count knows least most leaves listed))
