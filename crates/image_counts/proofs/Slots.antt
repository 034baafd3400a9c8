-- The names of a tree, matched with the slots of the image.
use Rattle.std.proofs.Common.{◌≡◌, ◌++◌, Option, None, ◌≢◌, ℕ, ◌==◌, Bool, true, false, List, [], ◌∷◌, length, reverse, filter, Some, refl, sym, ap, subst, ◌∙◌, arith}
use Rattle.std.proofs.lemmas.List.{reverse-append, reverse-reverse}
use Rattle.std.proofs.lemmas.Bool.Decides.{nat_tests}
use Rattle.layout.specs.Fields.{slot_inode, slot_name}
use Rattle.tree_model.specs.PathText.{Route}
use Rattle.tree_model.specs.Tree.{Tree, route_cmp, route_cmp_total, id_at, is_in, is_number, is_root, parent, entries_in, name_count}
use Rattle.tree_model.proofs.TableLaws.{route_cmp-IsAntisymmetric}
use Rattle.tree_model.proofs.TreeLaws.{parent-below, not_root-below, is_in-at}
use Rattle.image_reading.specs.Counts.{Count}
use Rattle.image_reading.specs.Reading.{slot_owner, Names, IsReachedSlot, Reads}
use Rattle.image_reading.specs.Soundness.{IsCoherent}
use Rattle.image_reading.proofs.Counts.{count_none-zero}
use Rattle.image_counts.specs.Entries.{IsEntryOf, IsSlotOf}
use Rattle.image_counts.specs.Laws.{HasAbsences, NameCountLaw, AbsenceLaw}
use Rattle.image_counts.proofs.Paths.{has_entries, IsLastSlot, reached_slot, one_slot, one_last, slot_leads}
use Rattle.image_counts.proofs.Counting.{none_counted, Among, AreApart, among_filter, filter_among, filter_apart, IsMatching, IsMatched, count_matched, count_alike}
use Rattle.image_counts.proofs.Entries.{find_among, entries_apart, among_find}

pub same_numbers : (a b : ℕ) → a ≡ b → a == b ≡ true
same_numbers a b e = grind (arith, nat_tests)

pub equal_numbers : (a b : ℕ) → a == b ≡ true → a ≡ b
equal_numbers a b e = grind (arith, nat_tests)

-- the entries that are names of the tree with a property
pub record AreNames (T : Tree) (K : Route × ℕ → Type 0) (es : List (Route × ℕ)) : Type 0 where
  pub apart : AreApart es
  pub are : (e : Route × ℕ) → Among e es → (id_at T e.0 ≡ Some e.1) × K e
  pub all : (p : Route) (i : ℕ) → id_at T p ≡ Some i → K (p, i) → Among (p, i) es

pub all_names : (T : Tree) → AreNames T (λ e. Unit {0}) T.names.entries
all_names T = record {
  apart = entries_apart route_cmp route_cmp_total T.names.entries T.names.sorted;
  are = λ e among. (find_among route_cmp route_cmp_total T.names.entries e T.names.sorted among, tt);
  all = λ p i is any. among_find route_cmp route_cmp_total route_cmp-IsAntisymmetric T.names.entries p i is;
}

pub some_names : (T : Tree) (K : Route × ℕ → Type 0) (es : List (Route × ℕ)) (t : Route × ℕ → Bool) → AreNames T K es → AreNames T (λ e. K e × (t e ≡ true)) (filter t es)
some_names T K es t names = record {
  apart = filter_apart t es names.apart;
  are = λ e among. (let (there, passes) = among_filter t es e among in let (is, has) = names.are e there in (is, (has, passes)));
  all = λ p i is both. filter_among t es (p, i) (names.all p i is both.0) both.1;
}

pub same_reverse : (p q : Route) → reverse p ≡ reverse q → p ≡ q
same_reverse p q e = sym (reverse-reverse p) ∙ ap reverse e ∙ reverse-reverse q

module _ (P : ℕ) (I : List ℕ) (T : Tree) (coherent : IsCoherent P I) (reads : Reads P I T) where
  -- the last slot of a name
  abbrev pub IsSlotOfName : Route × ℕ → ℕ → Type 0
  IsSlotOfName e s = IsLastSlot P I (reverse e.0) e.1 s

  pub last_slot : (r : Route) (i : ℕ) → Names P I r i → r ≢ [] → (s : ℕ) × IsLastSlot P I r i s
  last_slot [] i names differ = absurd (differ refl)
  last_slot (n ∷ p) i (s, names, leads) differ = (s, (names, leads))

  pub slot_names : (r : Route) (i s : ℕ) → IsLastSlot P I r i s → Names P I r i
  slot_names [] i s last = absurd last
  slot_names (n ∷ p) i s (names, leads) = (s, names, leads)

  pub slot_is_name : (p : Route) (i s : ℕ) → IsSlotOfName (p, i) s → id_at T p ≡ Some i
  slot_is_name p i s last = (reads.names p i).1 (slot_names (reverse p) i s last)

  name_of_slot : (s : ℕ) → IsReachedSlot P I s → (p : Route) × IsSlotOfName (p, slot_inode P I s) s
  name_of_slot s r =
      let (q, names) = r.owner in
      let path : Route = slot_name P I s ∷ q in
      let leads = slot_leads P I coherent s r in
      (reverse path, subst (λ z. IsLastSlot P I z (slot_inode P I s) s) (sym (reverse-reverse path)) (names, leads))

  -- So many slots have a property as there are names with one that says the same.
  pub count_slots : (K : Route × ℕ → Type 0) (Q : ℕ → Type 0) (es : List (Route × ℕ)) → AreNames T K es
      → ((i : ℕ) → id_at T [] ≡ Some i → ¬ K ([], i))
      → ((p : Route) (i s : ℕ) → IsSlotOfName (p, i) s → K (p, i) → Q s)
      → ((s : ℕ) → Q s → IsReachedSlot P I s)
      → ((p : Route) (i s : ℕ) → IsSlotOfName (p, i) s → Q s → K (p, i))
      → Count Q (length es)
  count_slots K Q es names no_root says reached said = count_alike (IsMatched IsSlotOfName es) Q (length es) to from (count_matched IsSlotOfName es matching)
    where
      some_name : (e : Route × ℕ) → Among e es → reverse e.0 ≢ []
      some_name e among empty =
          let (is, has) = names.are e among in
          let root : e.0 ≡ [] = same_reverse e.0 [] empty in
          no_root e.1 (ap (id_at T) (sym root) ∙ is) (subst (λ z. K (z, e.1)) root has)

      matching : IsMatching IsSlotOfName es
      matching = record {
        apart = names.apart;
        each = λ e among. last_slot (reverse e.0) e.1 ((reads.names e.0 e.1).0 (names.are e among).0) (some_name e among);
        one = λ e s t among a b. one_slot P I coherent (reverse e.0) e.1 e.1 s t a b;
        own = λ e f s among there a b. (
            let (routes, inodes) = one_last P I coherent (reverse e.0) (reverse f.0) e.1 f.1 s a b in
            let paths = same_reverse e.0 f.0 routes in
            λ k. (paths k, inodes k));
      }

      to : (s : ℕ) → IsMatched IsSlotOfName es s → Q s
      to s (e, among, last) = says e.0 e.1 s last (names.are e among).1

      from : (s : ℕ) → Q s → IsMatched IsSlotOfName es s
      from s q =
          let (p, last) = name_of_slot s (reached s q) in
          ((p, slot_inode P I s), names.all p (slot_inode P I s) (slot_is_name p (slot_inode P I s) s last) (said p (slot_inode P I s) s last q), last)

  -- ---- the names in a directory

  pub owner_of : (r : Route) (i s : ℕ) → IsLastSlot P I r i s → (id_at T (parent (reverse r)) ≡ Some (slot_owner P I s)) × (is_root (reverse r) ≡ false)
  owner_of [] i s last = absurd last
  owner_of (n ∷ p) i s (names, leads) =
      let split = reverse-append (n ∷ []) p in
      let above : parent (reverse (n ∷ p)) ≡ reverse p = ap parent split ∙ parent-below (reverse p) n in
      let named = (reads.names (reverse p) (slot_owner P I s)).1 (subst (λ z. Names P I z (slot_owner P I s)) (sym (reverse-reverse p)) names) in
      (ap (id_at T) above ∙ named, ap is_root split ∙ not_root-below (reverse p) n [])

  -- the directory that holds a name
  pub above_name : (p : Route) (i s : ℕ) → IsSlotOfName (p, i) s → id_at T (parent p) ≡ Some (slot_owner P I s)
  above_name p i s last = ap (λ z. id_at T (parent z)) (sym (reverse-reverse p)) ∙ (owner_of (reverse p) i s last).0

  -- a name is in the directory that owns its slot's page
  pub in_owner : (d : ℕ) (p : Route) (i s : ℕ) → IsSlotOfName (p, i) s → is_in T d p ≡ (slot_owner P I s == d)
  in_owner d p i s last =
      let (above, below) = owner_of (reverse p) i s last in
      let path = reverse-reverse p in
      is_in-at T d p (ap is_root (sym path) ∙ below) ∙ ap (λ o. is_number o d) (ap (λ z. id_at T (parent z)) (sym path) ∙ above)

  pub names_in : (d : ℕ) → AreNames T (λ e. Unit {0} × (is_in T d e.0 ≡ true)) (entries_in T d)
  names_in d = some_names T (λ e. Unit {0}) T.names.entries (λ e. is_in T d e.0) (all_names T)

  pub count_names : (d : ℕ) → Count (IsSlotOf P I d) (name_count T d)
  count_names d = count_slots (λ e. Unit {0} × (is_in T d e.0 ≡ true)) (IsSlotOf P I d) (entries_in T d) (names_in d)
      (λ i is inside. (let clash : false ≡ true = inside.1 in cc))
      (λ p i s last inside. (reached_slot P I (reverse p) i s last, equal_numbers (slot_owner P I s) d (sym (in_owner d p i s last) ∙ inside.1)))
      (λ s q. q.0)
      (λ p i s last q. (tt, in_owner d p i s last ∙ same_numbers (slot_owner P I s) d q.1))

  -- ---- where there is no name

  no_entry : (q : Route) (d : ℕ) (name : List ℕ) (o : Option ℕ) → id_at T q ≡ o → ((i : ℕ) → id_at T q ≡ Some i → (s : ℕ) × IsEntryOf P I d name s × (slot_inode P I s ≡ i)) → ((s : ℕ) → ¬ IsEntryOf P I d name s) → o ≡ None
  no_entry q d name None is some none = refl
  no_entry q d name (Some i) is some none = let (s, entry, inode) = some i is in absurd (none s entry)

  some_none : (o : Option ℕ) (i : ℕ) → o ≡ None → o ≡ Some i → ⊥
  some_none o i none some = cc

  pub has_absences : HasAbsences P I T
  has_absences = record {
    absent = λ p d name at. (
      (λ none s entry. some_none (id_at T (p ++ name ∷ [])) (slot_inode P I s) none ((has_entries P I T coherent reads p d (slot_inode P I s) name at).1 (s, entry, refl))),
      (λ none. no_entry (p ++ name ∷ []) d name (id_at T (p ++ name ∷ [])) refl (λ i is. (has_entries P I T coherent reads p d i name at).0 is) none),
    );
    empty = λ d. (
      (λ zero. none_counted (IsSlotOf P I d) (subst (Count (IsSlotOf P I d)) zero (count_names d))),
      (λ none. count_none-zero (IsSlotOf P I d) (name_count T d) none (count_names d)),
    );
  }

pub name_count_law : NameCountLaw
name_count_law P I state coherent reads d = count_names P I state.tree coherent reads.tree d

pub absence_law : AbsenceLaw
absence_law P I state coherent reads = has_absences P I state.tree coherent reads.tree
