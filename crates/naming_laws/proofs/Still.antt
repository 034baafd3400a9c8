-- A command that finds the same where enough is free is accepted still, in a tree.
use Rattle.std.proofs.Common.{◌≡◌, ℕ, ◌+◌, ◌-◌, ◌*◌, ◌≤◌, true, false, cond, ◌&&◌, ◌||◌, ◌==◌, nat_lt, nat_le, [], ◌∷◌, ◌++◌, length, Option, Some, None, is_some, unwrap_or, refl, sym, ap, ◌∙◌, arith}
use Rattle.std.proofs.lemmas.Bool.Decides.{nat_tests}
use Rattle.std.specs.List.{Contains}
use Rattle.layout.specs.Geometry.{pieces}
use Rattle.tree_model.specs.PathText.{Route}
use Rattle.tree_model.specs.Tree.{Tree, Room, IsTree, root_id, is_root, parent, is_above, id_at, node_at, is_directory_node, is_file_node, bytes_of_node, is_number, name_count, page_bytes, file_pages, pages_in}
use Rattle.tree_model.specs.Capacity.{Supply, free_inodes, free_pages, file_limit}
use Rattle.tree_model.specs.Step.{first, at, later_faults, refusal_with, id_of, is_same_node, gaining, losing, page_for_name, pages_after, rise, read_limit, need}
use Rattle.tree_model.specs.Run.{State}
use Rattle.tree_model.specs.Fences.{one_where, gave, gave_from, is_gone, fences_for_loss, fences_of_accepted}
use Rattle.tree_model.specs.Accepted.{IsFileAt, Accepted}
use Rattle.tree_model.specs.declared.command.Command.{Command}
use Rattle.tree_model.specs.declared.command.Command.TheVariants.{Create, Mkdir, Link, Unlink, Rmdir, Rename, Write, Truncate, Read, Stat as Tell, List as Show, Df}
use Rattle.tree_model.specs.declared.reply.Refusal.TheVariants.{NotDir, Root, Exists, IsDir, NotEmpty, IntoItself, TooBig, NoInodes, NoPages}
use Rattle.tree_model.proofs.AcceptedLaws.{Accepted-from_row}
use Rattle.tree_model.proofs.FitsLaws.{need-le-free}
use Rattle.naming_laws.specs.Naming.{paths_of, names_inode, inode_need}
use Rattle.naming_laws.specs.Still.{FindsSame, HasEnough, IsStillAccepted, StillLaw}
use Rattle.naming_laws.proofs.Named.{at_first, at_second, at_third, at_fourth, names_at, gains_named, loses_named}

abbrev SameIds : Tree → Tree → Command → Type 0
SameIds T U c = (q : Route) → Contains (paths_of c) q → id_at U q ≡ id_at T q

-- ---- the directories that gain and lose a name

same_node_test : (T U : Tree) (from to : Route) → SameIds T U (Rename from to) → is_same_node U from to ≡ is_same_node T from to
same_node_test T U from to same =
    let a = same from (at_first from (parent from ∷ to ∷ parent to ∷ [])) in
    let b = same to (at_third from (parent from) to (parent to ∷ [])) in
    λ k. is_number (a k) (unwrap_or (b k) root_id) && is_some (b k)

named_above : (T U : Tree) (path : Route) → id_at U (parent path) ≡ id_at T (parent path) → ◌≡◌ {A = Option ℕ} (Some (id_of U (parent path))) (Some (id_of T (parent path)))
named_above T U path same = ap (λ o. Some (unwrap_or o root_id)) same

pub same_gaining : (T U : Tree) (c : Command) → SameIds T U c → gaining U c ≡ gaining T c
same_gaining T U (Create path) same = named_above T U path (same (parent path) (at_second path (parent path) []))
same_gaining T U (Mkdir path) same = named_above T U path (same (parent path) (at_second path (parent path) []))
same_gaining T U (Link from to) same = named_above T U to (same (parent to) (at_third from to (parent to) []))
same_gaining T U (Unlink path) same = refl
same_gaining T U (Rmdir path) same = refl
same_gaining T U (Rename from to) same =
    let there = same to (at_third from (parent from) to (parent to ∷ [])) in
    let up = named_above T U to (same (parent to) (at_fourth from (parent from) to (parent to) [])) in
    λ k. cond (is_some (there k)) None (up k)
same_gaining T U (Write path offset bytes) same = refl
same_gaining T U (Truncate path size) same = refl
same_gaining T U (Read path offset count) same = refl
same_gaining T U (Tell path) same = refl
same_gaining T U (Show path) same = refl
same_gaining T U Df same = refl

pub same_losing : (T U : Tree) (c : Command) → SameIds T U c → losing U c ≡ losing T c
same_losing T U (Create path) same = refl
same_losing T U (Mkdir path) same = refl
same_losing T U (Link from to) same = refl
same_losing T U (Unlink path) same = named_above T U path (same (parent path) (at_second path (parent path) []))
same_losing T U (Rmdir path) same = named_above T U path (same (parent path) (at_second path (parent path) []))
same_losing T U (Rename from to) same =
    let one = same_node_test T U from to same in
    let up = named_above T U from (same (parent from) (at_second from (parent from) (to ∷ parent to ∷ []))) in
    λ k. cond (one k) None (up k)
same_losing T U (Write path offset bytes) same = refl
same_losing T U (Truncate path size) same = refl
same_losing T U (Read path offset count) same = refl
same_losing T U (Tell path) same = refl
same_losing T U (Show path) same = refl
same_losing T U Df same = refl

-- ---- what is found at a path that names a node

module _ (old new : State) (c : Command) (f : FindsSame c old new) (q : Route) (here : Contains (paths_of c) q) (named : names_inode old.tree c (id_of old.tree q) ≡ true) where
  node_same : node_at new.tree (id_of new.tree q) ≡ node_at old.tree (id_of old.tree q)
  node_same = ap (λ o. node_at new.tree (unwrap_or o root_id)) (f.ids q here) ∙ f.nodes (id_of old.tree q) named

  count_same : name_count new.tree (id_of new.tree q) ≡ name_count old.tree (id_of old.tree q)
  count_same = ap (λ o. name_count new.tree (unwrap_or o root_id)) (f.ids q here) ∙ f.names (id_of old.tree q) named

-- what stands at a path is named
module _ (T : Tree) (t : IsTree T) (c : Command) where
  file_named : (path : Route) → Contains (paths_of c) path → (source : IsFileAt T path) → names_inode T c (id_of T path) ≡ true
  file_named path here source = names_at T t c path (id_of T path) here (source.named ∙ ap Some (sym source.is))

root_or_named : (T : Tree) (t : IsTree T) (from to q : Route) → names_inode T (Rename from to) (id_of T q) ≡ true
root_or_named T t from to q = at_id (id_at T q) refl
  where
    at_id : (o : Option ℕ) → id_at T q ≡ o → is_some (node_at T (unwrap_or o root_id)) ≡ true
    at_id None is = t.present [] root_id t.root
    at_id (Some i) is = t.present q i is

-- ---- pages of the directories that gain and lose a name

module _ (supply : Supply) (old new : State) (c : Command) (t : IsTree old.tree) (a : Accepted supply old.tree old.room c) (f : FindsSame c old new) where
  page_same : (d : ℕ) → names_inode old.tree c d ≡ true → page_for_name new.tree new.room (Some d) ≡ page_for_name old.tree old.room (Some d)
  page_same d named =
      let names = f.names d named in
      let pages = f.pages d named in
      λ k. cond (names k == 32 * pages k) 1 0

  new_page : (o : Option ℕ) → gaining old.tree c ≡ o → page_for_name new.tree new.room o ≡ page_for_name old.tree old.room o
  new_page None is = refl
  new_page (Some d) is = page_same d (gains_named old.tree t supply old.room c a d is)

  new_page_same : page_for_name new.tree new.room (gaining new.tree c) ≡ page_for_name old.tree old.room (gaining old.tree c)
  new_page_same = ap (page_for_name new.tree new.room) (same_gaining old.tree new.tree c f.ids) ∙ new_page (gaining old.tree c) refl

  pages_after_same : (d : ℕ) → names_inode old.tree c d ≡ true → pages_after new.tree new.room c false d ≡ pages_after old.tree old.room c false d
  pages_after_same d named =
      let gains = same_gaining old.tree new.tree c f.ids in
      let loses = same_losing old.tree new.tree c f.ids in
      let page = page_same d named in
      let pages = f.pages d named in
      λ k. cond (is_number (loses k) d && false) (pages k + cond (is_number (gains k) d) (page k) 0 - 1) (pages k + cond (is_number (gains k) d) (page k) 0)

  gave_at : (after : State) (o : Option ℕ) → losing old.tree c ≡ o → gave_from new c o after ≡ gave_from old c o after
  gave_at after None is = refl
  gave_at after (Some d) is = ap (nat_lt (pages_in after.room d)) (pages_after_same d (loses_named old.tree t supply old.room c a d is))

  gave_same : (after : State) → gave new c after ≡ gave old c after
  gave_same after = ap (λ o. gave_from new c o after) (same_losing old.tree new.tree c f.ids) ∙ gave_at after (losing old.tree c) refl

  -- what was at the path that loses its node, or at a path that may name none
  loss_same : (path : Route) → Contains (paths_of c) path → names_inode old.tree c (id_of old.tree path) ≡ true → (after : State) → fences_for_loss new c path after ≡ fences_for_loss old c path after
  loss_same path here named after =
      let given = gave_same after in
      let ids = f.ids path here in
      let node = node_same old new c f path here named in
      λ k. one_where (given k || (is_gone (ids k) after && nat_lt 0 (file_pages (bytes_of_node (node k))))) + one_where (given k || is_gone (ids k) after)

-- ---- the pages that it needs

need_by : (supply : Supply) (old new : State) (c : Command) → IsTree old.tree → Accepted supply old.tree old.room c → FindsSame c old new → need new.tree new.room c ≡ need old.tree old.room c
need_by supply old new (Create path) t a f = new_page_same supply old new (Create path) t a f
need_by supply old new (Mkdir path) t a f = new_page_same supply old new (Mkdir path) t a f
need_by supply old new (Link from to) t a f = new_page_same supply old new (Link from to) t a f
need_by supply old new (Unlink path) t a f = refl
need_by supply old new (Rmdir path) t a f = refl
need_by supply old new (Rename from to) t a f = new_page_same supply old new (Rename from to) t a f
need_by supply old new (Write path offset bytes) t a f =
    let c = Write path offset bytes in
    let node = node_same old new c f path (at_first path []) (file_named old.tree t c path (at_first path []) a.source) in
    λ k. cond (length bytes == 0) 0 (rise (bytes_of_node (node k)) (offset + length bytes))
need_by supply old new (Truncate path size) t a f =
    let c = Truncate path size in
    let node = node_same old new c f path (at_first path []) (file_named old.tree t c path (at_first path []) a.source) in
    λ k. rise (bytes_of_node (node k)) size
need_by supply old new (Read path offset count) t a f = refl
need_by supply old new (Tell path) t a f = refl
need_by supply old new (Show path) t a f = refl
need_by supply old new Df t a f = refl

-- ---- what is free

-- an accepted command had the inodes that it takes
pub inodes_enough : (supply : Supply) (T : Tree) (room : Room) (c : Command) → Accepted supply T room c → inode_need c ≤ free_inodes supply T
inodes_enough supply T room (Create path) a = a.inode
inodes_enough supply T room (Mkdir path) a = a.inode
inodes_enough supply T room (Link from to) a = omega arith
inodes_enough supply T room (Unlink path) a = omega arith
inodes_enough supply T room (Rmdir path) a = omega arith
inodes_enough supply T room (Rename from to) a = omega arith
inodes_enough supply T room (Write path offset bytes) a = omega arith
inodes_enough supply T room (Truncate path size) a = omega arith
inodes_enough supply T room (Read path offset count) a = omega arith
inodes_enough supply T room (Tell path) a = omega arith
inodes_enough supply T room (Show path) a = omega arith
inodes_enough supply T room Df a = omega arith

some_free : (n : ℕ) → 1 ≤ n → (n == 0) ≡ false
some_free n some = grind (arith, nat_tests)

enough_free : (n m : ℕ) → m ≤ n → nat_lt n m ≡ false
enough_free n m enough = grind (arith, nat_tests)

-- The tests of what is free answer as they did.
record SameTests (supply later : Supply) (old new : State) (c : Command) : Type 0 where
  inodes : 1 ≤ inode_need c → (free_inodes later new.tree == 0) ≡ (free_inodes supply old.tree == 0)
  pages : nat_lt (free_pages later new.tree new.room) (need new.tree new.room c) ≡ nat_lt (free_pages supply old.tree old.room) (need old.tree old.room c)

tests_by : (supply later : Supply) (old new : State) (c : Command) → refusal_with supply old.tree old.room c ≡ None → Accepted supply old.tree old.room c → HasEnough later old new c
    → need new.tree new.room c ≡ need old.tree old.room c → SameTests supply later old new c
tests_by supply later old new c accepted a enough needs =
    let now = enough.inodes in
    let was = inodes_enough supply old.tree old.room c a in
    let pages_now = enough.pages in
    let pages_was = need-le-free supply old.tree old.room c accepted in
    record {
      inodes = λ some. some_free (free_inodes later new.tree) (omega (arith, some, now)) ∙ sym (some_free (free_inodes supply old.tree) (omega (arith, some, was)));
      pages = enough_free (free_pages later new.tree new.room) (need new.tree new.room c) (omega (arith, needs, pages_now))
          ∙ sym (enough_free (free_pages supply old.tree old.room) (need old.tree old.room c) pages_was);
    }

-- ---- the rows

rows_by : (supply later : Supply) (old new : State) (c : Command) → IsTree old.tree → Accepted supply old.tree old.room c → FindsSame c old new → SameTests supply later old new c
    → later_faults later new.tree new.room c ≡ later_faults supply old.tree old.room c
rows_by supply later old new (Create path) t a f tests =
    let ids = f.ids path (at_first path (parent path ∷ [])) in
    let inodes = tests.inodes (omega arith) in
    λ k. at Root (is_root path) ∷ at Exists (is_some (ids k)) ∷ at NoInodes (inodes k) ∷ at NoPages (tests.pages k) ∷ []
rows_by supply later old new (Mkdir path) t a f tests =
    let ids = f.ids path (at_first path (parent path ∷ [])) in
    let inodes = tests.inodes (omega arith) in
    λ k. at Root (is_root path) ∷ at Exists (is_some (ids k)) ∷ at NoInodes (inodes k) ∷ at NoPages (tests.pages k) ∷ []
rows_by supply later old new (Link from to) t a f tests =
    let c = Link from to in
    let ids = f.ids to (at_second from to (parent to ∷ [])) in
    let here = at_first from (to ∷ parent to ∷ []) in
    let node = node_same old new c f from here (file_named old.tree t c from here a.source) in
    λ k. at Root (is_root to) ∷ at Exists (is_some (ids k)) ∷ at IsDir (is_directory_node (node k)) ∷ at NoPages (tests.pages k) ∷ []
rows_by supply later old new (Unlink path) t a f tests =
    let c = Unlink path in
    let here = at_first path (parent path ∷ []) in
    let node = node_same old new c f path here (file_named old.tree t c path here a.source) in
    λ k. at Root (is_root path) ∷ at IsDir (is_directory_node (node k)) ∷ []
rows_by supply later old new (Rmdir path) t a f tests =
    let c = Rmdir path in
    let here = at_first path (parent path ∷ []) in
    let named = names_at old.tree t c path (id_of old.tree path) here (a.source.named ∙ ap Some (sym a.source.is)) in
    let node = node_same old new c f path here named in
    let count = count_same old new c f path here named in
    λ k. at Root (is_root path) ∷ at NotDir (is_file_node (node k)) ∷ at NotEmpty (nat_lt 0 (count k)) ∷ []
rows_by supply later old new (Rename from to) t a f tests =
    let c = Rename from to in
    let first_here = at_first from (parent from ∷ to ∷ parent to ∷ []) in
    let third_here = at_third from (parent from) to (parent to ∷ []) in
    let one = same_node_test old.tree new.tree from to f.ids in
    let there = f.ids to third_here in
    let moved = node_same old new c f from first_here (root_or_named old.tree t from to from) in
    let target = node_same old new c f to third_here (root_or_named old.tree t from to to) in
    let count = count_same old new c f to third_here (root_or_named old.tree t from to to) in
    λ k. at Root (is_root from || is_root to) ∷ cond (one k) [] (
    at NotDir (is_directory_node (moved k) && is_some (there k) && is_file_node (target k))
    ∷ at IsDir (is_file_node (moved k) && is_some (there k) && is_directory_node (target k))
    ∷ at NotEmpty (is_directory_node (moved k) && is_some (there k) && is_directory_node (target k) && nat_lt 0 (count k))
    ∷ at IntoItself (is_directory_node (moved k) && is_above from to)
    ∷ at NoPages (tests.pages k) ∷ [])
rows_by supply later old new (Write path offset bytes) t a f tests =
    let c = Write path offset bytes in
    let node = node_same old new c f path (at_first path []) (file_named old.tree t c path (at_first path []) a.source) in
    λ k. at IsDir (is_directory_node (node k)) ∷ at TooBig (nat_lt file_limit (offset + length bytes)) ∷ at NoPages (tests.pages k) ∷ []
rows_by supply later old new (Truncate path size) t a f tests =
    let c = Truncate path size in
    let node = node_same old new c f path (at_first path []) (file_named old.tree t c path (at_first path []) a.source) in
    λ k. at IsDir (is_directory_node (node k)) ∷ at TooBig (nat_lt file_limit size) ∷ at NoPages (tests.pages k) ∷ []
rows_by supply later old new (Read path offset count) t a f tests =
    let c = Read path offset count in
    let node = node_same old new c f path (at_first path []) (file_named old.tree t c path (at_first path []) a.source) in
    λ k. at IsDir (is_directory_node (node k)) ∷ at TooBig (nat_lt read_limit count) ∷ []
rows_by supply later old new (Tell path) t a f tests = refl
rows_by supply later old new (Show path) t a f tests =
    let c = Show path in
    let here = at_first path [] in
    let node = node_same old new c f path here (names_at old.tree t c path (id_of old.tree path) here (a.named ∙ ap Some (sym a.is))) in
    λ k. at NotDir (is_file_node (node k)) ∷ []
rows_by supply later old new Df t a f tests = refl

-- ---- the fences

fences_by : (supply : Supply) (old new : State) (c : Command) → IsTree old.tree → Accepted supply old.tree old.room c → FindsSame c old new → need new.tree new.room c ≡ need old.tree old.room c
    → (after : State) → fences_of_accepted new c after ≡ fences_of_accepted old c after
fences_by supply old new (Create path) t a f needs after = λ k. 2 + needs k
fences_by supply old new (Mkdir path) t a f needs after = λ k. 2 + needs k
fences_by supply old new (Link from to) t a f needs after = λ k. 2 + needs k
fences_by supply old new (Unlink path) t a f needs after =
    let here = at_first path (parent path ∷ []) in
    let loss = loss_same supply old new (Unlink path) t a f path here (file_named old.tree t (Unlink path) path here a.source) after in λ k. 2 + loss k
fences_by supply old new (Rmdir path) t a f needs after = let given = gave_same supply old new (Rmdir path) t a f after in λ k. 3 + one_where (given k)
fences_by supply old new (Rename from to) t a f needs after =
    let one = same_node_test old.tree new.tree from to f.ids in
    let loss = loss_same supply old new (Rename from to) t a f to (at_third from (parent from) to (parent to ∷ [])) (root_or_named old.tree t from to to) after in
    λ k. cond (one k) 0 (4 + 2 * needs k + loss k)
fences_by supply old new (Write path offset bytes) t a f needs after =
    let c = Write path offset bytes in
    let node = node_same old new c f path (at_first path []) (file_named old.tree t c path (at_first path []) a.source) in
    λ k. cond (length bytes == 0) 0 (cond (nat_le (offset + length bytes) (length (bytes_of_node (node k)))) 1 (cond (nat_lt 0 (needs k)) 3 2))
fences_by supply old new (Truncate path size) t a f needs after =
    let c = Truncate path size in
    let node = node_same old new c f path (at_first path []) (file_named old.tree t c path (at_first path []) a.source) in
    λ k. cond (size == length (bytes_of_node (node k))) 0 (cond (nat_lt (length (bytes_of_node (node k))) size) (cond (nat_lt 0 (needs k)) 3 2)
    (cond (nat_lt (pieces size page_bytes) (file_pages (bytes_of_node (node k)))) 3 1))
fences_by supply old new (Read path offset count) t a f needs after = refl
fences_by supply old new (Tell path) t a f needs after = refl
fences_by supply old new (Show path) t a f needs after = refl
fences_by supply old new Df t a f needs after = refl

-- ---- all three

pub still_in_tree : (supply later : Supply) (old new : State) (c : Command) → IsTree old.tree → refusal_with supply old.tree old.room c ≡ None → FindsSame c old new → HasEnough later old new c
    → IsStillAccepted later old new c
still_in_tree supply later old new c t accepted f enough =
    let a = Accepted-from_row supply old.tree old.room c t accepted in
    let needs = need_by supply old new c t a f in
    let rows = rows_by supply later old new c t a f (tests_by supply later old new c accepted a enough needs) in
    let refusals : refusal_with later new.tree new.room c ≡ refusal_with supply old.tree old.room c = λ k. first (f.walks k ++ rows k) in
    record { accepted = refusals ∙ accepted; need = needs; fences = fences_by supply old new c t a f needs }

pub still_law : StillLaw
still_law volume supply later old new c v accepted f free = still_in_tree supply later old new c v.tree accepted f free
