-- Walks of accepted commands have no fault, in each tree where their paths name the same.
use Rattle.std.proofs.Common.{◌≡◌, ℕ, true, cond, [], ◌∷◌, ◌++◌, Some, None, is_some, Ok, Err, refl, sym, ap, ◌∙◌, append_assoc, append-nil}
use Rattle.std.specs.List.{Contains}
use Rattle.tree_model.specs.PathText.{Route}
use Rattle.tree_model.specs.Tree.{Tree, Room, IsTree, root_id, parent, id_at, is_directory}
use Rattle.tree_model.specs.Capacity.{Supply}
use Rattle.tree_model.specs.Walk.{place_at, walk, walk_on, walk_to_parent, only_directory}
use Rattle.tree_model.specs.Step.{fault_of, walk_faults}
use Rattle.tree_model.specs.Accepted.{HasHolder, Accepted}
use Rattle.tree_model.specs.declared.command.Command.{Command}
use Rattle.tree_model.specs.declared.command.Command.TheVariants.{Create, Mkdir, Link, Unlink, Rmdir, Rename, Write, Truncate, Read, Stat as Tell, List as Show, Df}
use Rattle.tree_model.specs.declared.reply.Refusal.TheVariants.{NotDir}
use Rattle.tree_model.proofs.TreeKept.{some_is, same_some}
use Rattle.tree_model.proofs.TreeLaws.{above, there-front, parent-below, not_root-below}
use Rattle.naming_laws.specs.Naming.{paths_of}
use Rattle.naming_laws.proofs.Named.{at_first, at_second, at_third, at_fourth}

-- from a directory that is there, to what is there below it
walk_below : (T : Tree) (t : IsTree T) (front names : Route) (i j : ℕ) → id_at T front ≡ Some i → id_at T (front ++ names) ≡ Some j
    → walk_on T (Ok (record { path = front; id = i })) names ≡ Ok (record { path = front ++ names; id = j })
walk_below T t front [] i j at_front e =
    let same = same_some i j (sym at_front ∙ ap (id_at T) (sym (append-nil front)) ∙ e) in
    λ k. Ok (record { path = sym (append-nil front) k; id = same k })
walk_below T t front (name ∷ names) i j at_front e =
    let next = front ++ name ∷ [] in
    let joined = append_assoc front (name ∷ []) names in
    let child = some_is (id_at T next) (there-front T t names next (ap is_some (ap (id_at T) joined ∙ e))) in
    let up = above T t next child.0 child.1 (not_root-below front name []) in
    let same = same_some up.0 i (sym up.1 ∙ ap (id_at T) (parent-below front name) ∙ at_front) in
    let dir = ap (is_directory T) (sym same) ∙ up.2 in
    ap (λ b. walk_on T (cond b (place_at next (id_at T next)) (Err NotDir)) names) dir
    ∙ ap (λ o. walk_on T (place_at next o) names) child.1
    ∙ walk_below T t next names child.0 j child.1 (ap (id_at T) joined ∙ e)
    ∙ ap (λ p. Ok (record { path = p; id = j })) joined

walk_is : (T : Tree) (t : IsTree T) (path : Route) (i : ℕ) → id_at T path ≡ Some i → walk T path ≡ Ok (record { path = path; id = i })
walk_is T t path i e = walk_below T t [] path root_id i t.root e

no_fault : (T : Tree) (t : IsTree T) (path : Route) (i : ℕ) → id_at T path ≡ Some i → fault_of (walk T path) ≡ None
no_fault T t path i e = ap fault_of (walk_is T t path i e)

no_fault_above : (T : Tree) (t : IsTree T) (path : Route) (h : ℕ) → id_at T (parent path) ≡ Some h → is_directory T h ≡ true → fault_of (walk_to_parent T path) ≡ None
no_fault_above T t path h held holds =
    ap (λ r. fault_of (only_directory T r)) (walk_is T t (parent path) h held) ∙ ap (λ b. fault_of (cond b (Ok (record { path = parent path; id = h })) (Err NotDir))) holds

-- what both trees have at the paths of the command
module _ (T U : Tree) (t : IsTree T) (u : IsTree U) (c : Command) (same : (q : Route) → Contains (paths_of c) q → id_at U q ≡ id_at T q)
    (kinds : (q : Route) (i : ℕ) → Contains (paths_of c) q → id_at T q ≡ Some i → is_directory U i ≡ is_directory T i) where
  walks_there : (q : Route) (i : ℕ) → Contains (paths_of c) q → id_at T q ≡ Some i → fault_of (walk U q) ≡ fault_of (walk T q)
  walks_there q i at e = no_fault U u q i (same q at ∙ e) ∙ sym (no_fault T t q i e)

  walks_above : (path : Route) → Contains (paths_of c) (parent path) → HasHolder T path → fault_of (walk_to_parent U path) ≡ fault_of (walk_to_parent T path)
  walks_above path at holder =
      no_fault_above U u path holder.directory (same (parent path) at ∙ holder.held) (kinds (parent path) holder.directory at holder.held ∙ holder.holds)
      ∙ sym (no_fault_above T t path holder.directory holder.held holder.holds)

row : {A : Type 0} (x y : A) → x ≡ y → x ∷ [] ≡ y ∷ []
row x y e = ap (λ z. z ∷ []) e

rows : {A : Type 0} (x y v w : A) → x ≡ y → v ≡ w → x ∷ v ∷ [] ≡ y ∷ w ∷ []
rows x y v w e f = λ k. e k ∷ f k ∷ []

pub same_walks : (supply : Supply) (T U : Tree) (room : Room) → IsTree T → IsTree U → (c : Command) → Accepted supply T room c → ((q : Route) → Contains (paths_of c) q → id_at U q ≡ id_at T q)
    → ((q : Route) (i : ℕ) → Contains (paths_of c) q → id_at T q ≡ Some i → is_directory U i ≡ is_directory T i) → walk_faults U c ≡ walk_faults T c
same_walks supply T U room t u (Create path) a same kinds = row _ _ (walks_above T U t u (Create path) same kinds path (at_second path (parent path) []) a.place.holder)
same_walks supply T U room t u (Mkdir path) a same kinds = row _ _ (walks_above T U t u (Mkdir path) same kinds path (at_second path (parent path) []) a.place.holder)
same_walks supply T U room t u (Link from to) a same kinds =
    rows _ _ _ _ (walks_there T U t u (Link from to) same kinds from a.source.id (at_first from (to ∷ parent to ∷ [])) a.source.named)
    (walks_above T U t u (Link from to) same kinds to (at_third from to (parent to) []) a.place.holder)
same_walks supply T U room t u (Unlink path) a same kinds = row _ _ (walks_there T U t u (Unlink path) same kinds path a.source.id (at_first path (parent path ∷ [])) a.source.named)
same_walks supply T U room t u (Rmdir path) a same kinds = row _ _ (walks_there T U t u (Rmdir path) same kinds path a.source.id (at_first path (parent path ∷ [])) a.source.named)
same_walks supply T U room t u (Rename from to) a same kinds =
    rows _ _ _ _ (walks_there T U t u (Rename from to) same kinds from a.source.id (at_first from (parent from ∷ to ∷ parent to ∷ [])) a.source.named)
    (walks_above T U t u (Rename from to) same kinds to (at_fourth from (parent from) to (parent to) []) a.new_holder)
same_walks supply T U room t u (Write path offset bytes) a same kinds = row _ _ (walks_there T U t u (Write path offset bytes) same kinds path a.source.id (at_first path []) a.source.named)
same_walks supply T U room t u (Truncate path size) a same kinds = row _ _ (walks_there T U t u (Truncate path size) same kinds path a.source.id (at_first path []) a.source.named)
same_walks supply T U room t u (Read path offset count) a same kinds = row _ _ (walks_there T U t u (Read path offset count) same kinds path a.source.id (at_first path []) a.source.named)
same_walks supply T U room t u (Tell path) a same kinds = row _ _ (walks_there T U t u (Tell path) same kinds path a.id (at_first path []) a.named)
same_walks supply T U room t u (Show path) a same kinds = row _ _ (walks_there T U t u (Show path) same kinds path a.id (at_first path []) a.named)
same_walks supply T U room t u Df a same kinds = refl
