-- What a walk without a fault says of the names.
use Rattle.std.proofs.Common.{◌≡◌, ℕ, Bool, true, false, cond, List, [], ◌∷◌, ◌++◌, Option, Some, None, is_some, Result, Ok, Err, refl, sym, ap, ◌∙◌, append_assoc, append-nil}
use Rattle.tree_model.specs.PathText.{Route}
use Rattle.tree_model.specs.Tree.{Tree, IsTree, id_at, is_directory, parent}
use Rattle.tree_model.specs.Walk.{Place, root_place, place_at, walk, walk_on, walk_to_parent, step_into, only_directory}
use Rattle.tree_model.proofs.TreeLaws.{above, there-front, parent-below, not_root-below}
use Rattle.tree_model.specs.declared.reply.Refusal.{Refusal}
use Rattle.tree_model.specs.declared.reply.Refusal.TheVariants.{NotDir}

-- the place is this path's
abbrev pub StandsAt : Tree → Route → Place → Type 0
StandsAt T path here = (here.path ≡ path) × (id_at T path ≡ Some here.id)

placed : (T : Tree) (path : Route) (o : Option ℕ) (here : Place) → id_at T path ≡ o → place_at path o ≡ Ok here → StandsAt T path here
placed T path None here is e = cc
placed T path (Some i) here is e =
    let same : record { path = path; id = i } ≡ here = cc in (sym (ap (λ (p : Place). p.path) same), is ∙ ap (λ (p : Place). Some p.id) same)

in_directory : (t : Bool) (x : Result Place Refusal) (here : Place) → cond t x (Err NotDir) ≡ Ok here → (t ≡ true) × (x ≡ Ok here)
in_directory true x here e = (refl, e)
in_directory false x here e = cc

stepped : (T : Tree) (r : Result Place Refusal) (front : Route) (name : List ℕ) (next : Place) → ((here : Place) → r ≡ Ok here → StandsAt T front here)
    → step_into T r name ≡ Ok next → StandsAt T (front ++ name ∷ []) next
stepped T (Err fault) front name next start e = cc
stepped T (Ok here) front name next start e =
    let at_front = start here refl in
    let further = (in_directory (is_directory T here.id) (place_at (here.path ++ name ∷ []) (id_at T (here.path ++ name ∷ []))) next e).1 in
    let there = placed T (here.path ++ name ∷ []) (id_at T (here.path ++ name ∷ [])) next refl further in
    let same = ap (λ p. p ++ name ∷ []) at_front.0 in
    (there.0 ∙ same, ap (id_at T) (sym same) ∙ there.1)

walked : (T : Tree) (r : Result Place Refusal) (front names : Route) (last : Place) → ((here : Place) → r ≡ Ok here → StandsAt T front here)
    → walk_on T r names ≡ Ok last → StandsAt T (front ++ names) last
walked T r front [] last start e =
    let at_front = start last e in (at_front.0 ∙ sym (append-nil front), ap (id_at T) (append-nil front) ∙ at_front.1)
walked T r front (name ∷ names) last start e =
    let rest = walked T (step_into T r name) (front ++ name ∷ []) names last (λ here. stepped T r front name here start) e in
    let same = append_assoc front (name ∷ []) names in
    (rest.0 ∙ same, ap (id_at T) (sym same) ∙ rest.1)

-- a walk leads to the path, and to the id that it names
pub StandsAt-walk : (T : Tree) (path : Route) (here : Place) → IsTree T → walk T path ≡ Ok here → StandsAt T path here
StandsAt-walk T path here t e =
    walked T (Ok root_place) [] path here
    (λ root same. let is : root_place ≡ root = cc in (sym (ap (λ (p : Place). p.path) is), t.root ∙ ap (λ (p : Place). Some p.id) is)) e

pub id_at-from_walk : (T : Tree) (path : Route) (here : Place) → IsTree T → walk T path ≡ Ok here → id_at T path ≡ Some here.id
id_at-from_walk T path here t e = (StandsAt-walk T path here t e).1

only : (T : Tree) (r : Result Place Refusal) (here : Place) → only_directory T r ≡ Ok here → (r ≡ Ok here) × (is_directory T here.id ≡ true)
only T (Err fault) here e = cc
only T (Ok found) here e =
    let both = in_directory (is_directory T found.id) (Ok found) here e in
    let same : found ≡ here = cc in (ap Ok same, ap (λ (p : Place). is_directory T p.id) (sym same) ∙ both.0)

pub holder-from_walk : (T : Tree) (path : Route) (here : Place) → IsTree T → walk_to_parent T path ≡ Ok here → (id_at T (parent path) ≡ Some here.id) × (is_directory T here.id ≡ true)
holder-from_walk T path here t e = let both = only T (walk T (parent path)) here e in (id_at-from_walk T (parent path) here t both.0, both.1)

-- ---- a path that is there is walked without a fault

some_same : (x y : ℕ) → Some x ≡ Some y → x ≡ y
some_same x y e = cc

some_of : (o : Option ℕ) → is_some o ≡ true → (k : ℕ) × (o ≡ Some k)
some_of None e = cc
some_of (Some k) e = (k, refl)

-- from a directory that is there, to what is there below it
walk_there : (T : Tree) (t : IsTree T) (front names : Route) (i j : ℕ) → id_at T front ≡ Some i → id_at T (front ++ names) ≡ Some j
    → walk_on T (Ok (record { path = front; id = i })) names ≡ Ok (record { path = front ++ names; id = j })
walk_there T t front [] i j at_front e =
    let same = some_same i j (sym at_front ∙ ap (id_at T) (sym (append-nil front)) ∙ e) in
    λ k. Ok (record { path = sym (append-nil front) k; id = same k })
walk_there T t front (name ∷ names) i j at_front e =
    let next = front ++ name ∷ [] in
    let joined = append_assoc front (name ∷ []) names in
    let child = some_of (id_at T next) (there-front T t names next (ap is_some (ap (id_at T) joined ∙ e))) in
    let up = above T t next child.0 child.1 (not_root-below front name []) in
    let same = some_same up.0 i (sym up.1 ∙ ap (id_at T) (parent-below front name) ∙ at_front) in
    let dir = ap (is_directory T) (sym same) ∙ up.2 in
    ap (λ b. walk_on T (cond b (place_at next (id_at T next)) (Err NotDir)) names) dir
    ∙ ap (λ o. walk_on T (place_at next o) names) child.1
    ∙ walk_there T t next names child.0 j child.1 (ap (id_at T) joined ∙ e)
    ∙ ap (λ p. Ok (record { path = p; id = j })) joined
