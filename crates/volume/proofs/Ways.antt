-- How far a walk has come, and where it ends.
use Rattle.std.proofs.Common.{◌≡◌, ℕ, Bool, true, false, cond, List, [], ◌∷◌, ◌++◌, Option, Some, None, Result, Ok, Err, refl, sym, ap, ◌∙◌, append_assoc}
use Rattle.std.proofs.lemmas.List.{append-nil}
use Rattle.tree_model.specs.PathText.{Route}
use Rattle.tree_model.specs.Tree.{Tree, IsTree, root_id, id_at, is_directory, is_root, parent, last_name}
use Rattle.tree_model.specs.Walk.{Place, root_place, place_at, walk, walk_on, walk_to_parent, step_into, only_directory}
use Rattle.tree_model.specs.declared.reply.Refusal.{Refusal}
use Rattle.tree_model.specs.declared.reply.Refusal.TheVariants.{NotDir}

-- The walk along the path stands at an inode, with these names left.
pub record IsOnWay (T : Tree) (path names : Route) (here : ℕ) : Type 0 where
  pub front : Route
  pub named : id_at T front ≡ Some here
  pub left : walk T path ≡ walk_on T (Ok (record { path = front; id = here })) names
  pub whole : front ++ names ≡ path

pub way_starts : (T : Tree) (path : Route) → IsTree T → IsOnWay T path path root_id
way_starts T path tree = record { front = []; named = tree.root; left = refl; whole = refl }

placed : (path : Route) (o : Option ℕ) (id : ℕ) → place_at path o ≡ Ok (record { path = path; id = id }) → o ≡ Some id
placed path None id e = cc
placed path (Some other) id e =
    let same : record { path = path; id = other } ≡ record { path = path; id = id } = cc in ap (λ (p : Place). Some p.id) same

entered : (t : Bool) (x : Result Place Refusal) (here : Place) → cond t x (Err NotDir) ≡ Ok here → x ≡ Ok here
entered true x here e = e
entered false x here e = cc

pub way_goes_on : (T : Tree) (path names : Route) (name : List ℕ) (here next : ℕ) (way : IsOnWay T path (name ∷ names) here)
    → step_into T (Ok (record { path = way.front; id = here })) name ≡ Ok (record { path = way.front ++ name ∷ []; id = next }) → IsOnWay T path names next
way_goes_on T path names name here next way step = record {
  front = way.front ++ name ∷ [];
  named = placed (way.front ++ name ∷ []) (id_at T (way.front ++ name ∷ [])) next (entered (is_directory T here) _ _ step);
  left = way.left ∙ ap (λ r. walk_on T r names) step;
  whole = append_assoc way.front (name ∷ []) names ∙ way.whole;
}

-- no name is left: the walk ends here
pub way_ends : (T : Tree) (path : Route) (here : ℕ) → IsOnWay T path [] here → walk T path ≡ Ok (record { path = path; id = here })
way_ends T path here way = way.left ∙ ap (λ (p : Route). Ok (record { path = p; id = here })) (sym (append-nil way.front) ∙ way.whole)

-- from a file no name leads further
pub step_fails : (T : Tree) (path : Route) (here : ℕ) (name : List ℕ) → is_directory T here ≡ false → step_into T (Ok (record { path = path; id = here })) name ≡ Err NotDir
step_fails T path here name file = ap (λ t. cond t (place_at (path ++ name ∷ []) (id_at T (path ++ name ∷ []))) (Err NotDir)) file

walk_on-fault : (T : Tree) (fault : Refusal) (names : Route) → walk_on T (Err fault) names ≡ Err fault
walk_on-fault T fault [] = refl
walk_on-fault T fault (name ∷ names) = walk_on-fault T fault names

pub way_fails : (T : Tree) (path names : Route) (name : List ℕ) (here : ℕ) (fault : Refusal) (way : IsOnWay T path (name ∷ names) here)
    → step_into T (Ok (record { path = way.front; id = here })) name ≡ Err fault → walk T path ≡ Err fault
way_fails T path names name here fault way step = way.left ∙ ap (λ r. walk_on T r names) step ∙ walk_on-fault T fault names

-- ---- to the directory for the last name

pub parent_fails : (T : Tree) (path : Route) (fault : Refusal) → walk T (parent path) ≡ Err fault → walk_to_parent T path ≡ Err fault
parent_fails T path fault e = ap (only_directory T) e

pub file_holds_none : (T : Tree) (path : Route) (here : ℕ) → walk T (parent path) ≡ Ok (record { path = parent path; id = here }) → is_directory T here ≡ false → walk_to_parent T path ≡ Err NotDir
file_holds_none T path here walked file = ap (only_directory T) walked ∙ ap (λ t. cond t (Ok (record { path = parent path; id = here })) (Err NotDir)) file

pub directory_holds : (T : Tree) (path : Route) (here : ℕ) → walk T (parent path) ≡ Ok (record { path = parent path; id = here }) → is_directory T here ≡ true
    → walk_to_parent T path ≡ Ok (record { path = parent path; id = here })
directory_holds T path here walked directory = ap (only_directory T) walked ∙ ap (λ t. cond t (Ok (record { path = parent path; id = here })) (Err NotDir)) directory

-- the root has no parent but itself
pub root_holds : (T : Tree) → IsTree T → walk_to_parent T [] ≡ Ok root_place
root_holds T tree = ap (λ directory. cond directory (Ok root_place) (Err NotDir)) tree.root_directory

-- ---- from there to the last name

pub whole_path : (path : Route) → is_root path ≡ false → path ≡ parent path ++ last_name path ∷ []
whole_path [] below = cc
whole_path (name ∷ []) below = refl
whole_path (name ∷ next ∷ names) below = ap (λ rest. name ∷ rest) (whole_path (next ∷ names) refl)

walk_on-append : (T : Tree) (reached : Result Place Refusal) (front names : Route) → walk_on T reached (front ++ names) ≡ walk_on T (walk_on T reached front) names
walk_on-append T reached [] names = refl
walk_on-append T reached (name ∷ front) names = walk_on-append T (step_into T reached name) front names

pub walk_last : (T : Tree) (path : Route) → is_root path ≡ false → walk T path ≡ step_into T (walk T (parent path)) (last_name path)
walk_last T path below = ap (walk T) (whole_path path below) ∙ walk_on-append T (Ok root_place) (parent path) (last_name path ∷ [])

-- a place that is wanted for the last name is walked to
only_there : (T : Tree) (reached : Result Place Refusal) (here : Place) → only_directory T reached ≡ Ok here → reached ≡ Ok here
only_there T (Err fault) here e = cc
only_there T (Ok found) here e = entered (is_directory T found.id) (Ok found) here e

pub parent_walked : (T : Tree) (path : Route) (here : Place) → walk_to_parent T path ≡ Ok here → walk T (parent path) ≡ Ok here
parent_walked T path here e = only_there T (walk T (parent path)) here e

-- and where there is none, the name isn't there
no_directory : (directory : Bool) (here : Place) (next : Result Place Refusal) (fault : Refusal) → cond directory (Ok here) (Err NotDir) ≡ Err fault → cond directory next (Err NotDir) ≡ Err fault
no_directory true here next fault e = cc
no_directory false here next fault e = e

none_below : (T : Tree) (reached : Result Place Refusal) (name : List ℕ) (fault : Refusal) → only_directory T reached ≡ Err fault → step_into T reached name ≡ Err fault
none_below T (Err found) name fault e = e
none_below T (Ok here) name fault e = no_directory (is_directory T here.id) here _ fault e

pub walk_fails : (T : Tree) (path : Route) (fault : Refusal) → IsTree T → walk_to_parent T path ≡ Err fault → walk T path ≡ Err fault
walk_fails T [] fault tree e = let both : Ok root_place ≡ Err fault = sym (root_holds T tree) ∙ e in cc
walk_fails T (name ∷ names) fault tree e = walk_last T (name ∷ names) refl ∙ none_below T (walk T (parent (name ∷ names))) (last_name (name ∷ names)) fault e
