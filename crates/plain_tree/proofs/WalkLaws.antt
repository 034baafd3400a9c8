-- A walk, one name further.
use Rattle.std.proofs.Common.{◌≡◌, ℕ, suc, zero, ◌+◌, ◌<◌, ◌≤◌, true, false, cond, [], ◌∷◌, ◌++◌, length, take, drop, get_or, Option, Result, Ok, Err, refl, sym, ap, ◌∙◌, arith}
use Rattle.std.proofs.Math.Seq.{take-suc}
use Rattle.std.proofs.lemmas.List.{take-append-drop}
use Rattle.tree_model.specs.PathText.{Route}
use Rattle.tree_model.specs.Tree.{Tree, id_at, is_directory}
use Rattle.tree_model.specs.Walk.{Place, root_place, place_at, walk, walk_on, step_into}
use Rattle.tree_model.specs.declared.reply.Refusal.{Refusal}
use Rattle.tree_model.specs.declared.reply.Refusal.TheVariants.{NotDir}

walk_on-append : (T : Tree) (r : Result Place Refusal) (xs ys : Route) → walk_on T r (xs ++ ys) ≡ walk_on T (walk_on T r xs) ys
walk_on-append T r [] ys = refl
walk_on-append T r (x ∷ xs) ys = walk_on-append T (step_into T r x) xs ys

walk_on-fault : (T : Tree) (fault : Refusal) (names : Route) → walk_on T (Err fault) names ≡ Err fault
walk_on-fault T fault [] = refl
walk_on-fault T fault (name ∷ names) = walk_on-fault T fault names

take-take : (k count : ℕ) (p : Route) → k ≤ count → take k (take count p) ≡ take k p
take-take zero count p within = refl
take-take (suc k) zero p within = let no : ⊥ = omega arith in absurd no
take-take (suc k) (suc count) [] within = refl
take-take (suc k) (suc count) (x ∷ p) within = ap (λ q. x ∷ q) (take-take k count p (omega arith))

-- a fault stays
pub walk-fault : (T : Tree) (path : Route) (k count : ℕ) (fault : Refusal) → k ≤ count → walk T (take k path) ≡ Err fault → walk T (take count path) ≡ Err fault
walk-fault T path k count fault within failed =
    let parts : take k path ++ drop k (take count path) ≡ take count path =
    ap (λ q. q ++ drop k (take count path)) (sym (take-take k count path within)) ∙ take-append-drop k (take count path) in
    ap (walk T) (sym parts) ∙ walk_on-append T (Ok root_place) (take k path) (drop k (take count path))
    ∙ ap (λ r. walk_on T r (drop k (take count path))) failed ∙ walk_on-fault T fault (drop k (take count path))

module _ (T : Tree) (path : Route) (k id : ℕ) (low : k < length path) (here : walk T (take k path) ≡ Ok (record { path = take k path; id = id })) where
  next : Route
  next = take k path ++ get_or path k [] ∷ []

  is_next : take (k + 1) path ≡ next
  unfolding next
  is_next = let one : k + 1 ≡ suc k = omega arith in ap (λ n. take n path) one ∙ take-suc path k [] low

  further : walk T (take (k + 1) path) ≡ cond (is_directory T id) (place_at (take (k + 1) path) (id_at T (take (k + 1) path))) (Err NotDir)
  unfolding next
  further = ap (walk T) is_next ∙ walk_on-append T (Ok root_place) (take k path) (get_or path k [] ∷ [])
      ∙ ap (λ r. step_into T r (get_or path k [])) here
      ∙ ap (λ q. cond (is_directory T id) (place_at q (id_at T q)) (Err NotDir)) (sym is_next)

  pub walk-next : (o : Option ℕ) → is_directory T id ≡ true → id_at T (take (k + 1) path) ≡ o → walk T (take (k + 1) path) ≡ place_at (take (k + 1) path) o
  walk-next o directory there = further ∙ ap (λ t. cond t (place_at (take (k + 1) path) (id_at T (take (k + 1) path))) (Err NotDir)) directory
      ∙ ap (place_at (take (k + 1) path)) there

  pub walk-file : is_directory T id ≡ false → walk T (take (k + 1) path) ≡ Err NotDir
  walk-file file = further ∙ ap (λ t. cond t (place_at (take (k + 1) path) (id_at T (take (k + 1) path))) (Err NotDir)) file
