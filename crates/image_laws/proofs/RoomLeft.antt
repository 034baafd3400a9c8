-- The room after a name went: without the entry of what is gone, and with a page less of the directory where one is given back.
use Rattle.std.proofs.Common.{◌≡◌, ◌≢◌, inl, inr, ℕ, ◌-◌, Bool, true, false, cond, ◌&&◌, List, Option, Some, None, unwrap_or, refl, sym, ap, subst, ◌∙◌}
use Rattle.std.proofs.lemmas.Bool.{cases_eq}
use Rattle.tree_model.specs.Table.{get, remove}
use Rattle.tree_model.specs.Tree.{Tree, Room, is_directory, is_number, pages_in}
use Rattle.tree_model.proofs.TreeLaws.{same_room}
use Rattle.tree_model.proofs.TreeKept.{none_some}
use Rattle.image_reading.specs.Reading.{Reads, HasRoom}
use Rattle.image_reading.specs.Soundness.{IsCoherent}
use Rattle.image_counts.proofs.Decided.{room_counted}
use Rattle.image_laws.specs.Remove.{without_page}
use Rattle.image_laws.proofs.AddRoom.{get-here, get-other}
use Rattle.image_laws.proofs.RemoveRoom.{get-gone, get-left}
use Rattle.image_laws.proofs.RoomAfter.{clash, is_same, not_same}
use Rattle.image_laws.proofs.Trees.{directory_is, is_directory-reached}

-- the pages of directory x, of n, where d may give one back
unfoldable pub lost : ℕ → Bool → ℕ → ℕ → ℕ
lost d gives n x = cond (is_number (Some d) x && gives) (n - 1) n

pub lost_none : (d n x : ℕ) → lost d false n x ≡ n
unfolding lost
lost_none d n x = never (is_number (Some d) x)
  where
    never : (b : Bool) → cond (b && false) (n - 1) n ≡ n
    never true = refl
    never false = refl

-- the directories of a tree have these pages
abbrev pub HasPages : Tree → (ℕ → ℕ) → Room → Type 0
HasPages T pages room = (x : ℕ) → is_directory T x ≡ true → get room x ≡ Some (pages x)

pub pages_left : (T : Tree) (pages : ℕ → ℕ) (room : Room) (d : ℕ) → HasPages T pages room → is_directory T d ≡ true → HasPages T (λ x. lost d true (pages x) x) (without_page room d)
unfolding lost
pages_left T pages room d has holds x dir = elim (cases_eq d x) [
  | inl e ↦ subst (λ z. get (without_page room d) z ≡ Some (lost d true (pages z) z)) e
      (get-here room d (pages_in room d - 1) ∙ ap (λ o. Some (unwrap_or o 0 - 1)) (has d holds) ∙ ap Some (sym (ap (λ b. cond (b && true) (pages d - 1) (pages d)) (is_same d))))
  | inr ne ↦ get-other room d (pages_in room d - 1) x (λ z. ne (sym z)) ∙ has x dir ∙ ap Some (sym (ap (λ b. cond (b && true) (pages x - 1) (pages x)) (not_same d x ne)))
]

-- A room that has these pages is without entry i the room after, where K reads as the tree after, with a room without that entry.
module _ (P : ℕ) (K : List ℕ) (T : Tree) (room after : Room) (pages : ℕ → ℕ) (i : ℕ) (coherent : IsCoherent P K) (reads : Reads P K T) (has : HasRoom P K (remove room i))
    (after_at : (x : ℕ) → get after x ≡ cond (is_directory T x) (Some (pages x)) None) (each : HasPages T pages room) where
  other : (x : ℕ) → is_directory T x ≡ true → x ≢ i
  other x dir e =
      let (r, two) = directory_is P K T coherent reads x dir in
      let (n, count) = room_counted P K x r two in
      none_some n (sym (ap (get (remove room i)) e ∙ get-gone room i) ∙ (has x n).1 (r, two, count))

  none : (x : ℕ) (o : Option ℕ) → get (remove room i) x ≡ o → is_directory T x ≡ false → o ≡ None
  none x None e dir = refl
  none x (Some n) e dir = let (r, two, count) = (has x n).0 e in absurd (clash (sym (is_directory-reached P K T coherent reads x r two) ∙ dir))

  at : (x : ℕ) (b : Bool) → is_directory T x ≡ b → get (remove room i) x ≡ cond b (Some (pages x)) None
  at x true dir = get-left room i x (other x dir) ∙ each x dir
  at x false dir = none x (get (remove room i) x) refl dir

  pub room_left : remove room i ≡ after
  room_left = same_room (remove room i) after (λ x. at x (is_directory T x) refl ∙ sym (after_at x))
