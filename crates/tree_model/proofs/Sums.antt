-- Sums over the directories of a tree and over the entries of a room.
use Rattle.std.proofs.Common.{◌≡◌, ℕ, ◌+◌, ◌-◌, ◌≤◌, ◌==◌, ◌&&◌, Bool, true, false, cond, T, List, [], ◌∷◌, map, sum_by, Option, Some, None, unwrap_or, refl, sym, ap, subst, ◌∙◌, arith, nat_cmp, is_lt}
use Rattle.std.proofs.lemmas.List.Sums.{sum_by-cons, sum_by-le-sum_by}
use Rattle.std.specs.Ordering.{eq_by_cmp}
use Rattle.std.specs.Cmp.{nat_cmp_total}
use Rattle.std.specs.List.{filter_map}
use Rattle.std.specs.FinMap.Entries.{find, below_all, is_sorted}
use Rattle.std.proofs.lemmas.Bool.Decides.{nat_tests}
use Rattle.tree_model.specs.Table.{table_of}
use Rattle.tree_model.specs.Tree.{Tree, Node, Directory, File, Room, pages_in, is_number}
use Rattle.tree_model.specs.Step.{directory_of, directories, gaining, losing, page_for_name, pages_after, room_after, tree_after}
use Rattle.tree_model.specs.declared.command.Command.{Command}
use Rattle.tree_model.proofs.EntryLaws.{front, back, sum_by-put}
use Rattle.tree_model.proofs.TreeLaws.{same_id, same_id_itself}

abbrev pub room_total : List (ℕ × ℕ) → ℕ
room_total es = sum_by (λ e. e.1) es

-- a table has at most what its entries have
pub room_total-table_of : (es : List (ℕ × ℕ)) → room_total (table_of nat_cmp_total es).entries ≤ room_total es
room_total-table_of [] = omega arith
room_total-table_of (e ∷ es) =
    let rest = room_total-table_of es in
    let one = sum_by-put nat_cmp nat_cmp_total (λ x. x) e.0 e.1 (table_of nat_cmp_total es).entries (table_of nat_cmp_total es).sorted in
    let all = sum_by-cons (λ (e : ℕ × ℕ). e.1) e es in
    omega (arith, rest, one, all)

pub room_total-map : (f : ℕ → ℕ) (ds : List ℕ) → room_total (map (λ d. (d, f d)) ds) ≡ sum_by f ds
room_total-map f [] = refl
room_total-map f (d ∷ ds) =
    let rest = room_total-map f ds in
    let one = sum_by-cons (λ (e : ℕ × ℕ). e.1) (d, f d) (map (λ d. (d, f d)) ds) in
    let all = sum_by-cons f d ds in
    omega (arith, rest, one, all)

pub sum_by-plus : (f g : ℕ → ℕ) (ds : List ℕ) → sum_by (λ d. f d + g d) ds ≡ sum_by f ds + sum_by g ds
sum_by-plus f g [] = omega arith
sum_by-plus f g (d ∷ ds) =
    let rest = sum_by-plus f g ds in
    let one = sum_by-cons (λ d. f d + g d) d ds in
    let left = sum_by-cons f d ds in
    let right = sum_by-cons g d ds in
    omega (arith, rest, one, left, right)

pub sum_by-nothing : (ds : List ℕ) → sum_by (λ d. 0) ds ≡ 0
sum_by-nothing [] = refl
sum_by-nothing (d ∷ ds) = let rest = sum_by-nothing ds in let one = sum_by-cons (λ d. 0) d ds in omega (arith, rest, one)

-- v at one directory, and nothing elsewhere
abbrev pub only_at : ℕ → ℕ → ℕ → ℕ
only_at r v d = cond (eq_by_cmp nat_cmp d r) v 0

only_at-above : (r v : ℕ) (es : List (ℕ × Node)) → T (below_all nat_cmp r es) → sum_by (only_at r v) (filter_map directory_of es) ≡ 0
only_at-above r v [] h = refl
only_at-above r v ((k, Directory) ∷ es) h =
    let rest = only_at-above r v es (back _ _ h) in
    let other : only_at r v k ≡ 0 = ap (λ b. cond b v 0) (differs r k (front _ _ h)) in
    let one = sum_by-cons (only_at r v) k (filter_map directory_of es) in
    omega (arith, rest, other, one)
  where
    differs : (r k : ℕ) → T (is_lt (nat_cmp r k)) → eq_by_cmp nat_cmp k r ≡ false
    differs r k h = grind (arith, nat_tests)
only_at-above r v ((k, File bytes) ∷ es) h = only_at-above r v es (back _ _ h)

-- one directory is counted once at most
pub only_at-le : (r v : ℕ) (es : List (ℕ × Node)) → T (is_sorted nat_cmp es) → sum_by (only_at r v) (filter_map directory_of es) ≤ v
only_at-le r v [] h = omega arith
only_at-le r v ((k, Directory) ∷ es) h =
    let one = sum_by-cons (only_at r v) k (filter_map directory_of es) in
    elim (eq_by_cmp nat_cmp k r) as (λ t. eq_by_cmp nat_cmp k r ≡ t → sum_by (only_at r v) (k ∷ filter_map directory_of es) ≤ v) [
      | true ↦ λ is.
          let key = same_id k r is in
          let rest = only_at-above r v es (subst (λ x. T (below_all nat_cmp x es)) key (front _ _ h)) in
          let here : only_at r v k ≡ v = ap (λ b. cond b v 0) is in
          omega (arith, one, rest, here)
      | false ↦ λ is.
          let rest = only_at-le r v es (back _ _ h) in
          let here : only_at r v k ≡ 0 = ap (λ b. cond b v 0) is in
          omega (arith, one, rest, here)
    ] refl
only_at-le r v ((k, File bytes) ∷ es) h = only_at-le r v es (back _ _ h)

abbrev pub found_or_none : List (ℕ × ℕ) → ℕ → ℕ
found_or_none rs d = unwrap_or (find nat_cmp d rs) 0

found_first : (r v d : ℕ) (rs : List (ℕ × ℕ)) → found_or_none ((r, v) ∷ rs) d ≤ only_at r v d + found_or_none rs d
found_first r v d rs =
    elim (eq_by_cmp nat_cmp d r) as (λ t. unwrap_or (cond t (Some v) (find nat_cmp d rs)) 0 ≤ cond t v 0 + found_or_none rs d) [
      | true ↦ let here : v ≤ v + found_or_none rs d = omega arith in here
      | false ↦ let here : found_or_none rs d ≤ 0 + found_or_none rs d = omega arith in here
    ]

-- the directories of a tree have no more pages than the room has
pub found-le-room : (es : List (ℕ × Node)) (rs : List (ℕ × ℕ)) → T (is_sorted nat_cmp es) → sum_by (found_or_none rs) (filter_map directory_of es) ≤ room_total rs
found-le-room es [] h = let none = sum_by-nothing (filter_map directory_of es) in omega (arith, none)
found-le-room es (r ∷ rs) h =
    let ds = filter_map directory_of es in
    let rest = found-le-room es rs h in
    let one = only_at-le r.0 r.1 es h in
    let each = sum_by-le-sum_by (found_or_none (r ∷ rs)) (λ d. only_at r.0 r.1 d + found_or_none rs d) ds (λ d. found_first r.0 r.1 d rs) in
    let parts = sum_by-plus (only_at r.0 r.1) (found_or_none rs) ds in
    let all = sum_by-cons (λ (e : ℕ × ℕ). e.1) r rs in
    omega (arith, rest, one, each, parts, all)

-- what a directory gains at most
abbrev pub gained_at : Option ℕ → ℕ → ℕ → ℕ
gained_at None w d = 0
gained_at (Some g) w d = only_at g w d

gained-le : (o : Option ℕ) (w : ℕ) (es : List (ℕ × Node)) → T (is_sorted nat_cmp es) → sum_by (gained_at o w) (filter_map directory_of es) ≤ w
gained-le None w es h = let none = sum_by-nothing (filter_map directory_of es) in omega (arith, none)
gained-le (Some g) w es h = only_at-le g w es h

gained_page : (T' : Tree) (room : Room) (o : Option ℕ) (d : ℕ) → cond (is_number o d) (page_for_name T' room (Some d)) 0 ≤ gained_at o (page_for_name T' room o) d
gained_page T' room None d = omega arith
gained_page T' room (Some g) d =
    elim (g == d) as (λ t. g == d ≡ t → cond t (page_for_name T' room (Some d)) 0 ≤ only_at g (page_for_name T' room (Some g)) d) [
      | true ↦ λ is.
          let same : d ≡ g = grind (arith, nat_tests) in
          let here : only_at g (page_for_name T' room (Some g)) d ≡ page_for_name T' room (Some g) = ap (λ b. cond b (page_for_name T' room (Some g)) 0) (ap (eq_by_cmp nat_cmp d) (sym same) ∙ same_id_itself d) in
          let page = ap (λ x. page_for_name T' room (Some x)) same in
          omega (arith, here, page)
      | false ↦ λ is. omega arith
    ] refl

given_back : (b : Bool) (n : ℕ) → cond b (n - 1) n ≤ n
given_back true n = omega arith
given_back false n = omega arith

pages_after-le : (T' : Tree) (room : Room) (c : Command) (gives : Bool) (d : ℕ)
    → pages_after T' room c gives d ≤ found_or_none room.entries d + gained_at (gaining T' c) (page_for_name T' room (gaining T' c)) d
pages_after-le T' room c gives d =
    let gained = gained_page T' room (gaining T' c) d in
    let back = given_back (is_number (losing T' c) d && gives) (pages_in room d + cond (is_number (gaining T' c) d) (page_for_name T' room (Some d)) 0) in
    omega (arith, gained, back)

-- a room has at most the page more that a new name needs
pub room_total-room_after : (id : ℕ) (T' : Tree) (room : Room) (c : Command) (gives : Bool)
    → room_total (room_after id T' room c gives).entries ≤ room_total room.entries + page_for_name T' room (gaining T' c)
room_total-room_after id T' room c gives =
    let after = tree_after id T' c in
    let ds = directories after in
    let f : ℕ → ℕ = pages_after T' room c gives in
    let old : ℕ → ℕ = found_or_none room.entries in
    let more : ℕ → ℕ = gained_at (gaining T' c) (page_for_name T' room (gaining T' c)) in
    let made = room_total-table_of (map (λ d. (d, f d)) ds) in
    let same = room_total-map f ds in
    let each = sum_by-le-sum_by f (λ d. old d + more d) ds (pages_after-le T' room c gives) in
    let parts = sum_by-plus old more ds in
    let kept = found-le-room after.nodes.entries room.entries after.nodes.sorted in
    let grown = gained-le (gaining T' c) (page_for_name T' room (gaining T' c)) after.nodes.entries after.nodes.sorted in
    omega (arith, made, same, each, parts, kept, grown)
