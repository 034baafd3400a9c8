-- A command takes as many fences in two trees that differ in bytes alone; and where it takes at most one, they don't hang on what it leaves.
use Rattle.std.proofs.Common.{◌≡◌, ℕ, ◌+◌, ◌*◌, ◌≤◌, Bool, true, false, if◌then◌else◌, ◌&&◌, ◌||◌, ◌==◌, nat_lt, nat_le, List, length, Option, None, Some, is_none, refl, ap, ◌∙◌, arith, nat_cmp}
use Rattle.layout.specs.Geometry.{pieces}
use Rattle.tree_model.specs.PathText.{Route}
use Rattle.tree_model.specs.Table.{Table}
use Rattle.tree_model.specs.Tree.{Tree, Node, Room, node_at, id_at, bytes_of, page_bytes}
use Rattle.tree_model.specs.Step.{id_of, is_same_node, losing, need}
use Rattle.tree_model.specs.Run.{State}
use Rattle.tree_model.specs.Fences.{fences_of_accepted, fences_for_loss, fences_for_name, gave, gave_from, gone, is_gone, one_where, size_before}
use Rattle.tree_model.specs.declared.command.Command.{Command}
use Rattle.tree_model.specs.declared.command.Command.TheVariants.{Create, Mkdir, Link, Unlink, Rmdir, Rename, Write, Truncate, Read, Stat as Tell, List as Show, Df}
use Rattle.mixing_laws.specs.Mixed.{Range}
use Rattle.mixing_laws.proofs.Alike.{IsAlikeNode, AreAlike, alike_mixed}
use Rattle.mixing_laws.proofs.Finds.{same_need, with_names}
use Rattle.session_laws.specs.Histories.{IsHistory}

none_there : (now was : Option Node) → IsAlikeNode now was → is_none now ≡ is_none was
none_there None None alike = refl
none_there None (Some node) alike = let there = alike.there in cc
none_there (Some node) None alike = let there = alike.there in cc
none_there (Some node) (Some other) alike = refl

gone_alike : (X Y : Tree) (room : Room) → AreAlike X Y → (o : Option ℕ) → is_gone o (record { tree = Y; room = room }) ≡ is_gone o (record { tree = X; room = room })
gone_alike X Y room alike None = refl
gone_alike X Y room alike (Some id) = none_there (node_at Y id) (node_at X id) (alike id)

-- X and Y are what it leaves, with the same room
module _ (T : Tree) (nodes : Table nat_cmp Node) (alike : AreAlike T (record { names = T.names; nodes = nodes })) (before : Room) (X Y : Tree) (after : Room)
    (behind : AreAlike X Y) where
  abbrev one : State
  one = record { tree = T; room = before }

  abbrev other : State
  other = record { tree = record { names = T.names; nodes = nodes }; room = before }

  abbrev one_left : State
  one_left = record { tree = X; room = after }

  abbrev other_left : State
  other_left = record { tree = Y; room = after }

  same_gone : (path : Route) → gone other path other_left ≡ gone one path one_left
  same_gone path = gone_alike X Y after behind (id_at T path)

  same_loss : (command : Command) (path : Route) → gave other command other_left ≡ gave one command one_left
      → fences_for_loss other command path other_left ≡ fences_for_loss one command path one_left
  same_loss command path given =
      let gone = same_gone path in
      let size = (alike (id_of T path)).size in
      λ k. one_where (given k || (gone k && nat_lt 0 (pieces (size k) page_bytes))) + one_where (given k || gone k)

  move_given : (from to : Route) (loses : Option ℕ) → gave_from other (Rename from to) loses other_left ≡ gave_from one (Rename from to) loses one_left
  move_given from to None = refl
  move_given from to (Some directory) = refl

  -- a file gets a greater size
  same_growth : (command : Command) → need other.tree before command ≡ need one.tree before command
      → ◌≡◌ {A = ℕ} (if nat_lt 0 (need other.tree before command) then 3 else 2) (if nat_lt 0 (need one.tree before command) then 3 else 2)
  same_growth command same = ap (λ (n : ℕ). if nat_lt 0 n then 3 else 2) same

  same_fences : (command : Command) → fences_of_accepted other command other_left ≡ fences_of_accepted one command one_left
  same_fences (Create path) = refl
  same_fences (Mkdir path) = refl
  same_fences (Link from to) = refl
  same_fences (Unlink path) = ap (λ (n : ℕ). 2 + n) (same_loss (Unlink path) path refl)
  same_fences (Rmdir path) = refl
  same_fences (Rename from to) =
      ap (λ (n : ℕ). if is_same_node T from to then 0 else 4 + 2 * fences_for_name one (Rename from to) + n) (same_loss (Rename from to) to (move_given from to (losing T (Rename from to))))
  same_fences (Write path offset bytes) =
      let size = (alike (id_of T path)).size in
      let growth = same_growth (Write path offset bytes) (same_need T nodes alike before (Write path offset bytes)) in
      λ k. if length bytes == 0 then 0 else if nat_le (offset + length bytes) (size k) then 1 else growth k
  same_fences (Truncate path new) =
      let size = (alike (id_of T path)).size in
      let growth = same_growth (Truncate path new) (same_need T nodes alike before (Truncate path new)) in
      λ k. if new == size k then 0 else if nat_lt (size k) new then growth k else if nat_lt (pieces new page_bytes) (pieces (size k) page_bytes) then 3 else 1
  same_fences (Read path offset count) = refl
  same_fences (Tell path) = refl
  same_fences (Show path) = refl
  same_fences Df = refl

-- in the words as in their history
pub fences_alike : (ranges behind : List Range) (history words entered later : State) (command : Command) → IsHistory ranges history words → IsHistory behind entered later
    → fences_of_accepted words command later ≡ fences_of_accepted history command entered
fences_alike ranges behind history words entered later command is now =
    let after = alike_mixed behind entered.tree later.tree now.tree in
    ap (λ (room : Room). fences_of_accepted words command (record { tree = later.tree; room = room })) now.room
    ∙ ap (λ (room : Room). fences_of_accepted (record { tree = words.tree; room = room }) command (record { tree = later.tree; room = entered.room })) is.room
    ∙ with_names (λ (W : Tree). AreAlike history.tree W
    → fences_of_accepted (record { tree = W; room = history.room }) command (record { tree = later.tree; room = entered.room }) ≡ fences_of_accepted history command entered)
    history.tree words.tree is.tree.names (λ alike. same_fences history.tree words.tree.nodes alike history.room entered.tree later.tree entered.room after command)
    (alike_mixed ranges history.tree words.tree is.tree)

-- a file is as long
pub size_alike : (ranges : List Range) (history words : State) (path : Route) → IsHistory ranges history words → size_before words path ≡ size_before history path
size_alike ranges history words path is =
    with_names (λ (W : Tree). AreAlike history.tree W → length (bytes_of W (id_of W path)) ≡ size_before history path) history.tree words.tree is.tree.names
    (λ alike. (alike (id_of history.tree path)).size) (alike_mixed ranges history.tree words.tree is.tree)

-- ---- at most one

too_many : {X : Type 0} (m n : ℕ) → n ≤ 1 → 2 + m ≡ n → X
too_many m n few is = absurd (omega (arith, few, is))

few_moved : (same : Bool) (m k n : ℕ) → 2 ≤ m → n ≤ 1 → (if same then 0 else m) ≡ n → (if same then 0 else k) ≡ n
few_moved true m k n more few is = is
few_moved false m k n more few is = absurd (omega (arith, more, few, is))

pub few_fences : (old entered later : State) (command : Command) (n : ℕ) → n ≤ 1 → fences_of_accepted old command entered ≡ n → fences_of_accepted old command later ≡ n
few_fences old entered later (Create path) n few is = is
few_fences old entered later (Mkdir path) n few is = is
few_fences old entered later (Link from to) n few is = is
few_fences old entered later (Unlink path) n few is = too_many (fences_for_loss old (Unlink path) path entered) n few is
few_fences old entered later (Rmdir path) n few is = absurd (let more : 3 + one_where (gave old (Rmdir path) entered) ≡ n = is in omega (arith, few, more))
few_fences old entered later (Rename from to) n few is =
    few_moved (is_same_node old.tree from to) (4 + 2 * fences_for_name old (Rename from to) + fences_for_loss old (Rename from to) to entered)
    (4 + 2 * fences_for_name old (Rename from to) + fences_for_loss old (Rename from to) to later) n (omega arith) few is
few_fences old entered later (Write path offset bytes) n few is = is
few_fences old entered later (Truncate path size) n few is = is
few_fences old entered later (Read path offset count) n few is = is
few_fences old entered later (Tell path) n few is = is
few_fences old entered later (Show path) n few is = is
few_fences old entered later Df n few is = is
