-- An accepted command that is carried out in the words is carried out in their history too.
use Rattle.std.proofs.Common.{◌≡◌, ℕ, List, None, refl, sym, subst, ◌∙◌}
use Rattle.tree_model.specs.Tree.{Tree, Room, IsRoom, node_at, name_count}
use Rattle.tree_model.specs.Capacity.{Supply}
use Rattle.tree_model.specs.Step.{refusal_with, tree_after, RoomAfterWith}
use Rattle.tree_model.specs.Run.{State}
use Rattle.tree_model.specs.declared.command.Command.{Command}
use Rattle.tree_model.proofs.RoomLaws.{IsPageCount, directory-from_room, IsPageCount-from_room, room-has_directory, IsRoom-from}
use Rattle.mixing_laws.specs.Mixed.{Range, IsMixed, DoesAlike}
use Rattle.mixing_laws.proofs.Alike.{AreAlike, alike_mixed, unused_alike}
use Rattle.mixing_laws.proofs.Finds.{finds_alike_law}
use Rattle.running_laws.specs.Steps.{IsAfter}
use Rattle.session_laws.specs.Histories.{IsHistory, EntersHistory}

-- ---- a room for trees of the same names and kinds

module _ (T U : Tree) (room : Room) (names : U.names ≡ T.names) (alike : AreAlike T U) where
  same_count : (d : ℕ) → name_count U d ≡ name_count T d
  same_count d = λ k. name_count (record { names = names k; nodes = T.nodes }) d

  same_room : IsRoom U room → IsRoom T room
  same_room fits = IsRoom-from T room
      (λ d pages at. (
        sym (alike d).directory ∙ directory-from_room U room fits d pages at,
        subst (λ n. IsPageCount n pages) (same_count d) (IsPageCount-from_room U room fits d pages at),
      ))
      (λ d directory. room-has_directory U room fits d ((alike d).directory ∙ directory))

-- ---- the command enters the history

abbrev pub Enters : Supply → List Range → State → State → Command → ℕ → Type 0
Enters supply ranges history later command id = (entered : State) × EntersHistory supply history entered command id × IsHistory ranges entered later

-- of these ranges some may be mixed before alone
pub enters : (supply : Supply) (all ranges : List Range) (history words later : State) (command : Command) (id : ℕ) → IsHistory all history words
    → refusal_with supply words.tree words.room command ≡ None → node_at words.tree id ≡ None → DoesAlike supply id words.room command history.tree words.tree ranges
    → IsAfter words later command id → Enters supply ranges history later command id
enters supply all ranges history words later command id is accepted unused does after = (
  record { tree = tree_after id history.tree command; room = later.room },
  record {
    accepted = subst (λ (room : Room). refusal_with supply history.tree room command ≡ None) is.room
        (sym (finds_alike_law supply words.room command all history.tree words.tree is.tree).refusal ∙ accepted);
    unused = unused_alike history.tree words.tree (alike_mixed all history.tree words.tree is.tree) id unused;
    after = record { tree = refl; room = subst (λ (room : Room). RoomAfterWith None id history.tree room command later.room) is.room room };
  },
  record { tree = subst (IsMixed ranges (tree_after id history.tree command)) (sym after.tree) does.tree; room = refl },
)
  where
    room : RoomAfterWith None id history.tree words.room command later.room
    room = let (gives, same, fits) = after.room in (
      gives,
      same ∙ does.room_same gives,
      same_room (tree_after id history.tree command) (tree_after id words.tree command) later.room does.tree.names
          (alike_mixed ranges (tree_after id history.tree command) (tree_after id words.tree command) does.tree) fits,
    )
