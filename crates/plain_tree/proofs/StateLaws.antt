-- The state after an accepted command: what a rename needs, and which of two rooms stands.
use Rattle.std.proofs.Common.{◌≡◌, ℕ, inl, inr, Bool, true, false, cond, Option, None, is_some, sym, ap, ◌∙◌, true≢false}
use Rattle.tree_model.specs.PathText.{Route}
use Rattle.tree_model.specs.Tree.{Tree, Room, IsTree, id_at, rest_after, room_fits}
use Rattle.tree_model.specs.Capacity.{Supply}
use Rattle.tree_model.specs.Step.{refusal_with, is_same_node, without_path, tree_after, room_after, least_free_id, gaining, losing, page_for_name}
use Rattle.tree_model.specs.Run.{State, plain_state}
use Rattle.plain_tree.specs.Entries.{room_moved}
use Rattle.tree_model.specs.declared.command.Command.{Command}
use Rattle.tree_model.specs.declared.command.Command.TheVariants.{Rename}
use Rattle.tree_model.proofs.AcceptedLaws.{Accepted-from_row}
use Rattle.tree_model.proofs.TreeLess.{HasNoNames, HasNoNames-absent, HasNoNames-empty}
use Rattle.tree_model.proofs.TreeMoved.{clear}
use Rattle.plain_tree.proofs.RoomLaws.{room_after-moved}

-- no path begins with the new path of an accepted rename once that path is gone
pub clear-accepted : (supply : Supply) (T : Tree) (room : Room) (from to : Route) → IsTree T → refusal_with supply T room (Rename from to) ≡ None → is_same_node T from to ≡ false
    → (p : Route) → is_some (id_at (without_path T to) p) ≡ true → rest_after to p ≡ None
clear-accepted supply T room from to t e differ =
    let may = Accepted-from_row supply T room (Rename from to) t e in
    let holder = may.new_holder in
    elim may.moves [
      | inl same ↦ absurd (true≢false (sym same ∙ differ))
      | inr move ↦
          let empty : HasNoNames T to = elim move.target [
            | inl name ↦ HasNoNames-absent T t to name.absent
            | inr other ↦ HasNoNames-empty T to other.target.id other.target.named other.empty
          ] in
          clear T t from to holder.directory may.old_holder.below holder.below holder.held holder.holds empty move.outside
    ]

module _ (volume : ℕ) (old : State) (c : Command) (new : Tree) (new_is : new ≡ tree_after (least_free_id old.tree) old.tree c) where
  pub room_moved-after : (gain lose : Option ℕ) (page : ℕ) (gives : Bool) (room : Room) → gain ≡ gaining old.tree c → lose ≡ losing old.tree c → page ≡ page_for_name old.tree old.room (gaining old.tree c)
      → room ≡ room_moved old.room gain lose page gives new → room ≡ room_after (least_free_id old.tree) old.tree old.room c gives
  room_moved-after gain lose page gives room gain_is lose_is page_is is =
      is
      ∙ ap (λ o. room_moved old.room o lose page gives new) gain_is
      ∙ ap (λ o. room_moved old.room (gaining old.tree c) o page gives new) lose_is
      ∙ ap (λ n. room_moved old.room (gaining old.tree c) (losing old.tree c) n gives new) page_is
      ∙ ap (λ T. room_moved old.room (gaining old.tree c) (losing old.tree c) (page_for_name old.tree old.room (gaining old.tree c)) gives T) new_is
      ∙ room_after-moved (least_free_id old.tree) old.tree old.room c gives

  module _ (kept : Room) (kept_is : kept ≡ room_after (least_free_id old.tree) old.tree old.room c false) where
    fits_after : (b : Bool) → room_fits new kept ≡ b
        → room_fits (tree_after (least_free_id old.tree) old.tree c) (room_after (least_free_id old.tree) old.tree old.room c false) ≡ b
    fits_after b fits =
        ap (λ T. room_fits T (room_after (least_free_id old.tree) old.tree old.room c false)) (sym new_is) ∙ ap (room_fits new) (sym kept_is) ∙ fits

    -- the room that keeps its pages stands where it fits, and else the one that gives a page back
    pub plain_state-kept : room_fits new kept ≡ true → record { tree = new; room = kept } ≡ plain_state true volume old c
    plain_state-kept fits =
        let given = room_after (least_free_id old.tree) old.tree old.room c true in
        let chosen = kept_is ∙ sym (ap (λ b. cond b (room_after (least_free_id old.tree) old.tree old.room c false) given) (fits_after true fits)) in
        λ i. record { tree = new_is i; room = chosen i }

    pub plain_state-given : (given : Room) → given ≡ room_after (least_free_id old.tree) old.tree old.room c true → room_fits new kept ≡ false
        → record { tree = new; room = given } ≡ plain_state true volume old c
    plain_state-given given given_is fits =
        let gave = room_after (least_free_id old.tree) old.tree old.room c true in
        let chosen = given_is ∙ sym (ap (λ b. cond b (room_after (least_free_id old.tree) old.tree old.room c false) gave) (fits_after false fits)) in
        λ i. record { tree = new_is i; room = chosen i }
