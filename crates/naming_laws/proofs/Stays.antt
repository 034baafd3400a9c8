-- What an accepted command leaves of the ids that it doesn't name.
use Rattle.std.proofs.Common.{◌≡◌, ◌≢◌, ℕ, ◌+◌, ◌-◌, true, false, cond, ◌&&◌, length, count_by, Option, Some, None, is_some, unwrap_or, add-zero, refl, sym, ap, subst, ◌∙◌, true≢false}
use Rattle.tree_model.specs.Table.{get}
use Rattle.tree_model.specs.Tree.{Tree, Room, IsTree, IsRoom, node_at, is_directory, is_directory_node, is_number, entries_in, path_count, link_count, pages_in}
use Rattle.tree_model.specs.Capacity.{Supply}
use Rattle.tree_model.specs.Step.{refusal_with, outcome_of, losing, page_for_name, pages_after, tree_after, RoomAfterWith}
use Rattle.tree_model.specs.declared.command.Command.{Command}
use Rattle.tree_model.proofs.AcceptedLaws.{Accepted-from_row}
use Rattle.tree_model.proofs.RoomLaws.{get-room_after, directory-from_room}
use Rattle.tree_model.proofs.StepLaws.{IsTree-step_with}
use Rattle.tree_model.proofs.TreeLaws.{name_count-not_directory}
use Rattle.naming_laws.specs.Naming.{names_inode}
use Rattle.naming_laws.specs.Still.{KeepsNode, KeepsOthers, UntouchedLaw}
use Rattle.naming_laws.proofs.Named.{neither_changes}
use Rattle.naming_laws.proofs.Edits.{Leaves, leaves_by}
use Rattle.naming_laws.proofs.Entries.{no_path, same_entries, same_links}
use Rattle.naming_laws.proofs.Unused.{none_after}

-- ---- what is no directory

no_pages : (T : Tree) (room : Room) → IsRoom T room → (i : ℕ) → is_directory T i ≡ false → pages_in room i ≡ 0
no_pages T room fits i file = at (get room i) refl
  where
    at : (o : Option ℕ) → get room i ≡ o → unwrap_or o 0 ≡ 0
    at None is = refl
    at (Some k) is = absurd (true≢false (sym (directory-from_room T room fits i k is) ∙ file))

file_links : (T : Tree) (i : ℕ) → is_directory T i ≡ false → link_count T i ≡ path_count T i
file_links T i file = ap (λ b. cond b (2 + count_by (λ e. is_directory T e.1) (entries_in T i)) (path_count T i)) file

-- ---- one command

pub tree_stays : (supply : Supply) (T : Tree) (room : Room) (id : ℕ) (c : Command) → IsTree T → refusal_with supply T room c ≡ None → node_at T id ≡ None → IsTree (tree_after id T c)
tree_stays supply T room id c t accepted unused = subst (λ o. IsTree (outcome_of o supply id T room c).tree) accepted (IsTree-step_with supply id T room c unused t)

module _ (supply : Supply) (T : Tree) (room new : Room) (id : ℕ) (c : Command) (t : IsTree T) (fits : IsRoom T room) (accepted : refusal_with supply T room c ≡ None)
    (unused : node_at T id ≡ None) (after : RoomAfterWith None id T room c new) where
  abbrev U : Tree
  U = tree_after id T c

  u : IsTree U
  u = tree_stays supply T room id c t accepted unused

  leaves : Leaves T U c
  leaves = leaves_by T t id unused supply room c accepted

  module _ (i : ℕ) (apart : names_inode T c i ≡ false) (node : node_at U i ≡ node_at T i) (paths : path_count U i ≡ path_count T i) where
    kind : is_directory U i ≡ is_directory T i
    kind = ap is_directory_node node

    pages_stay : is_directory T i ≡ true → pages_in new i ≡ pages_in room i
    pages_stay dir =
        let neither = neither_changes T t supply room c accepted i apart in
        let page = page_for_name T room (Some i) in
        ap (λ r. pages_in r i) after.1 ∙ ap (λ o. unwrap_or o 0) (get-room_after id T room c after.0 i)
        ∙ ap (λ b. unwrap_or (cond b (Some (pages_after T room c after.0 i)) None) 0) (kind ∙ dir)
        ∙ ap (λ b. cond (is_number (losing T c) i && after.0) (pages_in room i + cond b page 0 - 1) (pages_in room i + cond b page 0)) neither.0
        ∙ ap (λ b. cond (b && after.0) (pages_in room i + 0 - 1) (pages_in room i + 0)) neither.1 ∙ add-zero (pages_in room i)

    keeps_by : KeepsNode i (record { tree = T; room = room }) (record { tree = U; room = new })
    keeps_by =
        elim (is_directory T i) as (λ b. is_directory T i ≡ b → KeepsNode i (record { tree = T; room = room }) (record { tree = U; room = new })) [
          | true ↦ λ dir. record {
            node = node;
            names = ap length (same_entries T U t u c leaves i dir apart);
            links = same_links T U t u c leaves i dir apart;
            paths = paths;
            pages = pages_stay dir;
          }
          | false ↦ λ file. record {
            node = node;
            names = name_count-not_directory U i u (kind ∙ file) ∙ sym (name_count-not_directory T i t file);
            links = file_links U i (kind ∙ file) ∙ paths ∙ sym (file_links T i file);
            paths = paths;
            pages = no_pages U new after.2 i (kind ∙ file) ∙ sym (no_pages T room fits i file);
          }
        ] refl

  keeps_node : (i : ℕ) → names_inode T c i ≡ false → (i ≢ id) → KeepsNode i (record { tree = T; room = room }) (record { tree = U; room = new })
  keeps_node i apart other =
      elim (node_at T i) as (λ o. node_at T i ≡ o → KeepsNode i (record { tree = T; room = room }) (record { tree = U; room = new })) [
        | None ↦ λ none.
            let none_then = none_after T i none supply room id c (Accepted-from_row supply T room c t accepted) other in
            keeps_by i apart (none_then ∙ sym none) (no_path U u i none_then ∙ sym (no_path T t i none))
        | Some n ↦ λ is. keeps_by i apart (leaves.nodes i (ap is_some is) apart) (leaves.paths i (ap is_some is) apart)
      ] refl

  keeps_others : KeepsOthers id (record { tree = T; room = room }) (record { tree = U; room = new }) c
  keeps_others = record { nodes = keeps_node; paths = leaves.ids; names = leaves.held }

-- ---- the states

pub untouched_law : UntouchedLaw
untouched_law volume supply id old new other v enters =
    subst (λ (T : Tree). KeepsOthers id old (record { tree = T; room = new.room }) other) (sym enters.tree)
    (keeps_others supply old.tree old.room new.room id other v.tree v.room enters.accepted enters.unused enters.room)
