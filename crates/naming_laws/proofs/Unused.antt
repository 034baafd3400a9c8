-- An id that no node has, and that wasn't given, no node has afterwards.
use Rattle.std.proofs.Common.{◌≡◌, ◌≢◌, ℕ, Bool, true, false, cond, ◌==◌, List, length, Option, Some, None, is_some, refl, sym, ap, ◌∙◌, true≢false}
use Rattle.std.specs.List.{list_any}
use Rattle.tree_model.specs.PathText.{Route}
use Rattle.tree_model.specs.Tree.{Tree, Node, Room, node_at, bytes_of}
use Rattle.tree_model.specs.Capacity.{Supply}
use Rattle.tree_model.specs.Step.{id_of, is_same_node, with_bytes, with_moved, without_path, without_unnamed, overwritten, resized, tree_after}
use Rattle.tree_model.specs.Accepted.{IsFileAt, Accepted}
use Rattle.tree_model.specs.declared.command.Command.{Command}
use Rattle.tree_model.specs.declared.command.Command.TheVariants.{Create, Mkdir, Link, Unlink, Rmdir, Rename, Write, Truncate, Read, Stat as Tell, List as Show, Df}
use Rattle.tree_model.proofs.AcceptedLaws.{Accepted-from_row}
use Rattle.tree_model.proofs.TreeLaws.{node_at-with_new_other, node_at-with_bytes_other}
use Rattle.naming_laws.specs.Still.{UnusedLaw}
use Rattle.naming_laws.proofs.Edits.{kept_at}

module _ (T : Tree) (free : ℕ) (none : node_at T free ≡ None) where
  -- no node comes where those without a path go
  none_pruned : (W : Tree) → node_at W free ≡ None → node_at (without_unnamed W) free ≡ None
  none_pruned W e = kept_at W free ∙ ap (λ o. cond (list_any (λ e. e.1 == free) W.names.entries) o None) e ∙ either (list_any (λ e. e.1 == free) W.names.entries)
    where
      either : (b : Bool) → cond {A = Option Node} b None None ≡ None
      either true = refl
      either false = refl

  -- a file's id is a node's
  none_written : (path : Route) (bytes : List ℕ) → IsFileAt T path → node_at (with_bytes T (id_of T path) bytes) free ≡ None
  none_written path bytes source = node_at-with_bytes_other T (id_of T path) bytes free (λ same. missing (sym none ∙ ap (node_at T) (same ∙ source.is) ∙ source.file)) ∙ none
    where
      missing : {n : Node} → ◌≡◌ {A = Option Node} None (Some n) → ⊥
      missing e = true≢false (sym (ap is_some e))

  none_chosen : (b : Bool) (U : Tree) → node_at U free ≡ None → node_at (cond b T U) free ≡ None
  none_chosen true U e = none
  none_chosen false U e = e

  pub none_after : (supply : Supply) (room : Room) (id : ℕ) (c : Command) → Accepted supply T room c → free ≢ id → node_at (tree_after id T c) free ≡ None
  none_after supply room id (Create path) a other = node_at-with_new_other T path id _ free other ∙ none
  none_after supply room id (Mkdir path) a other = node_at-with_new_other T path id _ free other ∙ none
  none_after supply room id (Link from to) a other = none
  none_after supply room id (Unlink path) a other = none_pruned (without_path T path) none
  none_after supply room id (Rmdir path) a other = none_pruned (without_path T path) none
  none_after supply room id (Rename from to) a other =
      none_chosen (is_same_node T from to) (without_unnamed (with_moved (without_path T to) from to)) (none_pruned (with_moved (without_path T to) from to) none)
  none_after supply room id (Write path offset bytes) a other =
      let new = overwritten (bytes_of T (id_of T path)) offset bytes in
      none_chosen (length bytes == 0) (with_bytes T (id_of T path) new) (none_written path new a.source)
  none_after supply room id (Truncate path size) a other = none_written path (resized (bytes_of T (id_of T path)) size) a.source
  none_after supply room id (Read path offset count) a other = none
  none_after supply room id (Tell path) a other = none
  none_after supply room id (Show path) a other = none
  none_after supply room id Df a other = none

pub unused_law : UnusedLaw
unused_law volume supply id old new other v enters free none differ =
    ap (λ (T : Tree). node_at T free) enters.tree
    ∙ none_after old.tree free none supply old.room id other (Accepted-from_row supply old.tree old.room other v.tree enters.accepted) differ
