-- Bytes that are stored before their write is committed are of one file: other nodes stay.
use Rattle.std.proofs.Common.{◌≡◌, ◌≢◌, ℕ, ◌+◌, true, false, cond, List, length, count_by, Option, Some, None, refl, ap, subst, ◌∙◌}
use Rattle.tree_model.specs.Tree.{Tree, Node, Directory, File, Room, id_at, node_at, is_directory, is_directory_node, is_file, is_file_node, entries_in, path_count, pages_in}
use Rattle.tree_model.specs.Step.{with_bytes}
use Rattle.tree_model.specs.Run.{State}
use Rattle.tree_model.proofs.NodeLaws.{no_directory}
use Rattle.tree_model.proofs.TreeLaws.{node_at-with_bytes_other}
use Rattle.naming_laws.specs.Still.{KeepsNode}
use Rattle.naming_laws.proofs.Edits.{same_kind}
use Rattle.image_reading.specs.Counts.{IsIn}
use Rattle.waiting_laws.specs.Beside.{KeepsNodes}
use Rattle.waiting_laws.specs.Growing.{TearsFile}

-- a file gets other bytes
module _ (old new : State) (i : ℕ) (bytes : List ℕ) (file : is_directory old.tree i ≡ false) (tree : new.tree ≡ with_bytes old.tree i bytes) (room : new.room ≡ old.room) where
  kinds : (id : ℕ) → is_directory (with_bytes old.tree i bytes) id ≡ is_directory old.tree id
  kinds = same_kind old.tree i bytes file

  kept_node : (id : ℕ) → id ≢ i → KeepsNode id old new
  kept_node id other = record {
    node = ap (λ (T : Tree). node_at T id) tree ∙ node_at-with_bytes_other old.tree i bytes id other;
    names = ap (λ (T : Tree). length (entries_in T id)) tree;
    links = ap (λ (T : Tree). cond (is_directory T id) (2 + count_by (λ e. is_directory T e.1) (entries_in T id)) (path_count T id)) tree
        ∙ (λ k. cond (kinds id k) (2 + count_by (λ e. kinds e.1 k) (entries_in old.tree id)) (path_count old.tree id));
    paths = ap (λ (T : Tree). path_count T id) tree;
    pages = ap (λ (r : Room). pages_in r id) room;
  }

  kept_nodes : (inodes : List ℕ) → ¬ IsIn i inodes → KeepsNodes inodes old new
  kept_nodes inodes apart = record {
    nodes = λ id among. kept_node id (λ same. apart (subst (λ x. IsIn x inodes) same among));
    paths = λ path id among is. ap (λ (T : Tree). id_at T path) tree ∙ is;
    names = λ path id among is. ap (λ (T : Tree). id_at T path) tree;
  }

pub torn_keeps : (P : ℕ) (I J : List ℕ) (old new : State) (i offset : ℕ) (bytes inodes : List ℕ) → is_file old.tree i ≡ true → TearsFile P I J old new i offset bytes → ¬ IsIn i inodes → KeepsNodes inodes old new
torn_keeps P I J old new i offset bytes inodes file tears apart = kept_nodes old new i _ (no_directory (node_at old.tree i) file) tears.tree tears.room inodes apart
