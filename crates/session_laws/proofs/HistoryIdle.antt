-- A change that has nothing to do enters the history, and leaves it.
use Rattle.std.proofs.Common.{◌≡◌, inl, inr, ℕ, true, List, Option, Some, None, is_some, refl, sym, ap, subst, ◌∙◌, arith}
use Rattle.std.specs.List.{Contains}
use Rattle.tree_model.specs.Capacity.{Supply}
use Rattle.tree_model.specs.Tree.{Tree, Node, IsTree, node_at, is_file_node}
use Rattle.tree_model.specs.Run.{State, IsVolumeState}
use Rattle.tree_model.specs.declared.command.Command.{Command}
use Rattle.tree_model.proofs.TreeLaws.{not_true}
use Rattle.naming_laws.specs.Naming.{names_inode}
use Rattle.naming_laws.proofs.Edits.{leaves_by}
use Rattle.image_reading.specs.Counts.{IsIn}
use Rattle.image_reading.specs.Residue.{no_residue}
use Rattle.image_counts.specs.Laws.{supply_beside}
use Rattle.mixing_laws.specs.Mixed.{Range, files_of}
use Rattle.mixing_laws.proofs.Alike.{AreAlike, alike_mixed, tree_alike}
use Rattle.mixing_laws.proofs.Finds.{with_names, finds_alike_law}
use Rattle.mixing_laws.proofs.Ranges.{range_or_not, file_of, none_mixed_law}
use Rattle.waiting_laws.proofs.BeginsIdle.{idle_law}
use Rattle.running_laws.specs.Steps.{IsAfter}
use Rattle.session_laws.specs.Calls.{left_of_all, ranges_of_all}
use Rattle.session_laws.specs.Histories.{IsHistory, EntersHistory, IdleEntersLaw}
use Rattle.session_laws.proofs.HistoryAlike.{apart, free_enters}
use Rattle.session_laws.proofs.HistoryApart.{volume_state}

file_there : (o : Option Node) → is_file_node o ≡ true → is_some o ≡ true
file_there None file = cc
file_there (Some node) file = refl

history_tree : (T U : Tree) → U.names ≡ T.names → AreAlike T U → IsTree U → IsTree T
history_tree T U names alike tree = with_names (λ (W : Tree). AreAlike T W → IsTree W → IsTree T) T U names (λ alike tree. tree_alike T U.nodes alike tree) alike tree

-- Two histories of the same words are the same, where the one is carried out in the other and its command names no file of a range.
module _ (volume : ℕ) (supply : Supply) (ranges : List Range) (history entered words : State) (command : Command) (valid : IsVolumeState volume words)
    (apart_from : (i : ℕ) → names_inode words.tree command i ≡ true → ¬ IsIn i (files_of ranges)) (was : IsHistory ranges history words) (now : IsHistory ranges entered words)
    (new : EntersHistory supply history entered command 0) where
  kept : (range : Range) → Contains ranges range → node_at entered.tree range.file ≡ node_at history.tree range.file
  kept range held =
      let T = history.tree in
      let tree = history_tree T words.tree was.tree.names (alike_mixed ranges T words.tree was.tree) valid.tree in
      let finds = finds_alike_law supply words.room command ranges T words.tree was.tree in
      let unnamed = sym (finds.named range.file) ∙ not_true (names_inode words.tree command range.file) (λ names. apart_from range.file names (file_of ranges range held)) in
      ap (λ (W : Tree). node_at W range.file) new.after.tree
      ∙ (leaves_by T tree 0 new.unused supply history.room command new.accepted).nodes range.file (file_there (node_at T range.file) (was.tree.files range held).file) unnamed

  same_nodes : (i : ℕ) → node_at entered.tree i ≡ node_at history.tree i
  same_nodes i = elim (range_or_not ranges i) [
    | inl h ↦ let (range, held, is) = h in subst (λ x. node_at entered.tree x ≡ node_at history.tree x) is (kept range held)
    | inr none ↦ sym (now.tree.others i none) ∙ was.tree.others i none
  ]

  same_trees : entered.tree ≡ history.tree
  same_trees = (none_mixed_law history.tree entered.tree).0 (record {
    names = sym now.tree.names ∙ was.tree.names;
    others = λ i none. same_nodes i;
    files = λ range (k, below, is). absurd (omega arith);
  })

  pub same_histories : entered ≡ history
  same_histories = let tree = same_trees in let room = sym now.room ∙ was.room in λ k. record { tree = tree k; room = room k }

pub idle_enters_law : IdleEntersLaw
idle_enters_law volume device words history calls command action named wait ready changing none names free is =
    let supply = supply_beside volume.size (left_of_all volume calls) in
    let accepted = ready.ready.planned.accepted in
    let (same, room) = idle_law volume device words command action 0 (left_of_all volume calls) ready.ready changing none in
    let after : IsAfter words words command 0 = record { tree = sym same; room = room } in
    let (entered, new, now) = free_enters volume device supply words history calls command named wait is names free accepted words after in
    subst (λ (state : State). EntersHistory supply history state command 0)
    (same_histories volume.size supply (ranges_of_all calls) history entered words command (volume_state volume device words no_residue calls wait)
    (apart volume device supply words history calls command named wait is names free accepted) is now new) new
