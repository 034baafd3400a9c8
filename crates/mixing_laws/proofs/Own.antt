-- The write of a range, and a truncation, leave nothing of the range mixed.
use Rattle.std.proofs.Common.{◌≡◌, ℕ, ◌+◌, ◌<◌, ◌≤◌, inl, inr, false, cond, ◌==◌, List, ◌∷◌, length, Some, unwrap_or, refl, sym, ap, subst, ◌∙◌, arith, nat_cmp}
use Rattle.std.proofs.lemmas.Bool.{cases_eq}
use Rattle.std.proofs.lemmas.Bool.Decides.{nat_tests}
use Rattle.tree_model.specs.PathText.{Route}
use Rattle.tree_model.specs.Table.{Table}
use Rattle.tree_model.specs.Tree.{Tree, Node, Room, root_id, id_at, node_at, bytes_of}
use Rattle.tree_model.specs.Capacity.{Supply}
use Rattle.tree_model.specs.Step.{id_of, with_bytes, overwritten, resized, answer_of, tree_after}
use Rattle.tree_model.specs.declared.command.Command.{Command}
use Rattle.tree_model.proofs.TreeLaws.{node_at-with_bytes_here, node_at-with_bytes_other}
use Rattle.image_reading.specs.Counts.{IsIn}
use Rattle.mixing_laws.specs.Mixed.{Range, files_of, IsMixedFile, IsMixed, IsOfRange, write, truncate, DoesAlike, OwnRangeLaw}
use Rattle.mixing_laws.proofs.Mixes.{mix_outside, overwritten-mix}
use Rattle.mixing_laws.proofs.Alike.{alike_mixed}
use Rattle.mixing_laws.proofs.Ranges.{first_here, later, other_file, mixed_file}
use Rattle.mixing_laws.proofs.Finds.{with_names}
use Rattle.mixing_laws.proofs.Does.{same_room_after}

not_empty : (n : ℕ) → 0 < n → n == 0 ≡ false
not_empty n some = grind (arith, nat_tests)

module _ (T : Tree) (nodes : Table nat_cmp Node) (supply : Supply) (id : ℕ) (range : Range) (ranges : List Range) (room : Room) (path : Route)
    (named : id_at T path ≡ Some range.file) (none : ¬ IsIn range.file (files_of ranges)) (m : IsMixed (range ∷ ranges) T (record { names = T.names; nodes = nodes })) where
  abbrev V : Tree
  V = record { names = T.names; nodes = nodes }

  own_file : IsMixedFile range T V
  own_file = m.files range (first_here range ranges)

  -- the same bytes for the file end the mix
  settled : (bytes : List ℕ) → IsMixed ranges (with_bytes T range.file bytes) (with_bytes V range.file bytes)
  settled bytes = record {
    names = refl;
    others = λ i apart. elim (cases_eq i range.file) [
      | inl e ↦ ap (node_at (with_bytes V range.file bytes)) e ∙ node_at-with_bytes_here V range.file bytes
          ∙ sym (ap (node_at (with_bytes T range.file bytes)) e ∙ node_at-with_bytes_here T range.file bytes)
      | inr ne ↦ node_at-with_bytes_other V range.file bytes i ne ∙ m.others i (λ h. elim h [ inl e ↦ ne e | inr g ↦ apart g ])
          ∙ sym (node_at-with_bytes_other T range.file bytes i ne)
    ];
    files = λ other held.
        let differ = other_file ranges range.file none other held in
        mixed_file other T V (with_bytes T range.file bytes) (with_bytes V range.file bytes) (node_at-with_bytes_other T range.file bytes other.file differ)
        (node_at-with_bytes_other V range.file bytes other.file differ) (m.files other (later range other ranges held));
  }

  file_at : id_of T path ≡ range.file
  file_at = ap (λ o. unwrap_or o root_id) named

  -- bytes that are made alike of the file's
  settled_by : (f : List ℕ → List ℕ) → f (bytes_of V range.file) ≡ f (bytes_of T range.file)
      → IsMixed ranges (with_bytes T (id_of T path) (f (bytes_of T (id_of T path)))) (with_bytes V (id_of T path) (f (bytes_of V (id_of T path))))
  settled_by f same =
      subst (λ i. IsMixed ranges (with_bytes T i (f (bytes_of T i))) (with_bytes V i (f (bytes_of V i)))) (sym file_at)
      (subst (λ bytes. IsMixed ranges (with_bytes T range.file (f (bytes_of T range.file))) (with_bytes V range.file bytes)) (sym same) (settled (f (bytes_of T range.file))))

  own_tree : (c : Command) → IsOfRange range path c → IsMixed ranges (tree_after id T c) (tree_after id V c)
  own_tree c (write some) =
      subst (λ b. IsMixed ranges (cond b T (with_bytes T (id_of T path) (overwritten (bytes_of T (id_of T path)) range.offset range.bytes)))
      (cond b V (with_bytes V (id_of T path) (overwritten (bytes_of V (id_of T path)) range.offset range.bytes)))) (sym (not_empty (length range.bytes) some))
      (settled_by (λ old. overwritten old range.offset range.bytes) (overwritten-mix range.offset range.bytes (bytes_of T range.file) (bytes_of V range.file) own_file.bytes))
  own_tree c (truncate size empty) =
      let same = mix_outside range.offset range.bytes 0 (bytes_of T range.file) (bytes_of V range.file) outside own_file.bytes in
      settled_by (λ old. resized old size) (ap (λ old. resized old size) same)
    where
      outside : (j : ℕ) → 0 ≤ j → range.offset ≤ j → j < range.offset + length range.bytes → ⊥
      outside j above least below = let n = ap length empty in omega (arith, least, below, n)

  own_answer : (c : Command) → IsOfRange range path c → answer_of supply V room c ≡ answer_of supply T room c
  own_answer c (write some) = refl
  own_answer c (truncate size empty) = refl

  own_range : (c : Command) → IsOfRange range path c → DoesAlike supply id room c T V ranges
  own_range c of = record {
    answer = own_answer c of;
    tree = own_tree c of;
    room_same = same_room_after T nodes id room c (alike_mixed ranges (tree_after id T c) (tree_after id V c) (own_tree c of));
  }

pub own_range_law : OwnRangeLaw
own_range_law volume supply id range ranges T U room path c w of named none m =
    with_names (λ (W : Tree). id_at W path ≡ Some range.file → IsMixed (range ∷ ranges) T W → DoesAlike supply id room c T W ranges) T U m.names
    (λ named m. own_range T U.nodes supply id range ranges room path named none m c of) named m
