-- The tree and the room after a write and a truncation to more are the step's.
use Rattle.std.proofs.Common.{◌≡◌, inl, inr, ℕ, ◌+◌, ◌<◌, ◌≤◌, Bool, true, false, cond, ◌==◌, List, [], length, Some, None, unwrap_or, refl, sym, ap, subst, ◌∙◌, arith}
use Rattle.std.proofs.lemmas.Bool.{cases_eq, cases_lt}
use Rattle.std.proofs.lemmas.Bool.Decides.{nat_tests}
use Rattle.std.proofs.lemmas.List.{ext_get_or}
use Rattle.tree_model.specs.PathText.{Route}
use Rattle.tree_model.specs.Run.{State}
use Rattle.tree_model.specs.Step.{with_bytes, overwritten, resized, tree_after, gaining, losing, id_of}
use Rattle.tree_model.specs.Tree.{Tree, File, IsRoom, root_id, id_at, node_at, is_directory, is_directory_node, bytes_of, bytes_of_node}
use Rattle.tree_model.specs.declared.command.Command.{Command}
use Rattle.tree_model.specs.declared.command.Command.TheVariants.{Write, Truncate}
use Rattle.tree_model.proofs.RoomLaws.{room_after-same}
use Rattle.tree_model.proofs.TreeLaws.{node_at-with_bytes_here, node_at-with_bytes_other}
use Rattle.image_reading.specs.Reading.{HasBytes, Reached, Reads, HasRoom, ReadsAs}
use Rattle.image_reading.specs.Soundness.{IsCoherent}
use Rattle.image_counts.proofs.Nodes.{file_node}
use Rattle.image_counts.proofs.States.{is_room}
use Rattle.image_laws.specs.CreateStep.{IsStepped}
use Rattle.content_laws.specs.Range.{IsBeside}
use Rattle.content_laws.specs.Growth.{sized}
use Rattle.content_laws.specs.Steps.{InsideStepLaw, WritePastStepLaw, LengthenStepLaw}
use Rattle.content_laws.proofs.Bytes.{length-overwritten, length-resized, resized_at, overwritten-beside}
use Rattle.content_laws.proofs.Growth.{growth_law}
use Rattle.content_laws.proofs.Inside.{inside_law}
use Rattle.content_laws.proofs.Torn.{content_of}

-- a file of other bytes is no directory
same_directories : (T : Tree) (i : ℕ) (bytes : List ℕ) → is_directory T i ≡ false → (x : ℕ) → is_directory (with_bytes T i bytes) x ≡ is_directory T x
same_directories T i bytes file x = elim (cases_eq x i) [
  | inl e ↦ subst (λ y. is_directory (with_bytes T i bytes) y ≡ is_directory T y) (sym e) (ap is_directory_node (node_at-with_bytes_here T i bytes) ∙ sym file)
  | inr ne ↦ ap is_directory_node (node_at-with_bytes_other T i bytes x ne)
]

-- where a command makes only a file's bytes others
module _ (P : ℕ) (W K : List ℕ) (old : State) (c : Command) (i n : ℕ) (bytes : List ℕ) (before : IsCoherent P W) (after : IsCoherent P K)
    (reached : Reached P W i) (file : HasBytes W i) (reads : ReadsAs P W old)
    (tree : Reads P K (with_bytes old.tree i bytes)) (room : HasRoom P K old.room)
    (is : with_bytes old.tree i bytes ≡ tree_after n old.tree c) (gains : gaining old.tree c ≡ None) (loses : losing old.tree c ≡ None) where
  no_directory : is_directory old.tree i ≡ false
  no_directory = ap is_directory_node (file_node P W old.tree before reads.tree i reached file).1

  pub stepped : IsStepped P K old c n
  stepped = record {
    new = record { tree = with_bytes old.tree i bytes; room = old.room };
    reads = record { tree = tree; room = room };
    tree = is;
    room = (
      false,
      sym (room_after-same n old.tree old.room c false (is_room P W old.tree before reads.tree old.room reads.room) gains loses
          (λ x. ap (λ T. is_directory T x) (sym is) ∙ same_directories old.tree i bytes no_directory x)),
      subst (λ T. IsRoom T old.room) is (is_room P K (with_bytes old.tree i bytes) after tree old.room room),
    );
  }

not_none : (n : ℕ) → 0 < n → (n == 0) ≡ false
not_none n lt = differs (n == 0) refl
  where
    differs : (b : Bool) → (n == 0) ≡ b → (n == 0) ≡ false
    differs true e = absurd (let zero : n ≡ 0 = grind (arith, nat_tests) in omega (arith, zero, lt))
    differs false e = e

pub written_tree : (T : Tree) (path : Route) (i offset n : ℕ) (bytes : List ℕ) → 0 < length bytes → id_at T path ≡ Some i
    → with_bytes T i (overwritten (bytes_of T i) offset bytes) ≡ tree_after n T (Write path offset bytes)
written_tree T path i offset n bytes some at =
    let e : i ≡ id_of T path = sym (ap (λ o. unwrap_or o root_id) at) in
    ap (λ x. with_bytes T x (overwritten (bytes_of T x) offset bytes)) e
    ∙ sym (ap (λ b. cond b T (with_bytes T (id_of T path) (overwritten (bytes_of T (id_of T path)) offset bytes))) (not_none (length bytes) some))

pub resized_tree : (T : Tree) (path : Route) (i z n : ℕ) → id_at T path ≡ Some i → with_bytes T i (resized (bytes_of T i) z) ≡ tree_after n T (Truncate path z)
resized_tree T path i z n at = ap (λ x. with_bytes T x (resized (bytes_of T x) z)) (sym (ap (λ o. unwrap_or o root_id) at))

pub inside_step_law : InsideStepLaw
inside_step_law P W J old path i offset n bytes can h some at reads =
    let law = inside_law P W J i offset bytes can h in
    stepped P W J old (Write path offset bytes) i n (overwritten (bytes_of old.tree i) offset bytes) can.tidy.coherent law.tidy.coherent can.reached can.file reads
    (law.reads old.tree reads.tree) (law.room old.room reads.room) (written_tree old.tree path i offset n bytes some at) refl refl

-- the range ends at the new size
whole_write : (old : List ℕ) (offset : ℕ) (bytes : List ℕ) → length old ≤ offset + length bytes → resized (overwritten old offset bytes) (offset + length bytes) ≡ overwritten old offset bytes
whole_write old offset bytes le =
    let long = length-overwritten old offset bytes in
    let cut = length-resized (overwritten old offset bytes) (offset + length bytes) in
    ext_get_or 0 (resized (overwritten old offset bytes) (offset + length bytes)) (overwritten old offset bytes) (omega (arith, long, cut, le))
    (λ o lt. resized_at (overwritten old offset bytes) (offset + length bytes) o (omega (arith, lt, cut)))

pub write_past_step_law : WritePastStepLaw
write_past_step_law P W A B old path i offset n bytes pages can fills takes some at reads =
    let z = offset + length bytes in
    let law = growth_law P W A B i z offset bytes pages can fills takes in
    let long = (content_of P W old.tree i can.tidy.coherent reads.tree can.reached can.file).size in
    let more = can.larger in
    let same = whole_write (bytes_of old.tree i) offset bytes (omega (arith, long, more)) in
    stepped P W (sized B i z) old (Write path offset bytes) i n (overwritten (bytes_of old.tree i) offset bytes) can.tidy.coherent law.tidy.coherent can.reached can.file reads
    (subst (λ b. Reads P (sized B i z) (with_bytes old.tree i b)) same (law.reads old.tree reads.tree)) (law.room old.room reads.room)
    (written_tree old.tree path i offset n bytes some at) refl refl

-- nothing is written
no_range : (old : List ℕ) (z offset : ℕ) → resized (overwritten old offset []) z ≡ resized old z
no_range old z offset =
    let one = length-resized (overwritten old offset []) z in
    let two = length-resized old z in
    ext_get_or 0 (resized (overwritten old offset []) z) (resized old z) (omega (arith, one, two))
    (λ o lt. let below : o < z = omega (arith, lt, one) in
    resized_at (overwritten old offset []) z o below ∙ overwritten-beside old offset [] o (beside o) ∙ sym (resized_at old z o below))
  where
    beside : (o : ℕ) → IsBeside offset [] o
    beside o = elim (cases_lt o offset) [ inl lt ↦ inl lt | inr ge ↦ inr (omega (arith, ge)) ]

pub lengthen_step_law : LengthenStepLaw
lengthen_step_law P W A B old path i z offset n pages can fills takes at reads =
    let law = growth_law P W A B i z offset [] pages can fills takes in
    stepped P W (sized B i z) old (Truncate path z) i n (resized (bytes_of old.tree i) z) can.tidy.coherent law.tidy.coherent can.reached can.file reads
    (subst (λ b. Reads P (sized B i z) (with_bytes old.tree i b)) (no_range (bytes_of old.tree i) z offset) (law.reads old.tree reads.tree)) (law.room old.room reads.room)
    (resized_tree old.tree path i z n at) refl refl

-- a file that gets the size that it has reads as before
module _ (P : ℕ) (W : List ℕ) (old : State) (i size : ℕ) (bytes : List ℕ) (file : node_at old.tree i ≡ Some (File bytes)) (is : size ≡ length (bytes_of old.tree i)) where
  same_bytes : resized (bytes_of old.tree i) size ≡ bytes_of old.tree i
  same_bytes =
      let long = length-resized (bytes_of old.tree i) size in
      ext_get_or 0 (resized (bytes_of old.tree i) size) (bytes_of old.tree i) (long ∙ is) (λ o low. resized_at (bytes_of old.tree i) size o (omega (arith, low, long)))

  same_node : (x : ℕ) → node_at (with_bytes old.tree i (resized (bytes_of old.tree i) size)) x ≡ node_at old.tree x
  same_node x = elim (cases_eq x i) [
    | inl here ↦
        ap (node_at (with_bytes old.tree i (resized (bytes_of old.tree i) size))) here ∙ node_at-with_bytes_here old.tree i (resized (bytes_of old.tree i) size)
        ∙ ap (λ (l : List ℕ). Some (File l)) (same_bytes ∙ ap bytes_of_node file) ∙ sym file ∙ ap (node_at old.tree) (sym here)
    | inr away ↦ node_at-with_bytes_other old.tree i (resized (bytes_of old.tree i) size) x away
  ]

  reads_same : Reads P W old.tree → Reads P W (with_bytes old.tree i (resized (bytes_of old.tree i) size))
  reads_same reads = record {
    names = reads.names;
    nodes = λ x node. ((λ is. (reads.nodes x node).0 (sym (same_node x) ∙ is)), (λ has. same_node x ∙ (reads.nodes x node).1 has));
  }

  pub same_size_step : (path : Route) (n : ℕ) → IsCoherent P W → Reached P W i → HasBytes W i → ReadsAs P W old → id_at old.tree path ≡ Some i → IsStepped P W old (Truncate path size) n
  same_size_step path n coherent reached has reads at =
      stepped P W W old (Truncate path size) i n (resized (bytes_of old.tree i) size) coherent coherent reached has reads (reads_same reads.tree) reads.room (resized_tree old.tree path i size n at) refl refl
