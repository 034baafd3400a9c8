-- What commits a write or a truncation leaves a state that the command leaves.
use Rattle.std.proofs.Common.{◌≡◌, inl, inr, ℕ, ◌+◌, ◌<◌, ◌≤◌, Bool, true, false, cond, ◌==◌, List, [], length, Some, unwrap_or, refl, sym, ap, subst, ◌∙◌, arith}
use Rattle.std.proofs.lemmas.Bool.{cases_lt}
use Rattle.std.proofs.lemmas.Bool.Decides.{nat_tests}
use Rattle.std.proofs.lemmas.List.{ext_get_or}
use Rattle.tree_model.specs.PathText.{Route}
use Rattle.tree_model.specs.Step.{with_bytes, overwritten, resized, tree_after, id_of}
use Rattle.tree_model.specs.Tree.{Tree, root_id, id_at, bytes_of}
use Rattle.tree_model.specs.declared.command.Command.TheVariants.{Write, Truncate}
use Rattle.image_reading.specs.Reading.{Reads}
use Rattle.content_laws.specs.Growth.{sized}
use Rattle.content_laws.specs.Range.{IsBeside}
use Rattle.content_laws.proofs.Bytes.{length-overwritten, length-resized, resized_at, overwritten-beside}
use Rattle.content_laws.proofs.Steps.{stepped, resized_tree}
use Rattle.content_laws.proofs.Torn.{content_of}
use Rattle.weave_laws.specs.Committing.{InsideWriteLaw, RaisedWriteLaw, RaisedTruncateLaw, LoweredTruncateLaw}
use Rattle.weave_laws.proofs.BytesInside.{leaves_inside}
use Rattle.weave_laws.proofs.Resized.{leaves_raised, leaves_lowered}

not_none : (n : ℕ) → 0 < n → (n == 0) ≡ false
not_none n lt = differs (n == 0) refl
  where
    differs : (b : Bool) → (n == 0) ≡ b → (n == 0) ≡ false
    differs true e = absurd (let zero : n ≡ 0 = grind (arith, nat_tests) in omega (arith, zero, lt))
    differs false e = e

written_tree : (T : Tree) (path : Route) (i offset n : ℕ) (bytes : List ℕ) → 0 < length bytes → id_at T path ≡ Some i
    → with_bytes T i (overwritten (bytes_of T i) offset bytes) ≡ tree_after n T (Write path offset bytes)
written_tree T path i offset n bytes some at =
    let e : i ≡ id_of T path = sym (ap (λ o. unwrap_or o root_id) at) in
    ap (λ x. with_bytes T x (overwritten (bytes_of T x) offset bytes)) e
    ∙ sym (ap (λ b. cond b T (with_bytes T (id_of T path) (overwritten (bytes_of T (id_of T path)) offset bytes))) (not_none (length bytes) some))

-- the range ends at the new size
whole_write : (old : List ℕ) (offset : ℕ) (bytes : List ℕ) → length old ≤ offset + length bytes → resized (overwritten old offset bytes) (offset + length bytes) ≡ overwritten old offset bytes
whole_write old offset bytes le =
    let long = length-overwritten old offset bytes in
    let cut = length-resized (overwritten old offset bytes) (offset + length bytes) in
    ext_get_or 0 (resized (overwritten old offset bytes) (offset + length bytes)) (overwritten old offset bytes) (omega (arith, long, cut, le))
    (λ o lt. resized_at (overwritten old offset bytes) (offset + length bytes) o (omega (arith, lt, cut)))

-- nothing is written
no_range : (old : List ℕ) (z offset : ℕ) → resized (overwritten old offset []) z ≡ resized old z
no_range old z offset =
    let one = length-resized (overwritten old offset []) z in
    let two = length-resized old z in
    ext_get_or 0 (resized (overwritten old offset []) z) (resized old z) (omega (arith, one, two))
    (λ o lt. let below : o < z = omega (arith, lt, one) in
    resized_at (overwritten old offset []) z o below ∙ overwritten-beside old offset [] o (beside o) ∙ sym (resized_at old z o below))
  where
    beside : (o : ℕ) → IsBeside offset [] o
    beside o = elim (cases_lt o offset) [ inl lt ↦ inl lt | inr ge ↦ inr (omega (arith, ge)) ]

pub inside_write_law : InsideWriteLaw
inside_write_law P I J old path i offset n bytes may writes some at reads =
    let law = leaves_inside P I J i offset bytes may writes in
    stepped P I J old (Write path offset bytes) i n (overwritten (bytes_of old.tree i) offset bytes) may.coherent law.coherent may.reached may.file reads
    (law.reads old.tree reads.tree) (law.room old.room reads.room) (written_tree old.tree path i offset n bytes some at) refl refl

pub raised_write_law : RaisedWriteLaw
raised_write_law P I old path i offset n bytes may holds some at reads =
    let z = offset + length bytes in
    let law = leaves_raised P I i z may offset bytes holds in
    let long = (content_of P I old.tree i may.coherent reads.tree may.reached may.file).size in
    let larger = may.larger in
    let same = whole_write (bytes_of old.tree i) offset bytes (omega (arith, long, larger)) in
    stepped P I (sized I i z) old (Write path offset bytes) i n (overwritten (bytes_of old.tree i) offset bytes) may.coherent law.coherent may.reached may.file reads
    (subst (λ b. Reads P (sized I i z) (with_bytes old.tree i b)) same (law.reads old.tree reads.tree)) (law.room old.room reads.room)
    (written_tree old.tree path i offset n bytes some at) refl refl

pub raised_truncate_law : RaisedTruncateLaw
raised_truncate_law P I old path i z offset n may holds at reads =
    let law = leaves_raised P I i z may offset [] holds in
    stepped P I (sized I i z) old (Truncate path z) i n (resized (bytes_of old.tree i) z) may.coherent law.coherent may.reached may.file reads
    (subst (λ b. Reads P (sized I i z) (with_bytes old.tree i b)) (no_range (bytes_of old.tree i) z offset) (law.reads old.tree reads.tree)) (law.room old.room reads.room)
    (resized_tree old.tree path i z n at) refl refl

pub lowered_truncate_law : LoweredTruncateLaw
lowered_truncate_law P I old path i z n may at reads =
    let law = leaves_lowered P I i z may in
    stepped P I (sized I i z) old (Truncate path z) i n (resized (bytes_of old.tree i) z) may.coherent law.coherent may.reached may.file reads
    (law.reads old.tree reads.tree) (law.room old.room reads.room) (resized_tree old.tree path i z n at) refl refl
