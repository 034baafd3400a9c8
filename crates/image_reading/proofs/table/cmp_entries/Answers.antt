use Rattle.std.proofs.Common.{◌≡◌, ℕ, List, Ordering, Equal, nat_cmp, sym, ap, ◌∙◌}
use Rattle.layout.specs.Name.{name_words_cmp}
use Rattle.layout.specs.Fields.{slot_words}
use Rattle.image_reading.specs.Reading.{slot_owner}
use Rattle.image_reading.specs.Scan.{slot_or_last_of, entry_cmp}
use Rattle.image_reading.proofs.NameOrder.{index_not, index_is, then_first, then_second}
use Rattle.image_reading.proofs.table.cmp_entries.Goals as goal

module _ (P : ℕ) (I : List ℕ) (r s first second : ℕ) (left : first ≡ slot_or_last_of P r) (right : second ≡ slot_or_last_of P s) where
  directories : (a b : ℕ) (o : Ordering) → o ≡ nat_cmp a b → a ≡ slot_owner P I first → b ≡ slot_owner P I second
      → o ≡ nat_cmp (slot_owner P I (slot_or_last_of P r)) (slot_owner P I (slot_or_last_of P s))
  directories a b o e is_a is_b =
      e
      ∙ ap (λ (x : ℕ). nat_cmp x b) (is_a ∙ ap (slot_owner P I) left)
      ∙ ap (λ (y : ℕ). nat_cmp (slot_owner P I (slot_or_last_of P r)) y) (is_b ∙ ap (slot_owner P I) right)

  names : (v w : List ℕ) (o : Ordering) → o ≡ name_words_cmp v w → v ≡ slot_words P I first → w ≡ slot_words P I second
      → o ≡ name_words_cmp (slot_words P I (slot_or_last_of P r)) (slot_words P I (slot_or_last_of P s))
  names v w o e is_v is_w =
      e
      ∙ ap (λ (x : List ℕ). name_words_cmp x w) (is_v ∙ ap (slot_words P I) left)
      ∙ ap (λ (y : List ℕ). name_words_cmp (slot_words P I (slot_or_last_of P r)) y) (is_w ∙ ap (slot_words P I) right)

  other : (o : Ordering) → (o ≡ Equal → ⊥) → o ≡ nat_cmp (slot_owner P I (slot_or_last_of P r)) (slot_owner P I (slot_or_last_of P s)) → o ≡ entry_cmp P I r s
  unfolding entry_cmp
  other o differs is = is ∙ then_first _ _ (λ e. differs (is ∙ e))

  same : (o n : Ordering) → o ≡ Equal → o ≡ nat_cmp (slot_owner P I (slot_or_last_of P r)) (slot_owner P I (slot_or_last_of P s))
      → n ≡ name_words_cmp (slot_words P I (slot_or_last_of P r)) (slot_words P I (slot_or_last_of P s)) → n ≡ entry_cmp P I r s
  unfolding entry_cmp
  same o n e is by = by ∙ then_second _ _ (sym is ∙ e)

pub returns-then-ne : goal.returns-then-ne
returns-then-ne c =
    let image = c.args.image.now in
    let P = image.geometry.pages in
    let I = image.words.now in
    let left = c.slot_or_last-first.ensures.slot in
    let right = c.slot_or_last-second.ensures.slot in
    let o = c.cmp-directories.result in
    let is = directories P I c.args.left c.args.right c.slot_or_last-first.result c.slot_or_last-second.result left right c.owner_of.result c.owner_of-2.result o c.cmp-directories.ensures c.owner_of.ensures c.owner_of-2.ensures in
    other P I c.args.left c.args.right c.slot_or_last-first.result c.slot_or_last-second.result left right o (index_not o c.ne.result c.ne.ensures c.if-ne.true) is

pub returns : goal.returns
returns c =
    let image = c.args.image.now in
    let P = image.geometry.pages in
    let I = image.words.now in
    let left = c.slot_or_last-first.ensures.slot in
    let right = c.slot_or_last-second.ensures.slot in
    let o = c.cmp-directories.result in
    let is = directories P I c.args.left c.args.right c.slot_or_last-first.result c.slot_or_last-second.result left right c.owner_of.result c.owner_of-2.result o c.cmp-directories.ensures c.owner_of.ensures c.owner_of-2.ensures in
    let by = names P I c.args.left c.args.right c.slot_or_last-first.result c.slot_or_last-second.result left right c.slot_at.result.name c.slot_at-2.result.name c.cmp_name_words.result
    c.cmp_name_words.ensures.bytes c.slot_at.ensures.name c.slot_at-2.ensures.name in
    same P I c.args.left c.args.right c.slot_or_last-first.result c.slot_or_last-second.result left right o c.cmp_name_words.result (index_is o c.ne.result c.ne.ensures c.if-ne.false) is by
