use Rattle.std.proofs.Common.{ℕ, ◌≡◌, ◌+◌, ◌<◌, List, get_or, length, below_more, sym, ap, subst, ◌∙◌, arith}
use Rattle.std.proofs.lemmas.Bool.{both_ways}
use Rattle.layout.specs.Fields.{inode_kind, slot_inode}
use Rattle.image_reading.specs.Reading.{IsDirectory, IsReachedSlot}
use Rattle.image_reading.specs.Scan.{IsNaming, AreReachedSlots}
use Rattle.image_reading.specs.Soundness.{HasOwnDirectory}
use Rattle.image_reading.proofs.ReachedTable.{reached_at, holds_before, holds_all, own_directories_free}
use Rattle.image_reading.proofs.Named as lemmas
use Rattle.image_reading.proofs.faults.directories.own_directories_broken_at.Goals as goal
use Rattle.image_reading.proofs.faults.directories.own_directories_broken_at.Goals.{then-inode_at-eq-DIRECTORY+else-named-inode, else-inode_at-eq-DIRECTORY}

module _ (P : ℕ) (I slots : List ℕ) (table : AreReachedSlots P I slots) (k : ℕ) (within : k < length slots) (s inode : ℕ) (at : s ≡ get_or slots k 0) (is : inode ≡ slot_inode P I s) where
  slot : IsReachedSlot P I s
  slot = subst (IsReachedSlot P I) (sym at) (reached_at P I slots table k within)

  naming : IsDirectory I inode → IsNaming P I s
  naming directory = record { slot = slot; directory = ap (inode_kind I) (sym is) ∙ directory }

  not_naming : ¬ IsDirectory I inode → IsNaming P I (get_or slots k 0) → ⊥
  not_naming other h =
      let here = subst (IsNaming P I) (sym at) h in
      other (ap (inode_kind I) is ∙ here.directory)

pub slot_at-inode-requires-clause-slot_in_range : goal.slot_at-inode-requires-clause-slot_in_range
slot_at-inode-requires-clause-slot_in_range c =
    let image = c.args.walked.now.image in
    let here = reached_at image.geometry.pages image.words.now c.args.slots.now c.requires.slots c.loop-k.k c.loop-k-test.true in
    omega (arith, here.live.held.in_range, c.from-slot.ensures)

pub inode_at-requires-clause-from_one : goal.inode_at-requires-clause-from_one
inode_at-requires-clause-from_one c =
    let image = c.args.walked.now.image in
    let here = slot image.geometry.pages image.words.now c.args.slots.now c.requires.slots c.loop-k.k c.loop-k-test.true c.from-slot.result c.slot_at-inode.result.inode c.from-slot.ensures c.slot_at-inode.ensures.inode in
    let least = (c.requires.walked.numbers c.from-slot.result).least here in
    omega (arith, least, c.slot_at-inode.ensures.inode)

pub inode_at-requires-clause-inode_in_range : goal.inode_at-requires-clause-inode_in_range
inode_at-requires-clause-inode_in_range c =
    let image = c.args.walked.now.image in
    let here = slot image.geometry.pages image.words.now c.args.slots.now c.requires.slots c.loop-k.k c.loop-k-test.true c.from-slot.result c.slot_at-inode.result.inode c.from-slot.ensures c.slot_at-inode.ensures.inode in
    let most = (c.requires.walked.numbers c.from-slot.result).most here in
    omega (arith, most, c.slot_at-inode.ensures.inode, image.geometry.inodes_exact)

pub bounds-named-inode : goal.bounds-named-inode
bounds-named-inode c =
    let g = c.args.walked.now.image.geometry in
    lemmas.naming_within g.pages c.args.walked.now.image.words.now c.from-slot.result c.slot_at-inode.result.inode g.inodes (length c.loop-k.named) c.slot_at-inode.ensures.inode
    (naming g.pages c.args.walked.now.image.words.now c.args.slots.now c.requires.slots c.loop-k.k c.loop-k-test.true c.from-slot.result c.slot_at-inode.result.inode c.from-slot.ensures c.slot_at-inode.ensures.inode (sym c.inode_at.ensures.kind ∙ c.if-inode_at-eq-DIRECTORY.true)) c.requires.walked.numbers g.inodes_exact (omega (arith, c.loop-k.auto.named, c.fill.ensures.len, c.requires.inodes))

pub bounds-named-inode-then-inode_at-eq-DIRECTORY : goal.bounds-named-inode-then-inode_at-eq-DIRECTORY
bounds-named-inode-then-inode_at-eq-DIRECTORY c =
    let g = c.args.walked.now.image.geometry in
    lemmas.naming_within g.pages c.args.walked.now.image.words.now c.from-slot.result c.slot_at-inode.result.inode g.inodes (length c.loop-k.named) c.slot_at-inode.ensures.inode
    (naming g.pages c.args.walked.now.image.words.now c.args.slots.now c.requires.slots c.loop-k.k c.loop-k-test.true c.from-slot.result c.slot_at-inode.result.inode c.from-slot.ensures c.slot_at-inode.ensures.inode (sym c.inode_at.ensures.kind ∙ c.if-inode_at-eq-DIRECTORY.true)) c.requires.walked.numbers g.inodes_exact (omega (arith, c.loop-k.auto.named, c.fill.ensures.len, c.requires.inodes))

pub returns-then-named-inode : goal.returns-then-named-inode
returns-then-named-inode c =
    let P = c.args.walked.now.image.geometry.pages in
    let I = c.args.walked.now.image.words.now in
    let slots = c.args.slots.now in
    let k = c.loop-k.k in
    let at = c.from-slot.ensures in
    let inv = c.loop-k.invariant in (
      (λ x lt. holds_before P I slots c.requires.slots (HasOwnDirectory P I) (own_directories_free P I) k c.loop-k-test.true inv.kept x (subst (λ (s : ℕ). x < s) at lt)),
      (λ own. lemmas.own_not P I slots c.requires.slots k c.loop-k-test.true c.loop-k.named inv.marks c.slot_at-inode.result.inode (c.slot_at-inode.ensures.inode ∙ ap (slot_inode P I) at)
          (subst (IsNaming P I) at (naming P I slots c.requires.slots k c.loop-k-test.true c.from-slot.result c.slot_at-inode.result.inode at c.slot_at-inode.ensures.inode (sym c.inode_at.ensures.kind ∙ c.if-inode_at-eq-DIRECTORY.true))) c.if-named-inode.true (subst (HasOwnDirectory P I) at own)),
    )

pub loop-k-preserved : goal.loop-k-preserved
loop-k-preserved c =
    let g = c.args.walked.now.image.geometry in
    let P = g.pages in
    let I = c.args.walked.now.image.words.now in
    let slots = c.args.slots.now in
    let k = c.loop-k.k in
    let at = c.from-slot.ensures in
    let inv = c.loop-k.invariant in
    elim c.if-inode_at-eq-DIRECTORY.branch [
      | then-inode_at-eq-DIRECTORY+else-named-inode w ↦
          let inode = c.slot_at-inode.result.inode in
          let here_named = naming P I slots c.requires.slots k c.loop-k-test.true c.from-slot.result c.slot_at-inode.result.inode at c.slot_at-inode.ensures.inode (sym c.inode_at.ensures.kind ∙ w.if-inode_at-eq-DIRECTORY.true) in
          let within = lemmas.naming_within P I c.from-slot.result inode g.inodes (length c.loop-k.named) c.slot_at-inode.ensures.inode here_named c.requires.walked.numbers g.inodes_exact
          (omega (arith, c.loop-k.auto.named, c.fill.ensures.len, c.requires.inodes)) in
          let here = subst (IsNaming P I) at here_named in
          let is : inode ≡ slot_inode P I (get_or slots k 0) = c.slot_at-inode.ensures.inode ∙ ap (slot_inode P I) at in
          record {
            kept = below_more _ _ inv.kept (lemmas.own_at P I slots c.requires.slots k c.loop-k-test.true c.loop-k.named inv.marks inode is here (both_ways _ w.if-named-inode.false));
            marks = subst (lemmas.AreNamed P I slots (k + 1)) (sym w.named-is) (lemmas.named_more P I slots c.requires.slots k c.loop-k-test.true c.loop-k.named inv.marks inode is here within);
          }
      | else-inode_at-eq-DIRECTORY w ↦
          let un = not_naming P I slots c.requires.slots k c.loop-k-test.true c.from-slot.result c.slot_at-inode.result.inode at c.slot_at-inode.ensures.inode (λ directory. w.if-inode_at-eq-DIRECTORY.false (c.inode_at.ensures.kind ∙ directory)) in
          record {
            kept = below_more _ _ inv.kept (lemmas.own_at_none P I slots c.requires.slots k c.loop-k-test.true c.loop-k.named inv.marks un);
            marks = subst (lemmas.AreNamed P I slots (k + 1)) (sym w.named-is) (lemmas.named_same P I slots c.requires.slots k c.loop-k-test.true c.loop-k.named inv.marks un);
          }
    ]

pub returns : goal.returns
returns c =
    let P = c.args.walked.now.image.geometry.pages in
    let I = c.args.walked.now.image.words.now in
    holds_all P I c.args.slots.now c.requires.slots (HasOwnDirectory P I) (own_directories_free P I) c.loop-k.k c.loop-k-test.false c.loop-k.invariant.kept
