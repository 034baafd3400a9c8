use Rattle.std.proofs.Common.{◌≡◌, ℕ, ◌+◌, ◌-◌, get_or, min, Equal, sym, ap, subst, ◌∙◌}
use Rattle.image_reading.specs.Scan.{entry_cmp}
use Rattle.image_reading.proofs.NameOrder as lemmas
use Rattle.image_reading.proofs.faults.names.own_names_broken_at.Goals as goal
use Rattle.image_reading.proofs.faults.names.own_names_broken_at.Goals.{then-eq, else-eq}

pub loop-k-init : goal.loop-k-init
loop-k-init c =
    let P = c.args.image.now.geometry.pages in
    let I = c.args.image.now.words.now in
    subst (lemmas.IsLeastTwin P I c.args.slots.now 1) (sym c.slots-least.ensures) (lemmas.no_twin P I c.args.slots.now)

pub loop-k-preserved : goal.loop-k-preserved
loop-k-preserved c =
    let P = c.args.image.now.geometry.pages in
    let I = c.args.image.now.words.now in
    let slots = c.args.slots.now in
    let k = c.loop-k.k in
    let tell = c.cmp_entries.ensures in
    elim c.if-eq.branch [
      | then-eq w ↦
          let here : entry_cmp P I (get_or slots (k - 1) 0) (get_or slots k 0) ≡ Equal = sym tell ∙ lemmas.index_same c.cmp_entries.result c.eq.result c.eq.ensures w.if-eq.true in
          let new = w.min-least.ensures ∙ ap (λ (s : ℕ). min c.loop-k.least s) w.from.ensures in
          subst (lemmas.IsLeastTwin P I slots (k + 1)) (sym w.least-is) (lemmas.least_more P I slots k c.loop-k.least w.min-least.result new c.loop-k.auto.k c.loop-k-test.true here c.loop-k.invariant)
      | else-eq w ↦
          let none : entry_cmp P I (get_or slots (k - 1) 0) (get_or slots k 0) ≡ Equal → ⊥ = λ e. lemmas.index_other c.cmp_entries.result c.eq.result c.eq.ensures w.if-eq.false (tell ∙ e) in
          subst (lemmas.IsLeastTwin P I slots (k + 1)) (sym w.least-is) (lemmas.least_same P I slots k c.loop-k.least none c.loop-k.invariant)
    ]

pub returns-then-least-slots : goal.returns-then-least-slots
returns-then-least-slots c =
    lemmas.own_all c.args.image.now.geometry.pages c.args.image.now.words.now c.args.slots.now c.requires.named c.requires.slots c.loop-k.k c.loop-k.least c.loop-k-test.false c.loop-k.invariant
    (c.if-least-slots.true ∙ c.slots.ensures)

pub returns : goal.returns
returns c =
    lemmas.own_least c.args.image.now.geometry.pages c.args.image.now.words.now c.args.slots.now c.requires.named c.requires.slots c.loop-k.k c.loop-k.least c.loop-k-test.false c.loop-k.invariant
    (λ e. c.if-least-slots.false (e ∙ sym c.slots.ensures))
