use Rattle.std.proofs.Common.{arith, ◌≡◌, nat_eq, ◌∙◌, ap, sym}
use Rattle.std.specs.List.{starts_with}
use Rattle.layout.specs.Superblock.{head_of}
use Rattle.std.proofs.lemmas.Bool.{false≢true}
use Rattle.mount_scan.proofs.Heads.{keeps_rule1, volume_size, whole, begins_with_head}
use Rattle.mount_scan.proofs.head.geometry_of.Goals as goal

pub returns-in_err-geometry : goal.returns-in_err-geometry
returns-in_err-geometry c =
    rw c.from_residual.ensures
    (λ P rule1. false≢true (c.in_err-geometry.ensures.possible.1 (P, volume_size P c.args.words.now rule1, whole P c.args.words.now rule1)))

pub returns-then-starts_with : goal.returns-then-starts_with
returns-then-starts_with c =
    keeps_rule1 c.in_ok-geometry.geometry.pages c.args.words.now c.in_ok-geometry.geometry.volume_size c.in_ok-geometry.ensures.whole
    (sym (ap (λ head. starts_with nat_eq c.args.words.now head) (c.as_slice.ensures ∙ c.head.ensures)) ∙ sym c.starts_with.ensures.value ∙ c.if-starts_with.true)

pub returns-else-starts_with : goal.returns-else-starts_with
returns-else-starts_with c = λ P rule1. (
    let long = whole P c.args.words.now rule1 in
    let is = c.in_ok-geometry.ensures.whole in
    let same : P ≡ c.in_ok-geometry.geometry.pages = omega (arith, long, is) in
    let head = begins_with_head P c.args.words.now rule1 in
    false≢true (sym c.if-starts_with.false ∙ c.starts_with.ensures.value ∙ ap (λ head. starts_with nat_eq c.args.words.now head) (c.as_slice.ensures ∙ c.head.ensures ∙ ap head_of (sym same)) ∙ head)
    )
