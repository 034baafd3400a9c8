use Rattle.std.proofs.Common.{ℕ, ◌+◌, ◌-◌, ◌≤◌, List, take, drop, subst, ap, ◌∙◌, refl, arith}
use Rattle.std.proofs.lemmas.List.{length-take}
use Rattle.script.specs.Lines.{newline, IsUnbroken}
use Rattle.script.specs.Places.{BreaksAt}
use Rattle.script.specs.Reader.{pending}
use Rattle.script.proofs.PlaceLaws.{lacks_behind, breaks_behind}
use Rattle.script.proofs.Windows.{window_behind}
use Rattle.script.proofs.lines.Lines.newline_behind.Goals as goal

pub returns-in-Some : goal.returns-in-Some
returns-in-Some c =
    let l = c.args.self.now in
    let from = l.start + c.args.known in
    let inside : from ≤ l.end = omega (arith, c.requires.within, length-take (l.end - l.start) (drop l.start l.buffer.items)) in
    let searched = ap (λ items. take (l.end - from) (drop from items)) c.deref.ensures.value
    ∙ window_behind l.buffer.items l.start l.end c.args.known from refl inside in
    record {
      place = breaks_behind newline (pending l) c.args.known c.in-Some.place c.requires.within c.requires.unbroken
          (subst (λ (bytes : List ℕ). BreaksAt newline bytes c.in-Some.place) searched c.in-Some.ensures);
    }

pub returns-in-None : goal.returns-in-None
returns-in-None c =
    let l = c.args.self.now in
    let from = l.start + c.args.known in
    let inside : from ≤ l.end = omega (arith, c.requires.within, length-take (l.end - l.start) (drop l.start l.buffer.items)) in
    let searched = ap (λ items. take (l.end - from) (drop from items)) c.deref.ensures.value
    ∙ window_behind l.buffer.items l.start l.end c.args.known from refl inside in
    record { place = lacks_behind newline (pending l) c.args.known c.requires.unbroken (subst (λ (bytes : List ℕ). IsUnbroken bytes) searched c.in-None.ensures) }
