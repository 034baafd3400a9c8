use Rattle.std.proofs.Common.{◌≡◌, ◌↔◌, ℕ, List, None, IfSome, subst}
use Rattle.image_reading.specs.Soundness.{Sound, IsFirstViolation, pages_in_image}
use Rattle.image_reading.proofs.Chained as lemmas
use Rattle.image_reading.proofs.verdict.first_fault.Goals as goal

pub returns-in-Some-clause-none : goal.returns-in-Some-clause-none
returns-in-Some-clause-none c = lemmas.none_not_at_some c.args.scan.now.geometry.pages c.args.words.now c.in-Some.fault c.requires.made_for c.in-Some.ensures

pub returns-in-Some-clause-first : goal.returns-in-Some-clause-first
returns-in-Some-clause-first c = lemmas.image_fault c.args.scan.now.geometry.pages c.args.words.now c.in-Some.fault c.requires.made_for c.in-Some.ensures

pub returns-in-Some-fault_of_tree-clause-none : goal.returns-in-Some-fault_of_tree-clause-none
returns-in-Some-fault_of_tree-clause-none c =
    lemmas.none_not_at_some c.args.scan.now.geometry.pages c.args.words.now c.in-Some-fault_of_tree.fault c.requires.made_for c.in-Some-fault_of_tree.ensures.found

pub returns-in-Some-fault_of_tree-clause-first : goal.returns-in-Some-fault_of_tree-clause-first
returns-in-Some-fault_of_tree-clause-first c =
    lemmas.image_fault c.args.scan.now.geometry.pages c.args.words.now c.in-Some-fault_of_tree.fault c.requires.made_for c.in-Some-fault_of_tree.ensures.found

pub scanned-requires-clause-coherent : goal.scanned-requires-clause-coherent
scanned-requires-clause-coherent c = lemmas.image_coherent c.args.scan.now.geometry.pages c.args.words.now c.requires.made_for c.in_default-fault_of_tree.ensures.found

pub returns-clause-none : goal.returns-clause-none
returns-clause-none c = subst (λ (I : List ℕ). (c.mark_broken_at.result ≡ None) ↔ Sound (pages_in_image I) I) c.scanned.ensures.words (lemmas.none_exactly _ c.mark_broken_at.result c.mark_broken_at.ensures)

pub returns-clause-first : goal.returns-clause-first
returns-clause-first c = subst (λ (I : List ℕ). IfSome c.mark_broken_at.result (IsFirstViolation I)) c.scanned.ensures.words (lemmas.first_at_some _ c.mark_broken_at.result c.mark_broken_at.ensures)
