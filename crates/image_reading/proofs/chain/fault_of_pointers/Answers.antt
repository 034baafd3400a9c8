use Rattle.std.proofs.Common.{refl}
use Rattle.image_reading.specs.Soundness.{Rule}
use Rattle.image_reading.proofs.Chained as lemmas
use Rattle.image_reading.proofs.chain.fault_of_pointers.Goals as goal

pub returns-in-Some-clause-found : goal.returns-in-Some-clause-found
returns-in-Some-clause-found c =
    let P = c.args.image.now.geometry.pages in
    let I = c.args.image.now.words.now in
    lemmas.fault_at P I Rule.pointers _ refl c.requires.kept c.in-Some.ensures

pub returns-in-Some-one_pointer_broken_at-clause-found : goal.returns-in-Some-one_pointer_broken_at-clause-found
returns-in-Some-one_pointer_broken_at-clause-found c =
    let P = c.args.image.now.geometry.pages in
    let I = c.args.image.now.words.now in
    let after_pointers = lemmas.keeps_more P I Rule.pointers c.requires.kept c.in_default.ensures in
    lemmas.fault_at P I Rule.one_pointer _ refl after_pointers c.in-Some-one_pointer_broken_at.ensures.found

pub returns-clause-found : goal.returns-clause-found
returns-clause-found c =
    let P = c.args.image.now.geometry.pages in
    let I = c.args.image.now.words.now in
    let after_pointers = lemmas.keeps_more P I Rule.pointers c.requires.kept c.in_default.ensures in
    lemmas.keeps_more P I Rule.one_pointer after_pointers c.in_default-one_pointer_broken_at.ensures.found
