use Rattle.std.proofs.Common.{refl, arith}
use Rattle.image_reading.specs.Soundness.{Rule}
use Rattle.image_reading.proofs.Chained as lemmas
use Rattle.image_reading.proofs.chain.fault_of_links.Goals as goal

pub returns-in-Some-clause-found : goal.returns-in-Some-clause-found
returns-in-Some-clause-found c =
    let P = c.args.walked.now.image.geometry.pages in
    let I = c.args.walked.now.image.words.now in
    lemmas.fault_at P I Rule.links _ refl c.requires.walked.kept c.in-Some.ensures.found

pub returns-clause-found : goal.returns-clause-found
returns-clause-found c =
    let P = c.args.walked.now.image.geometry.pages in
    let I = c.args.walked.now.image.words.now in
    let after_links = lemmas.keeps_more P I Rule.links c.requires.walked.kept c.in_default.ensures.found in
    after_links

pub links_broken_at-requires-clause-walked : goal.links_broken_at-requires-clause-walked
links_broken_at-requires-clause-walked c = record { walk = c.requires.walked.walk; numbers = λ s. c.requires.walked.kept Rule.inodes s (omega arith) }
