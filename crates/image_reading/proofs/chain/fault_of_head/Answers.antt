use Rattle.std.proofs.Common.{refl}
use Rattle.image_reading.specs.Soundness.{Rule}
use Rattle.image_reading.proofs.Chained as lemmas
use Rattle.image_reading.proofs.chain.fault_of_head.Goals as goal

pub returns-in-Some : goal.returns-in-Some
returns-in-Some c =
    let P = c.args.image.now.geometry.pages in
    let I = c.args.image.now.words.now in
    lemmas.fault_at P I Rule.head _ refl (lemmas.keeps_none P I) c.in-Some.ensures

pub returns-in-Some-root_broken_at : goal.returns-in-Some-root_broken_at
returns-in-Some-root_broken_at c =
    let P = c.args.image.now.geometry.pages in
    let I = c.args.image.now.words.now in
    let after_head = lemmas.keeps_more P I Rule.head (lemmas.keeps_none P I) c.in_default.ensures in
    lemmas.fault_at P I Rule.root _ refl after_head c.in-Some-root_broken_at.ensures

pub returns : goal.returns
returns c =
    let P = c.args.image.now.geometry.pages in
    let I = c.args.image.now.words.now in
    let after_head = lemmas.keeps_more P I Rule.head (lemmas.keeps_none P I) c.in_default.ensures in
    let after_root = lemmas.keeps_more P I Rule.root after_head c.in_default-root_broken_at.ensures in
    after_root
