use Rattle.std.proofs.Common.{refl}
use Rattle.image_reading.specs.Soundness.{Rule}
use Rattle.image_reading.proofs.NameOrder.{names_in_order}
use Rattle.image_reading.proofs.Chained as lemmas
use Rattle.image_reading.proofs.chain.fault_of_names.Goals as goal

pub returns-in-Some-clause-found : goal.returns-in-Some-clause-found
returns-in-Some-clause-found c =
    let P = c.args.walked.now.image.geometry.pages in
    let I = c.args.walked.now.image.words.now in
    lemmas.fault_at P I Rule.inodes _ refl c.requires.walked.kept c.in-Some.ensures

pub returns-in-Some-names_broken_at-clause-found : goal.returns-in-Some-names_broken_at-clause-found
returns-in-Some-names_broken_at-clause-found c =
    let P = c.args.walked.now.image.geometry.pages in
    let I = c.args.walked.now.image.words.now in
    let after_inodes = lemmas.keeps_more P I Rule.inodes c.requires.walked.kept c.in_default.ensures in
    lemmas.fault_at P I Rule.names _ refl after_inodes c.in-Some-names_broken_at.ensures

pub returns-in-Some-kinds_broken_at-clause-found : goal.returns-in-Some-kinds_broken_at-clause-found
returns-in-Some-kinds_broken_at-clause-found c =
    let P = c.args.walked.now.image.geometry.pages in
    let I = c.args.walked.now.image.words.now in
    let after_inodes = lemmas.keeps_more P I Rule.inodes c.requires.walked.kept c.in_default.ensures in
    let after_names = lemmas.keeps_more P I Rule.names after_inodes c.in_default-names_broken_at.ensures in
    lemmas.fault_at P I Rule.kinds _ refl after_names c.in-Some-kinds_broken_at.ensures

pub returns-in-Some-own_names_broken_at-clause-found : goal.returns-in-Some-own_names_broken_at-clause-found
returns-in-Some-own_names_broken_at-clause-found c =
    let P = c.args.walked.now.image.geometry.pages in
    let I = c.args.walked.now.image.words.now in
    let after_inodes = lemmas.keeps_more P I Rule.inodes c.requires.walked.kept c.in_default.ensures in
    let after_names = lemmas.keeps_more P I Rule.names after_inodes c.in_default-names_broken_at.ensures in
    let after_kinds = lemmas.keeps_more P I Rule.kinds after_names c.in_default-kinds_broken_at.ensures in
    lemmas.fault_at P I Rule.own_names _ refl after_kinds c.in-Some-own_names_broken_at.ensures

pub returns-in-Some-doubled-clause-found : goal.returns-in-Some-doubled-clause-found
returns-in-Some-doubled-clause-found c =
    let P = c.args.walked.now.image.geometry.pages in
    let I = c.args.walked.now.image.words.now in
    let after_inodes = lemmas.keeps_more P I Rule.inodes c.requires.walked.kept c.in_default.ensures in
    let after_names = lemmas.keeps_more P I Rule.names after_inodes c.in_default-names_broken_at.ensures in
    let after_kinds = lemmas.keeps_more P I Rule.kinds after_names c.in_default-kinds_broken_at.ensures in
    let after_own_names = lemmas.keeps_more P I Rule.own_names after_kinds c.in_default-own_names_broken_at.ensures in
    lemmas.fault_at P I Rule.own_directories _ refl after_own_names c.in-Some-doubled.ensures

pub returns-clause-found : goal.returns-clause-found
returns-clause-found c =
    let P = c.args.walked.now.image.geometry.pages in
    let I = c.args.walked.now.image.words.now in
    let after_inodes = lemmas.keeps_more P I Rule.inodes c.requires.walked.kept c.in_default.ensures in
    let after_names = lemmas.keeps_more P I Rule.names after_inodes c.in_default-names_broken_at.ensures in
    let after_kinds = lemmas.keeps_more P I Rule.kinds after_names c.in_default-kinds_broken_at.ensures in
    let after_own_names = lemmas.keeps_more P I Rule.own_names after_kinds c.in_default-own_names_broken_at.ensures in
    lemmas.keeps_more P I Rule.own_directories after_own_names c.in_default-doubled.ensures

pub returns-clause-names : goal.returns-clause-names
returns-clause-names c =
    let P = c.args.walked.now.image.geometry.pages in
    let I = c.args.walked.now.image.words.now in
    λ _. names_in_order P I c.in_default-names_broken_at.ensures c.sort_slots.new.slots c.sort_slots.ensures c.in_default-own_names_broken_at.ensures
