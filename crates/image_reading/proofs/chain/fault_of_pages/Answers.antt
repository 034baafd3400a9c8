use Rattle.std.proofs.Common.{refl}
use Rattle.image_reading.specs.Soundness.{Rule}
use Rattle.image_reading.proofs.Chained as lemmas
use Rattle.image_reading.proofs.chain.fault_of_pages.Goals as goal

pub returns-in-Some : goal.returns-in-Some
returns-in-Some c =
    let P = c.args.walked.now.image.geometry.pages in
    let I = c.args.walked.now.image.words.now in
    lemmas.fault_at P I Rule.page_kinds _ refl c.requires.walked.kept c.in-Some.ensures

pub returns-in-Some-sizes_broken_at : goal.returns-in-Some-sizes_broken_at
returns-in-Some-sizes_broken_at c =
    let P = c.args.walked.now.image.geometry.pages in
    let I = c.args.walked.now.image.words.now in
    let after_page_kinds = lemmas.keeps_more P I Rule.page_kinds c.requires.walked.kept c.in_default.ensures in
    lemmas.fault_at P I Rule.sizes _ refl after_page_kinds c.in-Some-sizes_broken_at.ensures

pub returns-in-Some-all_pages_broken_at : goal.returns-in-Some-all_pages_broken_at
returns-in-Some-all_pages_broken_at c =
    let P = c.args.walked.now.image.geometry.pages in
    let I = c.args.walked.now.image.words.now in
    let after_page_kinds = lemmas.keeps_more P I Rule.page_kinds c.requires.walked.kept c.in_default.ensures in
    let after_sizes = lemmas.keeps_more P I Rule.sizes after_page_kinds c.in_default-sizes_broken_at.ensures in
    lemmas.fault_at P I Rule.all_pages _ refl after_sizes c.in-Some-all_pages_broken_at.ensures

pub returns-in-Some-own_offsets_broken_at : goal.returns-in-Some-own_offsets_broken_at
returns-in-Some-own_offsets_broken_at c =
    let P = c.args.walked.now.image.geometry.pages in
    let I = c.args.walked.now.image.words.now in
    let after_page_kinds = lemmas.keeps_more P I Rule.page_kinds c.requires.walked.kept c.in_default.ensures in
    let after_sizes = lemmas.keeps_more P I Rule.sizes after_page_kinds c.in_default-sizes_broken_at.ensures in
    let after_all_pages = lemmas.keeps_more P I Rule.all_pages after_sizes c.in_default-all_pages_broken_at.ensures in
    lemmas.fault_at P I Rule.own_offsets _ refl after_all_pages c.in-Some-own_offsets_broken_at.ensures

pub returns : goal.returns
returns c =
    let P = c.args.walked.now.image.geometry.pages in
    let I = c.args.walked.now.image.words.now in
    let after_page_kinds = lemmas.keeps_more P I Rule.page_kinds c.requires.walked.kept c.in_default.ensures in
    let after_sizes = lemmas.keeps_more P I Rule.sizes after_page_kinds c.in_default-sizes_broken_at.ensures in
    let after_all_pages = lemmas.keeps_more P I Rule.all_pages after_sizes c.in_default-all_pages_broken_at.ensures in
    let after_own_offsets = lemmas.keeps_more P I Rule.own_offsets after_all_pages c.in_default-own_offsets_broken_at.ensures in
    after_own_offsets
