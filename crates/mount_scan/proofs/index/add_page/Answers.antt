use Rattle.std.proofs.Common.{[], sym, ◌∙◌}
use Rattle.std.proofs.lemmas.Bool.{iff_false}
use Rattle.mount_scan.proofs.Carried.{some_mended, each_inode, owner_in_index, page_free, offset_in_file, page_set, page_added}
use Rattle.mount_scan.proofs.Holding.{all_kept}
use Rattle.mount_scan.proofs.index.add_page.Goals as goal

pub returns-then-not-is_kept : goal.returns-then-not-is_kept
returns-then-not-is_kept c = λ K mended.
    let image = c.args.scanned.now.image in
    page_free image.geometry.pages image.words.now c.requires.scanned.coherent K mended c.args.page c.args.index.now c.requires.in_range (iff_false c.is_kept.ensures c.if-not-is_kept.true) (c.requires.holds K mended)

pub swap_page-requires-clause-from_one : goal.swap_page-requires-clause-from_one
swap_page-requires-clause-from_one c =
    let image = c.args.scanned.now.image in
    let size = each_inode image.geometry.pages image.words.now c.requires.scanned.coherent c.args.page [] 0 c.args.index.now c.requires.holds in
    (owner_in_index image.geometry.pages image.words.now c.requires.scanned.coherent c.args.page c.descriptor_at-fields.result.owner c.args.index.now (c.is_kept.ensures.0 c.if-not-is_kept.false) c.descriptor_at-fields.ensures.owner size).0

pub swap_page-requires-clause-in_range : goal.swap_page-requires-clause-in_range
swap_page-requires-clause-in_range c =
    let image = c.args.scanned.now.image in
    let size = each_inode image.geometry.pages image.words.now c.requires.scanned.coherent c.args.page [] 0 c.args.index.now c.requires.holds in
    (owner_in_index image.geometry.pages image.words.now c.requires.scanned.coherent c.args.page c.descriptor_at-fields.result.owner c.args.index.now (c.is_kept.ensures.0 c.if-not-is_kept.false) c.descriptor_at-fields.ensures.owner size).1

pub swap_page-requires-clause-place : goal.swap_page-requires-clause-place
swap_page-requires-clause-place c =
    let image = c.args.scanned.now.image in
    let fields = c.descriptor_at-fields in
    let (K, mended) = some_mended image.geometry.pages image.words.now c.requires.scanned.coherent in
    offset_in_file image.geometry.pages image.words.now c.requires.scanned.coherent K mended c.args.page fields.result.owner c.requires.in_range (c.is_kept.ensures.0 c.if-not-is_kept.false) fields.ensures.owner
    fields.result.offset c.args.index.now (sym fields.ensures.kind ∙ c.if-fields-eq-BYTES.true) fields.ensures.offset (c.requires.holds K mended)

pub returns-then-fields-eq-BYTES : goal.returns-then-fields-eq-BYTES
returns-then-fields-eq-BYTES c = λ K mended.
    let image = c.args.scanned.now.image in
    let fields = c.descriptor_at-fields in
    let set = c.swap_page.ensures in
    page_set image.geometry.pages image.words.now c.requires.scanned.coherent K mended c.args.page fields.result.owner c.requires.in_range (c.is_kept.ensures.0 c.if-not-is_kept.false) fields.ensures.owner
    fields.result.offset c.args.index.now c.swap_page.new.self (sym fields.ensures.kind ∙ c.if-fields-eq-BYTES.true) fields.ensures.offset set.elsewhere set.node.pages set.node.entries (c.requires.holds K mended)

pub reserve_pages-requires-clause-from_one : goal.reserve_pages-requires-clause-from_one
reserve_pages-requires-clause-from_one c =
    let image = c.args.scanned.now.image in
    let size = each_inode image.geometry.pages image.words.now c.requires.scanned.coherent c.args.page [] 0 c.args.index.now c.requires.holds in
    (owner_in_index image.geometry.pages image.words.now c.requires.scanned.coherent c.args.page c.descriptor_at-fields.result.owner c.args.index.now (c.is_kept.ensures.0 c.if-not-is_kept.false) c.descriptor_at-fields.ensures.owner size).0

pub reserve_pages-requires-clause-in_range : goal.reserve_pages-requires-clause-in_range
reserve_pages-requires-clause-in_range c =
    let image = c.args.scanned.now.image in
    let size = each_inode image.geometry.pages image.words.now c.requires.scanned.coherent c.args.page [] 0 c.args.index.now c.requires.holds in
    (owner_in_index image.geometry.pages image.words.now c.requires.scanned.coherent c.args.page c.descriptor_at-fields.result.owner c.args.index.now (c.is_kept.ensures.0 c.if-not-is_kept.false) c.descriptor_at-fields.ensures.owner size).1

pub push_page-requires-clause-from_one : goal.push_page-requires-clause-from_one
push_page-requires-clause-from_one c =
    let image = c.args.scanned.now.image in
    let size = each_inode image.geometry.pages image.words.now c.requires.scanned.coherent c.args.page [] 0 c.args.index.now c.requires.holds in
    (owner_in_index image.geometry.pages image.words.now c.requires.scanned.coherent c.args.page c.descriptor_at-fields.result.owner c.args.index.now (c.is_kept.ensures.0 c.if-not-is_kept.false) c.descriptor_at-fields.ensures.owner size).0

pub push_page-requires-clause-in_range : goal.push_page-requires-clause-in_range
push_page-requires-clause-in_range c =
    let image = c.args.scanned.now.image in
    let size = each_inode image.geometry.pages image.words.now c.requires.scanned.coherent c.args.page [] 0 c.args.index.now c.requires.holds in
    (owner_in_index image.geometry.pages image.words.now c.requires.scanned.coherent c.args.page c.descriptor_at-fields.result.owner c.reserve_pages.new.self (c.is_kept.ensures.0 c.if-not-is_kept.false) c.descriptor_at-fields.ensures.owner
    (c.reserve_pages.ensures.elsewhere.inodes ∙ size)).1

pub returns : goal.returns
returns c = λ K mended.
    let image = c.args.scanned.now.image in
    let fields = c.descriptor_at-fields in
    let reserve = c.reserve_pages.ensures in
    let push = c.push_page.ensures in
    let reserved = all_kept image.geometry.pages K fields.result.owner c.args.page [] 0 c.args.index.now c.reserve_pages.new.self reserve.elsewhere reserve.node.entries reserve.node.pages (c.requires.holds K mended) in
    page_added image.geometry.pages image.words.now c.requires.scanned.coherent K mended c.args.page fields.result.owner c.requires.in_range (c.is_kept.ensures.0 c.if-not-is_kept.false) fields.ensures.owner
    c.reserve_pages.new.self c.push_page.new.self (λ file. c.if-fields-eq-BYTES.false (fields.ensures.kind ∙ file)) push.elsewhere push.node.pages push.node.entries reserved
