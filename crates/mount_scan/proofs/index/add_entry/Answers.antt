use Rattle.std.proofs.Common.{List, sym, subst, arith}
use Rattle.layout.specs.Geometry.{data_pages_of}
use Rattle.layout.specs.Name.{IsNameWords}
use Rattle.volatile_index.specs.Entries.{IsAbsent}
use Rattle.volatile_index.specs.Index.{node_of}
use Rattle.volatile_index.specs.declared.entry.Entry.{Entry}
use Rattle.mount_scan.proofs.Carried.{name_reached, name_owner, slot_named, some_mended, each_inode, tidy, entry_after}
use Rattle.mount_scan.proofs.Holding.{all_kept, entry_put, entry_absent}
use Rattle.mount_scan.proofs.index.add_entry.Goals as goal

pub slot_at-fields-requires-clause-slot_in_range : goal.slot_at-fields-requires-clause-slot_in_range
slot_at-fields-requires-clause-slot_in_range c =
    let image = c.args.scanned.now.image in
    (name_reached image.geometry.pages image.words.now c.requires.scanned.coherent c.args.names.now c.args.place c.from-slot.result c.requires.names c.requires.place c.from-slot.ensures).live.held.in_range

pub returns-in_default : goal.returns-in_default
returns-in_default c =
    let image = c.args.scanned.now.image in
    let coherent = c.requires.scanned.coherent in
    let slot = name_reached image.geometry.pages image.words.now coherent c.args.names.now c.args.place c.from-slot.result c.requires.names c.requires.place c.from-slot.ensures in
    absurd (c.in_default.ensures (subst IsNameWords (sym c.slot_at-fields.ensures.name) (slot_named image.geometry.pages image.words.now coherent c.from-slot.result slot)))

pub page_of-page-requires : goal.page_of-page-requires
page_of-page-requires c =
    let image = c.args.scanned.now.image in
    (name_reached image.geometry.pages image.words.now c.requires.scanned.coherent c.args.names.now c.args.place c.from-slot.result c.requires.names c.requires.place c.from-slot.ensures).live.held.in_range

pub reserve_one-requires-clause-from_one : goal.reserve_one-requires-clause-from_one
reserve_one-requires-clause-from_one c =
    let image = c.args.scanned.now.image in
    let directory = c.descriptor_at-directory in
    (name_owner image.geometry.pages image.words.now c.requires.scanned.coherent c.args.names.now c.args.place c.from-slot.result c.page_of-page.result directory.result.owner c.requires.names c.requires.place c.from-slot.ensures
    c.page_of-page.ensures.is directory.ensures.owner).1

pub reserve_one-requires-clause-in_range : goal.reserve_one-requires-clause-in_range
reserve_one-requires-clause-in_range c =
    let image = c.args.scanned.now.image in
    let P = image.geometry.pages in
    let coherent = c.requires.scanned.coherent in
    let directory = c.descriptor_at-directory in
    let most = (name_owner P image.words.now coherent c.args.names.now c.args.place c.from-slot.result c.page_of-page.result directory.result.owner c.requires.names c.requires.place c.from-slot.ensures
    c.page_of-page.ensures.is directory.ensures.owner).2 in
    let size = each_inode P image.words.now coherent (data_pages_of P) c.args.names.now c.args.place c.args.index.now c.requires.holds in
    omega (arith, most, size)

pub put-requires-clause-from_one : goal.put-requires-clause-from_one
put-requires-clause-from_one c =
    let image = c.args.scanned.now.image in
    let directory = c.descriptor_at-directory in
    (name_owner image.geometry.pages image.words.now c.requires.scanned.coherent c.args.names.now c.args.place c.from-slot.result c.page_of-page.result directory.result.owner c.requires.names c.requires.place c.from-slot.ensures
    c.page_of-page.ensures.is directory.ensures.owner).1

pub put-requires-clause-in_range : goal.put-requires-clause-in_range
put-requires-clause-in_range c =
    let image = c.args.scanned.now.image in
    let P = image.geometry.pages in
    let coherent = c.requires.scanned.coherent in
    let directory = c.descriptor_at-directory in
    let most = (name_owner P image.words.now coherent c.args.names.now c.args.place c.from-slot.result c.page_of-page.result directory.result.owner c.requires.names c.requires.place c.from-slot.ensures
    c.page_of-page.ensures.is directory.ensures.owner).2 in
    let size = each_inode P image.words.now coherent (data_pages_of P) c.args.names.now c.args.place c.args.index.now c.requires.holds in
    let same = c.reserve_one.ensures.elsewhere.inodes in
    omega (arith, most, size, same)

pub put-requires-clause-absent : goal.put-requires-clause-absent
put-requires-clause-absent c =
    let image = c.args.scanned.now.image in
    let P = image.geometry.pages in
    let W = image.words.now in
    let coherent = c.requires.scanned.coherent in
    let names = c.args.names.now in
    let place = c.args.place in
    let s = c.from-slot.result in
    let d = c.descriptor_at-directory.result.owner in
    let slot = name_reached P W coherent names place s c.requires.names c.requires.place c.from-slot.ensures in
    let (owner, least, most) = name_owner P W coherent names place s c.page_of-page.result d c.requires.names c.requires.place c.from-slot.ensures c.page_of-page.ensures.is c.descriptor_at-directory.ensures.owner in
    let (K, mended) = some_mended P W coherent in
    let entry = entry_after P W coherent K mended s d c.slot_at-fields.result.name c.in-Some.name slot owner c.slot_at-fields.ensures.name c.in-Some.ensures.1 in
    let absent = entry_absent P K names place s (sym c.from-slot.ensures) d (data_pages_of P) (node_of c.args.index.now d) c.in-Some.name (tidy P W coherent K mended) c.requires.names.distinct c.requires.place entry
    ((c.requires.holds K mended).each d least most) in
    subst (λ (entries : List Entry). IsAbsent entries c.in-Some.name) (sym c.reserve_one.ensures.node.entries) absent

pub returns : goal.returns
returns c = λ K mended.
    let image = c.args.scanned.now.image in
    let P = image.geometry.pages in
    let W = image.words.now in
    let coherent = c.requires.scanned.coherent in
    let names = c.args.names.now in
    let place = c.args.place in
    let s = c.from-slot.result in
    let d = c.descriptor_at-directory.result.owner in
    let slot = name_reached P W coherent names place s c.requires.names c.requires.place c.from-slot.ensures in
    let (owner, least, most) = name_owner P W coherent names place s c.page_of-page.result d c.requires.names c.requires.place c.from-slot.ensures c.page_of-page.ensures.is c.descriptor_at-directory.ensures.owner in
    let entry = entry_after P W coherent K mended s d c.slot_at-fields.result.name c.in-Some.name slot owner c.slot_at-fields.ensures.name c.in-Some.ensures.1 in
    let reserved = all_kept P K d (data_pages_of P) names place c.args.index.now c.reserve_one.new.self c.reserve_one.ensures.elsewhere c.reserve_one.ensures.node.entries c.reserve_one.ensures.node.pages (c.requires.holds K mended) in
    entry_put P K d (data_pages_of P) names place s c.reserve_one.new.self c.put.new.self c.in-Some.name (sym c.from-slot.ensures) least most entry c.put.ensures.elsewhere c.put.ensures.node.entries c.put.ensures.node.pages reserved
