use Rattle.std.proofs.Common.{◌≤◌, get_or, sym, ◌∙◌, arith, rules}
use Rattle.layout.specs.Geometry.{most_pages}
use Rattle.layout.proofs.GeometryLaws.{inodes_below}
use Rattle.image_reading.proofs.Readers.{directory_links, name_links, enough_links}
use Rattle.image_reading.proofs.Tidying.{in_range}
use Rattle.image_reading.proofs.scanned.Scanned.links.Goals as goal

pub inode_at-fields-requires-clause-from_one : goal.inode_at-fields-requires-clause-from_one
inode_at-fields-requires-clause-from_one c =
    let image = c.args.self.now.image in
    (in_range image.geometry.pages image.words.now c.args.inode c.requires.known.coherent c.requires.reached).0

pub inode_at-fields-requires-clause-inode_in_range : goal.inode_at-fields-requires-clause-inode_in_range
inode_at-fields-requires-clause-inode_in_range c =
    let image = c.args.self.now.image in
    let most = (in_range image.geometry.pages image.words.now c.args.inode c.requires.known.coherent c.requires.reached).1 in
    omega (arith, most, image.geometry.inodes_exact)

pub offset_bounds-self-inode : goal.offset_bounds-self-inode
offset_bounds-self-inode c =
    let image = c.args.self.now.image in
    let most = (in_range image.geometry.pages image.words.now c.args.inode c.requires.known.coherent c.requires.reached).1 in
    let few = inodes_below image.geometry.pages image.geometry.volume_size in
    let small : c.args.inode ≤ most_pages = omega (arith, most, few, image.geometry.volume_size) in
    search (rules, small)

pub bounds-self-inode : goal.bounds-self-inode
bounds-self-inode c =
    let image = c.args.self.now.image in
    let most = (in_range image.geometry.pages image.words.now c.args.inode c.requires.known.coherent c.requires.reached).1 in
    omega (arith, most, c.requires.known.counted.inodes)

pub overflow_add-result : goal.overflow_add-result
overflow_add-result c =
    let image = c.args.self.now.image in
    let fields = c.inode_at-fields.ensures in
    let most = (in_range image.geometry.pages image.words.now c.args.inode c.requires.known.coherent c.requires.reached).1 in
    let enough = enough_links image.geometry.pages image.words.now c.args.inode (get_or c.args.self.now.tally.now c.args.inode 0) (c.requires.known.counted.each c.args.inode most)
    c.requires.known.coherent c.requires.reached (sym fields.kind ∙ c.if-fields-eq-DIRECTORY.true) in
    search (rules, enough, fields.links)

pub returns-then-fields-eq-DIRECTORY : goal.returns-then-fields-eq-DIRECTORY
returns-then-fields-eq-DIRECTORY c =
    let image = c.args.self.now.image in
    let most = (in_range image.geometry.pages image.words.now c.args.inode c.requires.known.coherent c.requires.reached).1 in
    directory_links image.geometry.pages image.words.now c.args.inode _ (c.requires.known.counted.each c.args.inode most) (sym c.inode_at-fields.ensures.kind ∙ c.if-fields-eq-DIRECTORY.true)

pub returns : goal.returns
returns c =
    let image = c.args.self.now.image in
    let most = (in_range image.geometry.pages image.words.now c.args.inode c.requires.known.coherent c.requires.reached).1 in
    name_links image.geometry.pages image.words.now c.args.inode _ (c.requires.known.counted.each c.args.inode most) (λ directory. c.if-fields-eq-DIRECTORY.false (c.inode_at-fields.ensures.kind ∙ directory))
