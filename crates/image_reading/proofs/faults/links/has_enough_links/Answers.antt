use Rattle.std.proofs.Common.{◌-◌, get_or, sym, ◌∙◌, leb-true, arith}
use Rattle.std.proofs.lemmas.Bool.{le-leb, false≢true}
use Rattle.image_reading.proofs.Owners.{found_range}
use Rattle.image_reading.proofs.Credits as lemmas
use Rattle.image_reading.proofs.faults.links.has_enough_links.Goals as goal

pub inode_at-fields-requires-clause-from_one : goal.inode_at-fields-requires-clause-from_one
inode_at-fields-requires-clause-from_one c =
    let g = c.args.walked.now.image.geometry in
    (found_range g.pages c.args.walked.now.image.words.now c.args.walked.now.reach.now c.requires.walked.known c.args.inode g.volume_size (c.has.ensures.0 c.if-not-has.false)).0

pub inode_at-fields-requires-clause-inode_in_range : goal.inode_at-fields-requires-clause-inode_in_range
inode_at-fields-requires-clause-inode_in_range c =
    let g = c.args.walked.now.image.geometry in
    let range = (found_range g.pages c.args.walked.now.image.words.now c.args.walked.now.reach.now c.requires.walked.known c.args.inode g.volume_size (c.has.ensures.0 c.if-not-has.false)).1 in
    omega (arith, range, g.inodes_exact)

pub returns-then-fields-eq-FILE : goal.returns-then-fields-eq-FILE
returns-then-fields-eq-FILE c =
    let g = c.args.walked.now.image.geometry in
    let I = c.args.walked.now.image.words.now in
    let found = c.has.ensures.0 c.if-not-has.false in
    let within = (found_range g.pages I c.args.walked.now.reach.now c.requires.walked.known c.args.inode g.volume_size found).1 in
    let reached = (c.requires.walked.known.reached c.args.inode).0 found in
    let enough = lemmas.enough_file g.pages I c.args.inode c.inode_at-fields.result.links (get_or c.args.tally.now c.args.inode 0) c.inode_at-fields.ensures.links
    (c.requires.counted.each c.args.inode within) (sym c.inode_at-fields.ensures.kind ∙ c.if-fields-eq-FILE.true) in
    ((λ t _. enough.0 (leb-true _ _ t)), (λ h. le-leb _ _ (enough.1 (h reached))))

pub returns-then-fields-lt2 : goal.returns-then-fields-lt2
returns-then-fields-lt2 c =
    let g = c.args.walked.now.image.geometry in
    let I = c.args.walked.now.image.words.now in
    let found = c.has.ensures.0 c.if-not-has.false in
    let within = (found_range g.pages I c.args.walked.now.reach.now c.requires.walked.known c.args.inode g.volume_size found).1 in
    let reached = (c.requires.walked.known.reached c.args.inode).0 found in
    let enough = lemmas.enough_directory g.pages I c.args.inode c.inode_at-fields.result.links (get_or c.args.tally.now c.args.inode 0) c.inode_at-fields.ensures.links
    (c.requires.counted.each c.args.inode within) (sym c.inode_at-fields.ensures.kind ∙ c.if-fields-ne-DIRECTORY.false) in
    ((λ t. absurd (false≢true t)), (λ h. absurd (let least = enough.1 (h reached) in omega (arith, least, c.if-fields-lt2.true))))

pub returns : goal.returns
returns c =
    let g = c.args.walked.now.image.geometry in
    let I = c.args.walked.now.image.words.now in
    let links = c.inode_at-fields.result.links in
    let counted = get_or c.args.tally.now c.args.inode 0 in
    let found = c.has.ensures.0 c.if-not-has.false in
    let within = (found_range g.pages I c.args.walked.now.reach.now c.requires.walked.known c.args.inode g.volume_size found).1 in
    let reached = (c.requires.walked.known.reached c.args.inode).0 found in
    let enough = lemmas.enough_directory g.pages I c.args.inode links counted c.inode_at-fields.ensures.links
    (c.requires.counted.each c.args.inode within) (sym c.inode_at-fields.ensures.kind ∙ c.if-fields-ne-DIRECTORY.false) in (
      (λ t _. enough.0 (let le = leb-true counted (links - 2) t in omega (arith, le, c.if-fields-lt2.false))),
      (λ h. le-leb counted (links - 2) (let least = enough.1 (h reached) in omega (arith, least))),
    )
