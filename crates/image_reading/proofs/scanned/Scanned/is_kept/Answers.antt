use Rattle.std.proofs.Common.{◌≡◌, inl, sym, ap, subst, ◌∙◌, lt-ltb, ltb-true, arith}
use Rattle.std.proofs.lemmas.Bool.{false≢true, iff_false}
use Rattle.layout.specs.Fields.{inode_kind, inode_size, page_owner}
use Rattle.image_reading.specs.Reading.{Reached, HasBytes, pages_of_size}
use Rattle.image_reading.specs.Walk.{IsFound}
use Rattle.image_reading.proofs.Owners.{found_range}
use Rattle.image_reading.proofs.Readers.{kept_within, kept_owner, kept_below, kept_live, live_kept}
use Rattle.image_reading.proofs.Stamped.{pages_of}
use Rattle.image_reading.proofs.scanned.Scanned.is_kept.Goals as goal

pub returns-then-page-self : goal.returns-then-page-self
returns-then-page-self c =
    let image = c.args.self.now.image in (
      (λ t. absurd (false≢true t)),
      (λ kept. absurd (let within = kept_within image.geometry.pages image.words.now c.args.page kept in omega (arith, within, c.if-page-self.true, image.geometry.data_pages_exact))),
    )

pub returns-then-not-has : goal.returns-then-not-has
returns-then-not-has c =
    let image = c.args.self.now.image in (
      (λ t. absurd (false≢true t)),
      (λ kept. absurd (iff_false c.has.ensures c.if-not-has.true
          (subst (IsFound c.args.self.now.reach.now) (sym c.descriptor_at-descriptor.ensures.owner) ((c.requires.known.reached _).1 (kept_owner image.geometry.pages image.words.now c.args.page kept))))),
    )

pub inode_at-inode-requires-clause-from_one : goal.inode_at-inode-requires-clause-from_one
inode_at-inode-requires-clause-from_one c =
    let image = c.args.self.now.image in
    (found_range image.geometry.pages image.words.now c.args.self.now.reach.now c.requires.known c.descriptor_at-descriptor.result.owner image.geometry.volume_size (c.has.ensures.0 c.if-not-has.false)).0

pub inode_at-inode-requires-clause-inode_in_range : goal.inode_at-inode-requires-clause-inode_in_range
inode_at-inode-requires-clause-inode_in_range c =
    let image = c.args.self.now.image in
    let most = (found_range image.geometry.pages image.words.now c.args.self.now.reach.now c.requires.known c.descriptor_at-descriptor.result.owner image.geometry.volume_size (c.has.ensures.0 c.if-not-has.false)).1 in
    omega (arith, most, image.geometry.inodes_exact)

pub returns-then-inode-eq-FILE : goal.returns-then-inode-eq-FILE
returns-then-inode-eq-FILE c =
    let image = c.args.self.now.image in
    let P = image.geometry.pages in
    let I = image.words.now in
    let is = c.descriptor_at-descriptor.ensures.owner in
    let offset = c.descriptor_at-descriptor.ensures.offset in
    let file : HasBytes I (page_owner P I c.args.page) = ap (inode_kind I) (sym is) ∙ sym c.inode_at-inode.ensures.kind ∙ c.if-inode-eq-FILE.true in
    let reached : Reached P I (page_owner P I c.args.page) = subst (Reached P I) is ((c.requires.known.reached _).0 (c.has.ensures.0 c.if-not-has.false)) in
    let count : c.div_ceil.result ≡ pages_of_size (inode_size I (page_owner P I c.args.page)) =
    c.div_ceil.ensures ∙ pages_of c.inode_at-inode.result.size ∙ ap pages_of_size (c.inode_at-inode.ensures.size ∙ ap (inode_size I) is) in (
      (λ t. inl (record {
        in_range = omega (arith, c.if-page-self.false, image.geometry.data_pages_exact);
        owner = reached;
        file = file;
        below = let lt = ltb-true c.descriptor_at-descriptor.result.offset c.div_ceil.result t in omega (arith, lt, count, offset);
      })),
      (λ kept. lt-ltb c.descriptor_at-descriptor.result.offset c.div_ceil.result (let lt = kept_below P I c.args.page file kept in omega (arith, lt, count, offset))),
    )

pub returns : goal.returns
returns c =
    let image = c.args.self.now.image in
    let P = image.geometry.pages in
    let I = image.words.now in
    let is = c.descriptor_at-descriptor.ensures.owner in
    let other : ¬ HasBytes I (page_owner P I c.args.page) = λ file. c.if-inode-eq-FILE.false (c.inode_at-inode.ensures.kind ∙ ap (inode_kind I) is ∙ file) in
    let reached : Reached P I (page_owner P I c.args.page) = subst (Reached P I) is ((c.requires.known.reached _).0 (c.has.ensures.0 c.if-not-has.false)) in (
      (λ t. live_kept P I c.args.page c.requires.coherent reached other (c.has_live_slot.ensures.0 t)),
      (λ kept. c.has_live_slot.ensures.1 (kept_live P I c.args.page other kept)),
    )
