use Rattle.image_reading.proofs.scanned.Scanned.is_reached.Goals as goal

pub returns : goal.returns
returns c =
    let found = c.requires.known.reached c.args.inode in
    ((λ t. found.0 (c.has.ensures.0 t)), (λ reached. c.has.ensures.1 (found.1 reached)))
