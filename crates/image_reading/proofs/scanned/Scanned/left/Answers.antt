use Rattle.image_reading.proofs.Readers.{target_held}
use Rattle.image_reading.proofs.scanned.Scanned.left.Goals as goal

pub slot_at-requires-clause-slot_in_range : goal.slot_at-requires-clause-slot_in_range
slot_at-requires-clause-slot_in_range c =
    let image = c.args.self.now.image in
    (target_held image.geometry.pages image.words.now _ _ c.requires.known.pointer c.requires.coherent c.if-rename-eq0.false).in_range
