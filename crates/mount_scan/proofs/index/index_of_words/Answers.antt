use Rattle.mount_scan.proofs.Carried.{tidy, all_named}
use Rattle.mount_scan.proofs.Holding.{knows_nodes}
use Rattle.mount_scan.proofs.index.index_of_words.Goals as goal

pub returns : goal.returns
returns c = λ K mended.
    let image = c.args.scanned.now.image in
    let P = image.geometry.pages in
    let W = image.words.now in
    let coherent = c.requires.coherent in
    let names = c.names.result.now in
    knows_nodes P K (tidy P W coherent K mended) c.add_entries.new.index names (c.in_ok-add_entries.ensures K mended) (all_named P W coherent K mended names c.names.ensures)
