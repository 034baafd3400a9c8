use Rattle.std.proofs.Common.{ℕ, ◌+◌, ◌-◌, ◌/◌, List, length, take, drop, slice_index, ap, subst, ◌<◌, ◌∙◌, arith}
use Rattle.layout.specs.Geometry.{data_pages_of}
use Rattle.layout.specs.Name.{bytes_of_word}
use Rattle.data_ops.proofs.ReadBytes.{words_within, bytes_of_page}
use Rattle.data_ops.proofs.reading.read_page.Goals as goal

pub slice_bounds-words-end : goal.slice_bounds-words-end
slice_bounds-words-end g c =
    let geometry = c.args.geometry.now in
    let low : c.args.page < data_pages_of geometry.pages = subst (λ (n : ℕ). c.args.page < n) geometry.data_pages_exact c.requires.in_range in
    let room = c.requires.in_page in
    let within = words_within geometry.pages c.args.page c.args.place (length c.args.buf.now / 8) c.page_word-start.result low (omega (arith, room)) c.page_word-start.ensures.value in
    let words = ap (λ (l : List ℕ). length l) c.image.ensures in
    omega (arith, within, words, c.requires.whole)

pub returns : goal.returns
unfolding bytes_of_word
returns g c = λ k inside.
    let geometry = c.args.geometry.now in
    let words = (g.P.Pm.view c.args.pm.now).words in
    let start = c.page_word-start.result in
    let count = start + length c.args.buf.now / 8 - start in
    let long = c.write_u64_into.auto.dst in
    let whole = c.requires.whole_words in
    ap (λ (l : List ℕ). slice_index l k) c.write_u64_into.ensures
    ∙ bytes_of_page geometry.pages words _ c.args.page c.args.place start count k c.page_word-start.ensures.value (ap (λ (l : List ℕ). take count (drop start l)) c.image.ensures) (omega (arith, inside, long, whole))
