use Rattle.std.proofs.Common.{ℕ, ◌%◌, ◌+◌, slice_index, ap, ◌∙◌}
use Rattle.layout.specs.Name.{bytes_of_word}
use Rattle.data_ops.proofs.ReadBytes.{bytes_from}
use Rattle.data_ops.proofs.reading.word_of_file.Goals as goal

pub returns : goal.returns
returns g c = λ k few.
    let words = (g.P.Pm.view c.args.pm.now).words in
    ap (λ (w : ℕ). slice_index (bytes_of_word w) (c.args.at % 8 + k)) (c.load.ensures ∙ ap (λ (a : ℕ). slice_index words a) c.page_word.ensures.value)
    ∙ bytes_from c.args.geometry.now.pages words c.args.pages.now c.args.at k few
