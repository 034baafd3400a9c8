use Rattle.std.proofs.Common.{◌%◌, length, ◌∙◌, arith}
use Rattle.layout.specs.Name.{bytes_of_word}
use Rattle.data_ops.proofs.ReadBytes.{part_of_word}
use Rattle.data_ops.proofs.reading.read_part.Goals as goal

pub returns : goal.returns
unfolding bytes_of_word
returns g c = λ k inside.
    let long = c.copy_from_slice.ensures.len in
    part_of_word c.to_le_bytes-parts.result (bytes_of_word c.word_of_file.result) c.copy_from_slice.new.self (c.args.at % 8) (length c.args.buf.now) k c.to_le_bytes-parts.ensures c.copy_from_slice.ensures.after (omega (arith, inside, long))
    ∙ c.word_of_file.ensures k (omega (arith, inside, long, c.requires.in_word))
