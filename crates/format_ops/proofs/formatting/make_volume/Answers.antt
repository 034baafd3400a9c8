use Rattle.pm_trait.proofs.Unfolding.{then, failed, last}
use Rattle.format_ops.proofs.Course.{made}
use Rattle.format_ops.proofs.formatting.make_volume.Goals as goal

pub returns-in_err-set_word : goal.returns-in_err-set_word
returns-in_err-set_word g c =
    let all = failed c.from_residual.result c.from_residual.ensures.0 c.in_err-set_word.ensures.takes in
    let told = made c.args.geometry.now.pages c.args.geometry.now.volume_size c.requires.begins.whole c.requires.begins.settled all in
    record { unfolds = all; formatted = told.formatted; any_moment = told.any_moment; words = told.words; device = told.device }

pub returns-in_err-write_tables : goal.returns-in_err-write_tables
returns-in_err-write_tables g c =
    let all = then c.in_ok-set_word.ensures.takes (failed c.from_residual-in_err-write_tables.result c.from_residual-in_err-write_tables.ensures.0 c.in_err-write_tables.ensures.takes) in
    let told = made c.args.geometry.now.pages c.args.geometry.now.volume_size c.requires.begins.whole c.requires.begins.settled all in
    record { unfolds = all; formatted = told.formatted; any_moment = told.any_moment; words = told.words; device = told.device }

pub returns : goal.returns
returns g c =
    let all = then c.in_ok-set_word.ensures.takes (then c.in_ok-write_tables.ensures.takes (last c.set_word-2.result c.set_word-2.ensures.takes)) in
    let told = made c.args.geometry.now.pages c.args.geometry.now.volume_size c.requires.begins.whole c.requires.begins.settled all in
    record { unfolds = all; formatted = told.formatted; any_moment = told.any_moment; words = told.words; device = told.device }
