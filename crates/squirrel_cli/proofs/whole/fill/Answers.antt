use Rattle.std.proofs.Common.{◌≡◌, ◌-◌, length, take, drop, subst, sym, ◌∙◌, arith, length-take, length-drop}
use borrow.Rule.Slice.PartMut.{put_mid, same_len_mid}
use Rattle.io_edge.specs.Bytes.{GivesFirst}
use Rattle.squirrel_cli.proofs.Filling.{gives_then, take_filled}
use Rattle.squirrel_cli.proofs.whole.fill.Goals as goal

pub reading-preserved : goal.reading-preserved
reading-preserved g c =
    let l = c.reading in
    let part = c.read.new.buf in
    let room = length l.buffer - l.filled in
    let within = c.in-Ok.ensures.within in
    let so_far = l.invariant in
    let fits = so_far.within in
    let rest = length-drop l.filled l.buffer in
    let cut = length-take room (drop l.filled l.buffer) in
    let long : length part ≡ room = c.read.auto.buf ∙ omega (arith, cut, rest) in
    let same : length (put_mid l.filled room l.buffer part) ≡ length l.buffer = same_len_mid l.filled room l.buffer part c.read.auto.buf in
    record {
      long = same ∙ so_far.long;
      within = omega (arith, same, within, long, fits);
      gives = subst (λ bytes. GivesFirst (g.S.Source.left c.args.source.now) bytes (g.S.Source.left c.read.new.self))
          (sym (take_filled l.buffer part l.filled room c.in-Ok.count fits within))
          (gives_then (g.S.Source.left c.args.source.now) (g.S.Source.left l.source) (g.S.Source.left c.read.new.self) (take l.filled l.buffer) (take c.in-Ok.count part) so_far.gives c.in-Ok.ensures.gives);
      no_fault = c.in-Ok.ensures.no_fault ∙ so_far.no_fault;
    }
