use Rattle.std.proofs.Common.{◌≡◌, ◌+◌, ◌-◌, ◌≤◌, ◌++◌, length, take, drop, ap, ◌∙◌, refl, arith}
use Rattle.std.proofs.lemmas.List.{length-take, length-drop, append-nil, length-take-le}
use Rattle.script.proofs.Windows.{window_of_filled}
use Rattle.script.proofs.lines.Lines.read_more.Goals as goal

pub returns-in-Ok-clause-behind : goal.returns-in-Ok-clause-behind
returns-in-Ok-clause-behind g c =
    let l = c.make_room.new.self in
    let room = c.room-room.result in
    let given = take c.in-Ok.count c.read.new.buf in
    let k = l.end + room - l.end in
    let long : length c.read.new.buf ≡ k = omega (arith, c.read.auto.buf, length-take k (drop l.end c.deref_mut.result.now), length-drop l.end c.deref_mut.result.now) in
    let within = c.in-Ok.ensures.within in
    let fits : c.in-Ok.count ≤ k = omega (arith, within) in
    record {
      more = given;
      long = length-take-le c.in-Ok.count c.read.new.buf (omega arith);
      split = window_of_filled l.buffer c.deref_mut.result.now c.read.new.buf l.start l.end (l.end + c.in-Ok.count) c.in-Ok.count k c.deref_mut.ensures.len long (omega arith) (omega arith) fits refl
          ∙ ap (λ items. take (l.end - l.start) (drop l.start items) ++ given) c.deref_mut.ensures.value
          ∙ ap (λ bytes. bytes ++ given) c.make_room.ensures.keeps.same;
      given = c.in-Ok.ensures.gives;
    }

pub returns-in-Err-clause-err : goal.returns-in-Err-clause-err
returns-in-Err-clause-err g c =
    let l = c.make_room.new.self in
    let room = c.room-room.result in
    let k = l.end + room - l.end in
    let long : length c.read.new.buf ≡ k = omega (arith, c.read.auto.buf, length-take k (drop l.end c.deref_mut.result.now), length-drop l.end c.deref_mut.result.now) in
    window_of_filled l.buffer c.deref_mut.result.now c.read.new.buf l.start l.end l.end 0 k c.deref_mut.ensures.len long (omega arith) (omega arith) (omega arith) (omega arith)
    ∙ append-nil (take (l.end - l.start) (drop l.start c.deref_mut.result.now))
    ∙ ap (λ items. take (l.end - l.start) (drop l.start items)) c.deref_mut.ensures.value
    ∙ c.make_room.ensures.keeps.same
