use Rattle.std.proofs.Common.{◌≡◌, inl, ◌+◌, ◌-◌, ◌≤◌, length, take, subst, ◌∙◌, arith}
use Rattle.std.proofs.lemmas.List.{length-take-le}
use Rattle.pm_file.specs.Placed.{TakesZeros}
use Rattle.pm_file.proofs.Zeros.{zeros_taken, zeros_more}
use Rattle.pm_file.proofs.lock.Locked.put_zeros.Goals as goal

pub loop-place-preserved : goal.loop-place-preserved
loop-place-preserved g c =
    let bytes = g.F.ImageFile.bytes in
    let zeros = c.args.zeros.now in
    let from = c.args.from in
    let place = c.loop-place.place in
    let count = c.min-count.result in
    let so_far = c.loop-place.invariant in
    let less : count ≤ c.args.to - place = omega (arith, c.min-count.ensures) in
    let few : count ≤ length zeros = omega (arith, c.min-count.ensures) in
    let long : length (take count zeros) ≡ count = length-take-le count zeros few in
    let more : TakesZeros (bytes c.args.self.now.file) (bytes c.write_place.new.self) from (place + length (take count zeros)) = zeros_more (bytes c.args.self.now.file) (bytes c.loop-place.self.file) (bytes c.write_place.new.self) from place (take count zeros) so_far.past (zeros_taken zeros count few c.requires.zeros) so_far.zeros c.in_ok-write_place.ensures.written in
    record {
      past = omega (arith, so_far.past);
      ended = inl (omega (arith, less, c.loop-place-test.true));
      lock = c.in_ok-write_place.ensures.lock ∙ so_far.lock;
      zeros = subst (λ n. TakesZeros (bytes c.args.self.now.file) (bytes c.write_place.new.self) from (place + n)) long more;
    }
