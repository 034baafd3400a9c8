use Rattle.std.proofs.Common.{◌+◌, ◌<◌, length, refl, sym, subst, arith}
use Rattle.std.proofs.lemmas.Bool.{false≢true}
use Rattle.sessions.proofs.TaskNamed.{IsFoundBelow, found_of_all, found_still, found_less, none_there, one_there, not_less}
use Rattle.sessions.proofs.task.least_of.Goals as goal
use Rattle.sessions.proofs.task.least_of.Goals.{in-Some+then-names+then-is_less, in-Some+else-names, else-names-via-then-names+else-is_less, else-names-via-else-names, in_default}

pub loop-k-preserved : goal.loop-k-preserved
loop-k-preserved c =
    let inodes = c.args.inodes.now in
    let nodes = c.args.nodes.now in
    let k = c.loop-k.k in
    let least = c.loop-k.least in
    let before = c.loop-k.invariant in
    let within : k < length inodes = omega (arith, c.told-inodes) in
    elim c.match-inodes-k.branch [
      | in-Some+then-names+then-is_less w ↦
          let inode = w.in-Some.inode in
          subst (IsFoundBelow inodes nodes (k + 1)) (sym w.least-is)
          (found_less inodes nodes k inode least before within w.in-Some.is (w.if-names.ensures.0 refl) (w.if-is_less.ensures.0 refl))
      | in-Some+else-names w ↦
          let inode = w.in-Some.inode in
          elim w.else-names.branch [
            | else-names-via-then-names+else-is_less w' ↦
                subst (IsFoundBelow inodes nodes (k + 1)) (sym w.least-is)
                (found_still inodes nodes k least before (one_there inodes nodes k inode least within w.in-Some.is (λ named. not_less inode least w'.if-is_less.ensures.1)))
            | else-names-via-else-names w' ↦
                subst (IsFoundBelow inodes nodes (k + 1)) (sym w.least-is)
                (found_still inodes nodes k least before (one_there inodes nodes k inode least within w.in-Some.is (λ named. absurd (false≢true (w'.if-names.ensures.1 named)))))
          ]
      | in_default w ↦
          subst (IsFoundBelow inodes nodes (k + 1)) (sym w.least-is) (found_still inodes nodes k least before (none_there inodes nodes k least within w.in_default.is))
    ]

pub returns : goal.returns
returns c = found_of_all c.args.inodes.now c.args.nodes.now c.loop-k.k c.loop-k.least (omega (arith, c.told-inodes)) c.loop-k.invariant
