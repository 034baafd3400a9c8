use Rattle.fence_token.proofs.ObjectLaws.{goes_on_as, goes_on_stays}
use Rattle.inode_state.proofs.InodeLaws.{inode_is_local, inode_words_apart}
use Rattle.inode_state.proofs.laws.inode_law.Goals as goal

pub returns-clause-events : goal.returns-clause-events
returns-clause-events c = λ inode old new events none words trail.
    let goes = goes_on_as events (inode_is_local inode) none words trail in
    record { stands = goes.stands; clean = goes.clean; in_flight = goes.in_flight inode.ticket }

pub returns-clause-others : goal.returns-clause-others
returns-clause-others c = λ inode other old new one two differ run.
    let goes = goes_on_stays (inode_is_local inode) run (λ word. inode_words_apart inode.number other.number word one two differ) in
    record { stands = goes.stands; clean = goes.clean; in_flight = goes.in_flight inode.ticket }
