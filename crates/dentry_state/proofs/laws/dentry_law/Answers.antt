use Rattle.std.proofs.Common.{ℕ, subst}
use Rattle.fence_token.proofs.ObjectLaws.{goes_on_as, goes_on_stays}
use Rattle.inode_state.proofs.InodeLaws.{inode_is_local}
use Rattle.dentry_state.specs.Dentry.{IsSlotWord}
use Rattle.dentry_state.proofs.DentryLaws.{dentry_is_local, dentry_goes_on, dirty_events, slot_words_apart, slot_word_is_no_inode_word}
use Rattle.dentry_state.proofs.laws.dentry_law.Goals as goal

pub returns-clause-events : goal.returns-clause-events
returns-clause-events c = λ dentry old new events none words trail.
    let goes = goes_on_as events (dentry_is_local dentry) none words trail in
    record { dirty = dirty_events dentry events none words trail; clean = goes.clean; in_flight = goes.in_flight dentry.ticket }

pub returns-clause-others : goal.returns-clause-others
returns-clause-others c = λ dentry other old new volume differ run.
    dentry_goes_on dentry run (λ word own is. slot_words_apart dentry.pages dentry.slot other.slot word differ own (subst (λ (p : ℕ). IsSlotWord p other.slot word) volume is))

pub returns-clause-inodes : goal.returns-clause-inodes
returns-clause-inodes c = λ dentry inode old new of run.
    dentry_goes_on dentry run (λ word. slot_word_is_no_inode_word dentry.pages dentry.slot inode.number word of.0 of.1)

pub returns-clause-slots : goal.returns-clause-slots
returns-clause-slots c = λ inode dentry old new of run.
    let goes = goes_on_stays (inode_is_local inode) run (λ word own slot. slot_word_is_no_inode_word dentry.pages dentry.slot inode.number word of.0 of.1 slot own) in
    record { stands = goes.stands; clean = goes.clean; in_flight = goes.in_flight inode.ticket }
