use Rattle.std.proofs.Common.{ℕ, ◌<◌, slice_index, sym, subst}
use Rattle.layout.specs.Geometry.{data_pages_of}
use Rattle.fence_token.proofs.ObjectLaws.{goes_on_as, goes_on_stays}
use Rattle.page_state.specs.Page.{EachPage, IsWordOf}
use Rattle.page_state.proofs.PageLaws.{pages_are_local, dirty_stays, dirty_events, objects_apart, own_word_not_inode_word, own_word_not_slot_word}
use Rattle.page_state.specs.Laws.{IsOfInode, IsOfSlot}
use Rattle.page_state.proofs.laws.page_law.Goals as goal

pub returns-clause-events : goal.returns-clause-events
returns-clause-events c = λ view old new events none words trail.
    let goes = goes_on_as events (pages_are_local view) none words trail in
    record { dirty = dirty_events view events none words trail; clean = goes.clean; in_flight = goes.in_flight view.ticket }

pub returns-clause-others : goal.returns-clause-others
returns-clause-others c = λ view others old new valid others_valid volume differ run.
    let in_range = subst (λ (p : ℕ). EachPage others.pages (λ page. page < data_pages_of p)) (sym volume) others_valid.in_range in
    let apart = objects_apart view others volume valid.in_range in_range differ in
    let goes = goes_on_stays (pages_are_local view) run apart in
    record { dirty = dirty_stays view run apart; clean = goes.clean; in_flight = goes.in_flight view.ticket }

pub returns-clause-inodes : goal.returns-clause-inodes
returns-clause-inodes c = λ view inode old new valid some most run.
    let apart = λ (word : ℕ) (own : IsWordOf view word) (is : IsOfInode inode word).
    own_word_not_inode_word view.volume_pages (slice_index view.pages own.index) word inode is.field (valid.in_range.each own.index own.before) some most is.is_field own.is is.at in
    let goes = goes_on_stays (pages_are_local view) run apart in
    record { dirty = dirty_stays view run apart; clean = goes.clean; in_flight = goes.in_flight view.ticket }

pub returns-clause-slots : goal.returns-clause-slots
returns-clause-slots c = λ view slot old new valid elsewhere run.
    let apart = λ (word : ℕ) (own : IsWordOf view word) (is : IsOfSlot view.volume_pages slot word).
    own_word_not_slot_word view.volume_pages (slice_index view.pages own.index) word slot is.field (valid.in_range.each own.index own.before) (elsewhere.each own.index own.before) is.is_field own.is is.at in
    let goes = goes_on_stays (pages_are_local view) run apart in
    record { dirty = dirty_stays view run apart; clean = goes.clean; in_flight = goes.in_flight view.ticket }
