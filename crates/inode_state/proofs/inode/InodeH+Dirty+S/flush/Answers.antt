use Rattle.std.proofs.Common.{◌≡◌, ℕ, ◌-◌, ◌≤◌, sym, ◌∙◌, ap, subst, arith}
use Rattle.std.specs.Prelude.{Option, Some}
use Rattle.pm_trait.specs.Trail.{Trail}
use Rattle.pm_trait.specs.Device.{IsFlushed}
use Rattle.layout.specs.Geometry.{inode_word_of}
use Rattle.layout.specs.Fields.{inode_fields}
use Rattle.fence_token.specs.Objects.{StandsInFlight}
use Rattle.fence_token.proofs.ObjectLaws.{stands_same, stands_in_flight_now}
use Rattle.inode_state.specs.Inode.{InodeView, IsInodeWord, fields_at}
use Rattle.inode_state.proofs.InodeLaws.{inode_line}
use Rattle.inode_state.proofs.Stored.{stands_as, word_inside}
use Rattle.inode_state.proofs.Line.{one_line, in_order, flushed_line}
use Rattle.inode_state.proofs.inode.InodeH+Dirty+S.flush.Goals as goal

pub flush_span-ticket-requires-clause-order : goal.flush_span-ticket-requires-clause-order
flush_span-ticket-requires-clause-order g c = in_order c.self.inside.number _ _ c.inode_word-first.ensures.value c.inode_word-last.ensures.value

pub flush_span-ticket-requires-clause-in_range : goal.flush_span-ticket-requires-clause-in_range
flush_span-ticket-requires-clause-in_range g c =
    let number = ap (λ (inode : InodeView). inode.number) c.self.view_is in
    word_inside c.args.self.number (inode_fields - 1) c.inode_word-last.result (g.P.Pm.view c.args.pm.now).words (c.inode_word-last.ensures.value ∙ ap (λ (n : ℕ). inode_word_of n (inode_fields - 1)) number) (omega arith) c.requires.stands.inside

pub flush_span-ticket-requires-clause-room : goal.flush_span-ticket-requires-clause-room
flush_span-ticket-requires-clause-room g c =
    let same = one_line c.self.inside.number _ _ c.inode_word-first.ensures.value c.inode_word-last.ensures.value in
    omega (arith, same, c.requires.room)

pub returns-clause-device : goal.returns-clause-device
returns-clause-device g c =
    let number = ap (λ (inode : InodeView). inode.number) c.self.view_is in
    flushed_line _ _ _ c.flush_span-ticket.ensures.device (one_line c.self.inside.number _ _ c.inode_word-first.ensures.value c.inode_word-last.ensures.value)
    (c.inode_word-first.ensures.value ∙ ap (λ (n : ℕ). inode_word_of n 0) number)

-- a word from the first to the last is flushed
word_flushed : {trail : Option Trail} (n m first last word : ℕ) → n ≡ m → first ≡ inode_word_of n 0 → last ≡ inode_word_of n (inode_fields - 1) → ((other : ℕ) → first ≤ other → other ≤ last → IsFlushed trail other) → IsInodeWord m word → IsFlushed trail word
word_flushed n m first last word number at_first at_last flushed is =
    let between = inode_line n word (subst (λ (k : ℕ). IsInodeWord k word) (sym number) is) in
    flushed word (omega (arith, between.0, at_first)) (omega (arith, between.1, at_last))

pub returns-clause-flushed : goal.returns-clause-flushed
returns-clause-flushed g c = λ word is.
    word_flushed c.self.inside.number c.args.self.number _ _ word (ap (λ (inode : InodeView). inode.number) c.self.view_is) c.inode_word-first.ensures.value c.inode_word-last.ensures.value c.flush_span-ticket.ensures.flushed is

pub returns-clause-in_flight : goal.returns-clause-in_flight
returns-clause-in_flight g c =
    let pm = c.flush_span-ticket.new.pm in
    let number = ap (λ (inode : InodeView). inode.number) c.of.ensures in
    let view = ap (λ (inode : InodeView). inode.number) c.self.view_is in
    let fields = ap (λ (inode : InodeView). inode.fields) c.of.ensures ∙ ap (λ (inode : InodeView). inode.fields) c.self.view_is in
    let ticket = ap (λ (inode : InodeView). inode.ticket) c.of.ensures ∙ ap (λ (fences : ℕ). Some fences) c.flush_span-ticket.ensures.ticket in
    let stands = stands_same c.flush_span-ticket.ensures.device.words (stands_as c.args.self.number c.of.result.number c.args.self.fields c.of.result.fields (number ∙ view) fields c.requires.stands) in
    let flight = stands_in_flight_now (g.P.Pm.view pm).trail (g.met.P.Pm.honest pm)
    (λ word is. word_flushed c.self.inside.number c.of.result.number _ _ word (sym number) c.inode_word-first.ensures.value c.inode_word-last.ensures.value c.flush_span-ticket.ensures.flushed is) stands in
    subst (λ (t : Option ℕ). StandsInFlight (IsInodeWord c.of.result.number) (λ words. fields_at words c.of.result.number ≡ c.of.result.fields) t (g.P.Pm.view pm).words (g.P.Pm.view pm).trail) (sym ticket) flight
