use Rattle.std.proofs.Common.{ℕ, List, Contains, sym, subst}
use Rattle.volume.specs.Volume.{VolumeView}
use Rattle.volume.specs.Entered.{MayGo}
use Rattle.volume.proofs.volume.Volume.give_inode.Goals as goal

pub give_all-requires-clause-taken : goal.give_all-requires-clause-taken
give_all-requires-clause-taken c = λ page there.
    let may_go = subst (λ (volume : VolumeView). MayGo volume c.args.loss.now.inode) (sym c.self.view_is) (c.requires.may_go c.if-not-loss.false) in
    may_go.pages_taken page (subst (λ (pages : List ℕ). Contains pages page) c.pages-pages.ensures.pages there)
