use Rattle.std.proofs.Common.{ℕ, ◌<◌, List, Some, sym, ap, subst, ◌∙◌}
use Rattle.std.proofs.lemmas.Result.{err_from_is_err_and}
use Rattle.layout.specs.Geometry.{slots_of}
use Rattle.layout.specs.Fields.{slot_inode}
use Rattle.tree_model.specs.declared.command.Command.TheVariants.{Rename}
use Rattle.volume.specs.Volume.{VolumeView}
use Rattle.volume.specs.declared.plan.Moving.{Moving}
use Rattle.volume.specs.declared.plan.Action.TheVariants.{Move}
use Rattle.image_reading.specs.Residue.{no_residue}
use Rattle.volume.specs.Walks.{replace_row}
use Rattle.volume.specs.Prepared.{IsLeftWith, IsPlanFound}
use Rattle.volume.proofs.WalkedBeside.{stands_tree}
use Rattle.volume.proofs.Holders.{named_there}
use Rattle.volume.proofs.RemovalRows.{name_is}
use Rattle.volume.proofs.RenameRows.{plan_alone, refusal_alone, keep_planned, onto_fails, onto_into_itself, onto_planned}
use Rattle.volume.proofs.volume.Volume.move_onto_name.Goals as goal

pub slot_at-inode-requires-clause-slot_in_range : goal.slot_at-inode-requires-clause-slot_in_range
slot_at-inode-requires-clause-slot_in_range g c =
    let (state, stands) = c.requires.stands in
    let within = (name_is c.args.self.now (g.P.Pm.view c.args.pm.now) state no_residue stands c.args.to.now _ _ (c.requires.target state stands) c.args.slot c.requires.there).slot_is.slot.live.held.in_range in
    subst (λ (volume : VolumeView). c.args.slot < slots_of volume.size) (sym c.self.view_is) within

pub returns-then-inode-source : goal.returns-then-inode-source
returns-then-inode-source g c =
    let device = (g.P.Pm.view c.args.pm.now) in
    let found = c.slot_at-inode.ensures.inode ∙ ap (λ (words : List ℕ). slot_inode c.self.inside.geometry.pages words c.args.slot) c.image.ensures ∙ ap (λ (volume : VolumeView). slot_inode volume.size device.words c.args.slot) c.self.view_is in
    plan_alone c.args.self.now device c.args.from.now c.args.to.now _ (λ state stands. keep_planned c.args.self.now device state stands c.args.from.now c.args.to.now c.args.target.directory c.args.target.name (c.requires.target state stands) (c.requires.source state stands).row c.args.source.directory c.args.source.name c.args.source.slot c.args.source.inode (c.requires.source state stands).named c.args.slot c.requires.there (sym found ∙ c.if-inode-source.true))

pub kind_of-kind-requires-clause-there : goal.kind_of-kind-requires-clause-there
kind_of-kind-requires-clause-there g c =
    let (state, stands) = c.requires.stands in
    (state, stands, (stands_tree c.args.self.now (g.P.Pm.view c.args.pm.now) state no_residue stands).present c.args.from.now c.args.source.inode (c.requires.source state stands).named.inode_is)

pub is_into_itself-requires-clause-there : goal.is_into_itself-requires-clause-there
is_into_itself-requires-clause-there g c =
    let (state, stands) = c.requires.stands in
    (state, stands, (stands_tree c.args.self.now (g.P.Pm.view c.args.pm.now) state no_residue stands).present c.args.from.now c.args.source.inode (c.requires.source state stands).named.inode_is)

pub replaced-requires-clause-there : goal.replaced-requires-clause-there
replaced-requires-clause-there g c =
    let (state, stands) = c.requires.stands in
    let device = (g.P.Pm.view c.args.pm.now) in
    let found = c.slot_at-inode.ensures.inode ∙ ap (λ (words : List ℕ). slot_inode c.self.inside.geometry.pages words c.args.slot) c.image.ensures ∙ ap (λ (volume : VolumeView). slot_inode volume.size device.words c.args.slot) c.self.view_is in
    let named = named_there c.args.self.now device state no_residue stands c.args.to.now c.args.target.directory c.args.target.name (c.requires.target state stands) c.args.slot c.requires.there in
    (state, stands, (stands_tree c.args.self.now device state no_residue stands).present c.args.to.now c.slot_at-inode.result.inode (named ∙ ap (λ (i : ℕ). Some i) (sym found)))

pub returns-in_err-loss : goal.returns-in_err-loss
returns-in_err-loss g c =
    let device = (g.P.Pm.view c.args.pm.now) in
    let found = c.slot_at-inode.ensures.inode ∙ ap (λ (words : List ℕ). slot_inode c.self.inside.geometry.pages words c.args.slot) c.image.ensures ∙ ap (λ (volume : VolumeView). slot_inode volume.size device.words c.args.slot) c.self.view_is in
    let p = err_from_is_err_and c.from_residual.result c.from_residual.ensures.1 in
    rw (p.1, p.2) (refusal_alone c.args.self.now device c.args.from.now c.args.to.now _ (λ state stands.
    onto_fails c.args.self.now device state stands c.args.from.now c.args.to.now c.args.target.directory c.args.target.name (c.requires.target state stands) (c.requires.source state stands).row c.args.source.directory c.args.source.name c.args.source.slot c.args.source.inode (c.requires.source state stands).named c.args.slot c.requires.there (λ same. c.if-inode-source.false (found ∙ same)) c.kind_of-kind.result (c.kind_of-kind.ensures state stands) c.in_err-loss.field-0.0
    (ap (replace_row state.tree c.kind_of-kind.result) (sym found) ∙ c.in_err-loss.ensures state stands)))

pub returns-then-is_into_itself : goal.returns-then-is_into_itself
returns-then-is_into_itself g c =
    let device = (g.P.Pm.view c.args.pm.now) in
    let found = c.slot_at-inode.ensures.inode ∙ ap (λ (words : List ℕ). slot_inode c.self.inside.geometry.pages words c.args.slot) c.image.ensures ∙ ap (λ (volume : VolumeView). slot_inode volume.size device.words c.args.slot) c.self.view_is in
    refusal_alone c.args.self.now device c.args.from.now c.args.to.now _ (λ state stands. onto_into_itself c.args.self.now device state stands c.args.from.now c.args.to.now c.args.target.directory c.args.target.name (c.requires.target state stands) (c.requires.source state stands).row c.args.source.directory c.args.source.name c.args.source.slot c.args.source.inode (c.requires.source state stands).named c.args.slot c.requires.there (λ same. c.if-inode-source.false (found ∙ same)) c.kind_of-kind.result (c.kind_of-kind.ensures state stands)
    (ap (replace_row state.tree c.kind_of-kind.result) (sym found) ∙ (c.in_ok-loss.ensures state stands).0) (sym (c.if-is_into_itself.ensures state stands)))

pub moving-moving-requires-clause-target : goal.moving-moving-requires-clause-target
moving-moving-requires-clause-target g c =
    let (state, stands) = c.requires.stands in
    (name_is c.args.self.now (g.P.Pm.view c.args.pm.now) state no_residue stands c.args.to.now _ _ (c.requires.target state stands) c.args.slot c.requires.there).slot_is.slot.live.held.in_range

pub returns : goal.returns
returns g c =
    let device = (g.P.Pm.view c.args.pm.now) in
    let found = c.slot_at-inode.ensures.inode ∙ ap (λ (words : List ℕ). slot_inode c.self.inside.geometry.pages words c.args.slot) c.image.ensures ∙ ap (λ (volume : VolumeView). slot_inode volume.size device.words c.args.slot) c.self.view_is in
    subst (λ (moving : Moving). IsPlanFound c.args.self.now device (Rename c.args.from.now c.args.to.now) (Move moving)) (sym c.moving-moving.ensures.is)
    (plan_alone c.args.self.now device c.args.from.now c.args.to.now _ (λ state stands.
    let (replaces, left) = c.in_ok-loss.ensures state stands in
    onto_planned c.args.self.now device state stands c.args.from.now c.args.to.now c.args.target.directory c.args.target.name (c.requires.target state stands) (c.requires.source state stands).row c.args.source.directory c.args.source.name c.args.source.slot c.args.source.inode (c.requires.source state stands).named c.args.slot c.requires.there (λ same. c.if-inode-source.false (found ∙ same)) c.kind_of-kind.result (c.kind_of-kind.ensures state stands)
    (ap (replace_row state.tree c.kind_of-kind.result) (sym found) ∙ replaces) (sym (c.if-is_into_itself.ensures state stands)) c.in_ok-loss.loss c.moving-moving.result.given_back
    (subst (λ (i : ℕ). IsLeftWith c.args.self.now.size device.words i c.kind_of-kind.result c.in_ok-loss.loss) found left) c.moving-moving.ensures.given_back))
