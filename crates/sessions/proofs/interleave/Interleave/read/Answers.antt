use Rattle.std.proofs.Common.{◌≤◌, refl, sym, ap, subst, ◌∙◌}
use Rattle.tree_model.specs.Step.{space_of}
use Rattle.image_counts.specs.Laws.{supply_beside}
use Rattle.volatile_index.specs.Index.{inodes_of_index}
use Rattle.volume.specs.Beside.{HasNodeBeside, IsStandingBeside, StandsBeside}
use Rattle.volume.specs.Volume.{VolumeView}
use Rattle.volume.specs.declared.plan.Action.TheVariants.{Read, Status, Names, Space}
use Rattle.data_ops.specs.Reading.{HasFile}
use Rattle.session_laws.specs.Calls.{left_of_all}
use Rattle.sessions.specs.Interleave.{InterleaveView}
use Rattle.sessions.proofs.CarryReads.{reads_as, reads_stands, reads_beside, read_file, read_short, read_told, status_there, status_told, names_directory, names_within}
use Rattle.sessions.proofs.CarryReads.{names_told, space_told}
use Rattle.sessions.proofs.interleave.Interleave.read.Goals as goal

-- ---- bytes

pub fill-requires-clause-file : goal.fill-requires-clause-file
fill-requires-clause-file g c =
    let (calls, history, session, command, named, planned) = c.requires.planned in
    subst (λ (volume : VolumeView). HasFile volume (g.P.Pm.view c.args.pm.now) c.in-Read.reading.inode) (sym (ap (λ (w : InterleaveView). w.volume) c.self.view_is))
    (read_file c.args.self.now (g.P.Pm.view c.args.pm.now) calls history session command named c.args.plan.now planned c.in-Read.reading (sym c.action.ensures ∙ c.in-Read.is))

pub fill-requires-clause-short : goal.fill-requires-clause-short
fill-requires-clause-short g c =
    let (calls, history, session, command, named, planned) = c.requires.planned in
    read_short c.args.self.now (g.P.Pm.view c.args.pm.now) calls history session command named c.args.plan.now planned c.in-Read.reading (sym c.action.ensures ∙ c.in-Read.is)

pub returns-in-Read : goal.returns-in-Read
returns-in-Read g c = λ calls history session command named planned.
    let old = c.args.self.now in
    let device = g.P.Pm.view c.args.pm.now in
    let is = sym c.action.ensures ∙ c.in-Read.is in
    let beside = subst (λ (volume : VolumeView). StandsBeside volume device planned.weaving.words (left_of_all old.volume calls))
    (sym (ap (λ (w : InterleaveView). w.volume) c.self.view_is)) (reads_beside old device calls history session command named c.args.plan.now planned) in
    let told = read_told old device calls history session command named c.args.plan.now planned c.in-Read.reading is old.bytes c.fill.new.self c.fill.result
    (c.fill.ensures.bytes planned.weaving.words (left_of_all old.volume calls) beside) c.fill.ensures.count in (
      reads_as old device calls history session command named c.args.plan.now planned (Read c.in-Read.reading) is,
      told.0,
      ap (λ (w : InterleaveView). record w { bytes = c.fill.new.self }) c.self.view_is,
      told.1,
    )

-- ---- what is told of a node

pub stat-requires-clause-there : goal.stat-requires-clause-there
stat-requires-clause-there g c =
    let (calls, history, session, command, named, planned) = c.requires.planned in
    subst (λ (volume : VolumeView). HasNodeBeside volume (g.P.Pm.view c.args.pm.now) c.in-Status.inode) (sym (ap (λ (w : InterleaveView). w.volume) c.self.view_is))
    (status_there c.args.self.now (g.P.Pm.view c.args.pm.now) calls history session command named c.args.plan.now planned c.in-Status.inode (sym c.action.ensures ∙ c.in-Status.is))

pub returns-in-Status : goal.returns-in-Status
returns-in-Status g c = λ calls history session command named planned.
    let old = c.args.self.now in
    let device = g.P.Pm.view c.args.pm.now in
    let is = sym c.action.ensures ∙ c.in-Status.is in
    let beside = subst (λ (volume : VolumeView). StandsBeside volume device planned.weaving.words (left_of_all old.volume calls))
    (sym (ap (λ (w : InterleaveView). w.volume) c.self.view_is)) (reads_beside old device calls history session command named c.args.plan.now planned) in
    let told = status_told old device calls history session command named c.args.plan.now planned c.in-Status.inode is old.bytes c.stat.result
    (c.stat.ensures planned.weaving.words (left_of_all old.volume calls) beside) in
    (reads_as old device calls history session command named c.args.plan.now planned (Status c.in-Status.inode) is, told.0, refl, told.1)

-- ---- names

pub count-requires-clause-from_one : goal.count-requires-clause-from_one
count-requires-clause-from_one g c =
    let (calls, history, session, command, named, planned) = c.requires.planned in
    (names_within c.args.self.now (g.P.Pm.view c.args.pm.now) calls history session command named c.args.plan.now planned c.in-Names.inode (sym c.action.ensures ∙ c.in-Names.is)).0

pub count-requires-clause-in_range : goal.count-requires-clause-in_range
count-requires-clause-in_range g c =
    let (calls, history, session, command, named, planned) = c.requires.planned in
    subst (λ (volume : VolumeView). c.in-Names.inode ≤ inodes_of_index volume.index) (sym (ap (λ (w : InterleaveView). w.volume) c.self.view_is))
    (names_within c.args.self.now (g.P.Pm.view c.args.pm.now) calls history session command named c.args.plan.now planned c.in-Names.inode (sym c.action.ensures ∙ c.in-Names.is)).1

pub returns-in-Names : goal.returns-in-Names
returns-in-Names g c = λ calls history session command named planned.
    let old = c.args.self.now in
    let device = g.P.Pm.view c.args.pm.now in
    let is = sym c.action.ensures ∙ c.in-Names.is in
    let beside = subst (λ (volume : VolumeView). StandsBeside volume device planned.weaving.words (left_of_all old.volume calls))
    (sym (ap (λ (w : InterleaveView). w.volume) c.self.view_is)) (reads_beside old device calls history session command named c.args.plan.now planned) in
    let told = names_told old device calls history session command named c.args.plan.now planned c.in-Names.inode is old.bytes c.count.result
    (c.count.ensures.names device planned.weaving.words (left_of_all old.volume calls) beside
    (names_directory old device calls history session command named c.args.plan.now planned c.in-Names.inode is)) in
    (reads_as old device calls history session command named c.args.plan.now planned (Names c.in-Names.inode) is, told.0, refl, told.1)

-- ---- what is free

pub free-requires-clause-stands : goal.free-requires-clause-stands
free-requires-clause-stands g c =
    let (calls, history, session, command, named, planned) = c.requires.planned in
    subst (λ (volume : VolumeView). IsStandingBeside volume (g.P.Pm.view c.args.pm.now)) (sym (ap (λ (w : InterleaveView). w.volume) c.self.view_is))
    (reads_stands c.args.self.now (g.P.Pm.view c.args.pm.now) calls history session command named c.args.plan.now planned)

pub returns-in-Space : goal.returns-in-Space
returns-in-Space g c = λ calls history session command named planned.
    let old = c.args.self.now in
    let device = g.P.Pm.view c.args.pm.now in
    let is = sym c.action.ensures ∙ c.in-Space.is in
    let same = ap (λ (w : InterleaveView). w.volume) c.self.view_is in
    let beside = subst (λ (volume : VolumeView). StandsBeside volume device planned.weaving.words (left_of_all old.volume calls))
    (sym same) (reads_beside old device calls history session command named c.args.plan.now planned) in
    let told = space_told old device calls history session command named c.args.plan.now planned is old.bytes c.free.result
    (c.free.ensures planned.weaving.words (left_of_all old.volume calls) beside
    ∙ ap (λ (volume : VolumeView). space_of (supply_beside volume.size (left_of_all old.volume calls)) planned.weaving.words.tree planned.weaving.words.room) same) in
    (reads_as old device calls history session command named c.args.plan.now planned Space is, told.0, refl, told.1)
