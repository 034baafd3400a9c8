use Rattle.std.proofs.Common.{refl, sym, ◌∙◌}
use Rattle.image_reading.specs.Residue.{no_residue}
use Rattle.volume.specs.declared.plan.Action.TheVariants.{Move, Write, Resize}
use Rattle.volume.proofs.Beside.{stands_beside, untouched_nothing, has_node_beside}
use Rattle.engine.proofs.Asked.{writes, truncates, either_changes, for_making, for_linking, for_removing, for_renaming, for_writing, for_truncating}
use Rattle.engine.proofs.Carried.{does_carried}
use Rattle.engine.proofs.Commands.{does_told}
use Rattle.engine.proofs.Ready.{none_made}
use Rattle.volume.proofs.Beside.{stands_beside}
use Rattle.engine.proofs.Told.{changes_as, node_told, directory_listed, directory_within, file_read, status_replied, names_replied, space_replied, read_replied}
use Rattle.engine.proofs.command.carry_out.Goals as goal

-- ---- an entry is made

pub apply_create-requires-clause-planned : goal.apply_create-requires-clause-planned
apply_create-requires-clause-planned g c = for_making c.requires.planned (sym c.action.ensures) c.in-Make.is c.in-File.is

pub returns-in-File-clause-does : goal.returns-in-File-clause-does
returns-in-File-clause-does g c = does_carried c.apply_create.ensures.carries tt (sym c.action.ensures ∙ c.in-Make.is) refl (λ state plan_for. tt) c.requires.ready

pub apply_mkdir-requires-clause-planned : goal.apply_mkdir-requires-clause-planned
apply_mkdir-requires-clause-planned g c = for_making c.requires.planned (sym c.action.ensures) c.in-Make.is c.in-Directory.is

pub returns-in-Directory-clause-does : goal.returns-in-Directory-clause-does
returns-in-Directory-clause-does g c = does_carried c.apply_mkdir.ensures.carries tt (sym c.action.ensures ∙ c.in-Make.is) refl (λ state plan_for. tt) c.requires.ready

-- ---- a name is added

pub apply_link-requires-clause-planned : goal.apply_link-requires-clause-planned
apply_link-requires-clause-planned g c = for_linking c.requires.planned (sym c.action.ensures) c.in-Name.is

pub returns-in-Name-clause-does : goal.returns-in-Name-clause-does
returns-in-Name-clause-does g c = does_carried c.apply_link.ensures.carries tt (sym c.action.ensures ∙ c.in-Name.is) refl (λ state plan_for. tt) c.requires.ready

-- ---- a name is taken away

pub apply_unlink-requires-clause-planned : goal.apply_unlink-requires-clause-planned
apply_unlink-requires-clause-planned g c = for_removing c.requires.planned (sym c.action.ensures) c.in-Remove.is c.in-File-kind.is

pub returns-in-File-kind-clause-does : goal.returns-in-File-kind-clause-does
returns-in-File-kind-clause-does g c = does_carried c.apply_unlink.ensures.carries tt (sym c.action.ensures ∙ c.in-Remove.is) refl (λ state plan_for. tt) c.requires.ready

pub apply_rmdir-requires-clause-planned : goal.apply_rmdir-requires-clause-planned
apply_rmdir-requires-clause-planned g c = for_removing c.requires.planned (sym c.action.ensures) c.in-Remove.is c.in-Directory-kind.is

pub returns-in-Directory-kind-clause-does : goal.returns-in-Directory-kind-clause-does
returns-in-Directory-kind-clause-does g c = does_carried c.apply_rmdir.ensures.carries tt (sym c.action.ensures ∙ c.in-Remove.is) refl (λ state plan_for. tt) c.requires.ready

-- ---- a name moves

pub apply_rename-requires-clause-planned : goal.apply_rename-requires-clause-planned
apply_rename-requires-clause-planned g c = for_renaming c.requires.planned (sym c.action.ensures) c.in-Move.is

pub returns-in-Move-clause-does : goal.returns-in-Move-clause-does
returns-in-Move-clause-does g c =
    does_carried c.apply_rename.ensures.carries tt (sym c.action.ensures) (either_changes Move c.in-Move.is (λ moving. refl) refl) (λ state plan_for. tt) c.requires.ready

-- ---- contents

pub apply_write-requires-clause-planned : goal.apply_write-requires-clause-planned
apply_write-requires-clause-planned g c = for_writing c.requires.planned (sym c.action.ensures) c.in-Write.is c.written.ensures

pub returns-in-Write-clause-does : goal.returns-in-Write-clause-does
returns-in-Write-clause-does g c =
    does_carried c.apply_write.ensures.carries tt (sym c.action.ensures) (either_changes Write c.in-Write.is (λ writing. refl) refl)
    (λ state plan_for. writes plan_for (sym c.action.ensures) c.in-Write.is c.written.ensures) c.requires.ready

pub apply_truncate-requires-clause-planned : goal.apply_truncate-requires-clause-planned
apply_truncate-requires-clause-planned g c = for_truncating c.requires.planned (sym c.action.ensures) c.in-Resize.is

pub returns-in-Resize-clause-does : goal.returns-in-Resize-clause-does
returns-in-Resize-clause-does g c =
    does_carried c.apply_truncate.ensures.carries tt (sym c.action.ensures) (either_changes Resize c.in-Resize.is (λ resizing. refl) refl)
    (λ state plan_for. truncates plan_for (sym c.action.ensures) c.in-Resize.is) c.requires.ready

-- ---- bytes are read

pub fill-requires-clause-file : goal.fill-requires-clause-file
fill-requires-clause-file g c = (
  c.requires.planned.0,
  no_residue,
  stands_beside c.requires.planned.1.stands,
  (file_read c.requires.planned.1 (sym c.action.ensures ∙ c.in-Read.is)).0,
  untouched_nothing c.args.volume.now (g.P.Pm.view c.args.pm.now).words _,
)

pub fill-requires-clause-short : goal.fill-requires-clause-short
fill-requires-clause-short g c = (file_read c.requires.planned.1 (sym c.action.ensures ∙ c.in-Read.is)).1

pub returns-in-Read-clause-does : goal.returns-in-Read-clause-does
returns-in-Read-clause-does g c = λ state plan_for.
    let is = sym c.action.ensures ∙ c.in-Read.is in
    does_told plan_for (changes_as plan_for is) (read_replied plan_for is (c.fill.ensures.bytes state no_residue (stands_beside plan_for.stands)) c.fill.ensures.count)

pub returns-in-Read-clause-bytes : goal.returns-in-Read-clause-bytes
returns-in-Read-clause-bytes g c not = absurd (not _ refl)

-- ---- what is told

pub stat-requires-clause-there : goal.stat-requires-clause-there
stat-requires-clause-there g c = has_node_beside c.args.volume.now (g.P.Pm.view c.args.pm.now) _ (node_told c.requires.planned.1 (sym c.action.ensures ∙ c.in-Status.is))

pub returns-in-Status-clause-does : goal.returns-in-Status-clause-does
returns-in-Status-clause-does g c = λ state plan_for.
    let is = sym c.action.ensures ∙ c.in-Status.is in
    does_told plan_for (changes_as plan_for is) (status_replied plan_for c.args.last.now is (c.stat.ensures state no_residue (stands_beside plan_for.stands)))

pub count-requires-clause-from_one : goal.count-requires-clause-from_one
count-requires-clause-from_one g c =
    (directory_within c.args.volume.now (g.P.Pm.view c.args.pm.now) c.in-Names.inode (stands_beside c.requires.planned.1.stands) (directory_listed c.requires.planned.1 (sym c.action.ensures ∙ c.in-Names.is))).0

pub count-requires-clause-in_range : goal.count-requires-clause-in_range
count-requires-clause-in_range g c =
    (directory_within c.args.volume.now (g.P.Pm.view c.args.pm.now) c.in-Names.inode (stands_beside c.requires.planned.1.stands) (directory_listed c.requires.planned.1 (sym c.action.ensures ∙ c.in-Names.is))).1

pub returns-in-Names-clause-does : goal.returns-in-Names-clause-does
returns-in-Names-clause-does g c = λ state plan_for.
    let is = sym c.action.ensures ∙ c.in-Names.is in
    let names = c.count.ensures.names (g.P.Pm.view c.args.pm.now) state no_residue (stands_beside plan_for.stands) (directory_listed plan_for is) in
    does_told plan_for (changes_as plan_for is) (names_replied plan_for c.args.last.now is c.requires.ready.going names)

pub free-requires-clause-stands : goal.free-requires-clause-stands
free-requires-clause-stands g c = (c.requires.planned.0, no_residue, stands_beside c.requires.planned.1.stands)

pub returns-in-Space-clause-does : goal.returns-in-Space-clause-does
returns-in-Space-clause-does g c = λ state plan_for.
    let is = sym c.action.ensures ∙ c.in-Space.is in
    does_told plan_for (changes_as plan_for is) (space_replied plan_for c.args.last.now is (c.free.ensures state no_residue (stands_beside plan_for.stands)))

pub returns-in-File-clause-device : goal.returns-in-File-clause-device
returns-in-File-clause-device g c = c.apply_create.ensures.carries.device

pub returns-in-Directory-clause-device : goal.returns-in-Directory-clause-device
returns-in-Directory-clause-device g c = c.apply_mkdir.ensures.carries.device

pub returns-in-Name-clause-device : goal.returns-in-Name-clause-device
returns-in-Name-clause-device g c = c.apply_link.ensures.carries.device

pub returns-in-File-kind-clause-device : goal.returns-in-File-kind-clause-device
returns-in-File-kind-clause-device g c = c.apply_unlink.ensures.carries.device

pub returns-in-Directory-kind-clause-device : goal.returns-in-Directory-kind-clause-device
returns-in-Directory-kind-clause-device g c = c.apply_rmdir.ensures.carries.device

pub returns-in-Move-clause-device : goal.returns-in-Move-clause-device
returns-in-Move-clause-device g c = c.apply_rename.ensures.carries.device

pub returns-in-Write-clause-device : goal.returns-in-Write-clause-device
returns-in-Write-clause-device g c = c.apply_write.ensures.carries.device

pub returns-in-Resize-clause-device : goal.returns-in-Resize-clause-device
returns-in-Resize-clause-device g c = c.apply_truncate.ensures.carries.device

pub returns-in-Read-clause-device : goal.returns-in-Read-clause-device
returns-in-Read-clause-device g c = none_made (sym c.action.ensures ∙ c.in-Read.is) refl refl c.requires.planned.1.stands.settled

pub returns-in-Status-clause-device : goal.returns-in-Status-clause-device
returns-in-Status-clause-device g c = none_made (sym c.action.ensures ∙ c.in-Status.is) refl refl c.requires.planned.1.stands.settled

pub returns-in-Names-clause-device : goal.returns-in-Names-clause-device
returns-in-Names-clause-device g c = none_made (sym c.action.ensures ∙ c.in-Names.is) refl refl c.requires.planned.1.stands.settled

pub returns-in-Space-clause-device : goal.returns-in-Space-clause-device
returns-in-Space-clause-device g c = none_made (sym c.action.ensures ∙ c.in-Space.is) refl refl c.requires.planned.1.stands.settled
