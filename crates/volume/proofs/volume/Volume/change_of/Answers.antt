use Rattle.std.proofs.Common.{subst}
use Rattle.tree_model.specs.declared.command.Command.{Command}
use Rattle.volume.specs.Beside.{IsAsked}
use Rattle.volume.proofs.RenameRows.{alone}
use Rattle.volume.proofs.volume.Volume.change_of.Goals as goal

pub new_entry-requires : goal.new_entry-requires
new_entry-requires g c = record { asked = subst (λ (command : Command). IsAsked c.args.self.now (g.P.Pm.view c.args.pm.now) command) c.in-Create.is c.requires.asked }

pub new_entry-requires-in-Mkdir : goal.new_entry-requires-in-Mkdir
new_entry-requires-in-Mkdir g c = record { asked = subst (λ (command : Command). IsAsked c.args.self.now (g.P.Pm.view c.args.pm.now) command) c.in-Mkdir.is c.requires.asked }

pub new_name-requires-clause-asked : goal.new_name-requires-clause-asked
new_name-requires-clause-asked g c = subst (λ (command : Command). IsAsked c.args.self.now (g.P.Pm.view c.args.pm.now) command) c.in-Link.is c.requires.asked

pub file_removal-requires : goal.file_removal-requires
file_removal-requires g c = record { asked = subst (λ (command : Command). IsAsked c.args.self.now (g.P.Pm.view c.args.pm.now) command) c.in-Unlink.is c.requires.asked }

pub directory_removal-requires : goal.directory_removal-requires
directory_removal-requires g c = record { asked = subst (λ (command : Command). IsAsked c.args.self.now (g.P.Pm.view c.args.pm.now) command) c.in-Rmdir.is c.requires.asked }

pub renaming-requires-clause-stands : goal.renaming-requires-clause-stands
renaming-requires-clause-stands g c =
    let (state, residue, asked) = subst (λ (command : Command). IsAsked c.args.self.now (g.P.Pm.view c.args.pm.now) command) c.in-Rename.is c.requires.asked in
    (state, alone c.args.self.now (g.P.Pm.view c.args.pm.now) state residue c.in-Rename.from c.in-Rename.to asked)
