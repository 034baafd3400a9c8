use Rattle.std.proofs.Common.{refl, sym, subst}
use Rattle.tree_model.specs.declared.command.Command.{Command}
use Rattle.tree_model.specs.declared.command.Command.TheVariants.{Create, Unlink, Stat as Tell}
use Rattle.volume.specs.Named.{IsNamedOrRefused}
use Rattle.volume.proofs.WalkedNames.{named_alike}
use Rattle.volume.proofs.volume.Volume.named.Goals as goal

pub returns-in-Create : goal.returns-in-Create
returns-in-Create g c = subst (λ (command : Command). IsNamedOrRefused c.args.self.now (g.P.Pm.view c.args.pm.now) command c.named_by_new.result) (sym c.in-Create.is) c.named_by_new.ensures

pub returns-in-Mkdir : goal.returns-in-Mkdir
returns-in-Mkdir g c = named_alike c.args.self.now (g.P.Pm.view c.args.pm.now) (Create c.in-Mkdir.path) c.named_by_new-in-Mkdir.result c.in-Mkdir.is (λ T. refl) refl (λ T i. refl) c.named_by_new-in-Mkdir.ensures

pub returns-in-Link : goal.returns-in-Link
returns-in-Link g c = subst (λ (command : Command). IsNamedOrRefused c.args.self.now (g.P.Pm.view c.args.pm.now) command c.named_by_link.result) (sym c.in-Link.is) c.named_by_link.ensures

pub returns-in-Unlink : goal.returns-in-Unlink
returns-in-Unlink g c = subst (λ (command : Command). IsNamedOrRefused c.args.self.now (g.P.Pm.view c.args.pm.now) command c.named_by_removal.result) (sym c.in-Unlink.is) c.named_by_removal.ensures

pub returns-in-Rmdir : goal.returns-in-Rmdir
returns-in-Rmdir g c = named_alike c.args.self.now (g.P.Pm.view c.args.pm.now) (Unlink c.in-Rmdir.path) c.named_by_removal-in-Rmdir.result c.in-Rmdir.is (λ T. refl) refl (λ T i. refl) c.named_by_removal-in-Rmdir.ensures

pub returns-in-Rename : goal.returns-in-Rename
returns-in-Rename g c = subst (λ (command : Command). IsNamedOrRefused c.args.self.now (g.P.Pm.view c.args.pm.now) command c.named_by_rename.result) (sym c.in-Rename.is) c.named_by_rename.ensures

pub returns-in-Write : goal.returns-in-Write
returns-in-Write g c = named_alike c.args.self.now (g.P.Pm.view c.args.pm.now) (Tell c.in-Write.path) c.named_by_path.result c.in-Write.is (λ T. refl) refl (λ T i. refl) c.named_by_path.ensures

pub returns-in-Truncate : goal.returns-in-Truncate
returns-in-Truncate g c = named_alike c.args.self.now (g.P.Pm.view c.args.pm.now) (Tell c.in-Truncate.path) c.named_by_path-in-Truncate.result c.in-Truncate.is (λ T. refl) refl (λ T i. refl) c.named_by_path-in-Truncate.ensures

pub returns-in-Read : goal.returns-in-Read
returns-in-Read g c = named_alike c.args.self.now (g.P.Pm.view c.args.pm.now) (Tell c.in-Read.path) c.named_by_path-in-Read.result c.in-Read.is (λ T. refl) refl (λ T i. refl) c.named_by_path-in-Read.ensures

pub returns-in-Stat : goal.returns-in-Stat
returns-in-Stat g c = subst (λ (command : Command). IsNamedOrRefused c.args.self.now (g.P.Pm.view c.args.pm.now) command c.named_by_path-in-Stat.result) (sym c.in-Stat.is) c.named_by_path-in-Stat.ensures

pub returns-in-List : goal.returns-in-List
returns-in-List g c = named_alike c.args.self.now (g.P.Pm.view c.args.pm.now) (Tell c.in-List.path) c.named_by_path-in-List.result c.in-List.is (λ T. refl) refl (λ T i. refl) c.named_by_path-in-List.ensures
