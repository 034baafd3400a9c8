use Rattle.std.proofs.Common.{◌≡◌, ◌∙◌, ap, true, codes}
use Rattle.std.proofs.lemmas.Result.{IfOk-weaker}
use Rattle.clap.specs.Simple.{App, Shape, app_of, app_of_fields, new_app, on_top}
use Rattle.command_line.proofs.CommandLines.{more_jobs}
use Rattle.command_line.proofs.split.squirrel_command.Goals as goal

abbrev needs_one : App → App
needs_one = on_top (λ (s : Shape). record s { subcommand_required = true })

abbrev no_help_flag : App → App
no_help_flag = on_top (λ (s : Shape). record s { disable_help_flag = true })

abbrev no_help_command : App → App
no_help_command = on_top (λ (s : Shape). record s { disable_help_subcommand = true })

abbrev no_version : App → App
no_version = on_top (λ (s : Shape). record s { disable_version_flag = true })

pub returns : goal.returns
returns c =
    let needed : app_of c.subcommand_required.result ≡ needs_one (new_app (codes "squirrel")) = ap app_of_fields c.subcommand_required.ensures ∙ ap needs_one c.new.ensures.app in
    let no_flag : app_of c.disable_help_flag.result ≡ no_help_flag (needs_one (new_app (codes "squirrel"))) = ap app_of_fields c.disable_help_flag.ensures ∙ ap no_help_flag needed in
    let no_command = ap app_of_fields c.disable_help_subcommand.ensures ∙ ap no_help_command no_flag in
    let top = ap app_of_fields c.disable_version_flag-bare.ensures ∙ ap no_version no_command in
    let mkfs = more_jobs _ _ _ _ c.in_ok-with_mkfs.ensures c.mkfs_command.ensures.local c.mkfs_command.ensures.app top in
    let run = more_jobs _ _ _ _ c.in_ok-with_run.ensures c.run_command.ensures.local c.run_command.ensures.app mkfs in
    let tree = more_jobs _ _ _ _ c.in_ok-with_tree.ensures c.tree_command.ensures.local c.tree_command.ensures.app run in
    let check = more_jobs _ _ _ _ c.in_ok-with_check.ensures c.check_command.ensures.local c.check_command.ensures.app tree in
    let crash = more_jobs _ _ _ _ c.in_ok-with_crash.ensures c.crash_command.ensures.local c.crash_command.ensures.app check in
    let work = more_jobs _ _ _ _ c.in_ok-with_work.ensures c.work_command.ensures.local c.work_command.ensures.app crash in
    IfOk-weaker c.with_job-7.result _ _ (λ command adds. more_jobs _ _ _ _ adds c.weave_command.ensures.local c.weave_command.ensures.app work) c.with_job-7.ensures
