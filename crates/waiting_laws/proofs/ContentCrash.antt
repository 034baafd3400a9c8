-- What a crash in a step leaves that changes a file's bytes or its size: also where the step's fence fails.
use Rattle.data_ops.specs.declared.truncate.CutProgress.TheVariants.{Begun, Lowered, Trimmed}
use Rattle.waiting_laws.specs.Crashes.{GrowthFirstCrashLaw, GrowthQuietLaw, GrowthCommitsLaw, WritingCrashLaw, CutFirstCrashLaw, CutQuietLaw}
use Rattle.waiting_laws.proofs.GrowingPlans.{planned_growth}
use Rattle.waiting_laws.proofs.GrowingTorn.{torn_state}
use Rattle.waiting_laws.proofs.GrowingFilled as filled
use Rattle.waiting_laws.proofs.GrowingOwned as owned
use Rattle.waiting_laws.proofs.GrowingEnds as raised
use Rattle.waiting_laws.proofs.WritingInside as inside
use Rattle.waiting_laws.proofs.CuttingBegins as lowered
use Rattle.waiting_laws.proofs.CuttingSteps as cut

-- ---- a file grows

pub growth_first_crash_law : GrowthFirstCrashLaw
growth_first_crash_law volume device state command action growth bytes pages others J ready grows made = (
  torn_state device.words state growth.inode growth.offset bytes,
  filled.tears_file volume device state command action growth bytes pages others ready (planned_growth volume device state command action growth bytes pages others ready grows) J made,
)

pub growth_quiet_law : GrowthQuietLaw
growth_quiet_law volume device state growth bytes pages others J waiting made = owned.keeps_meaning volume device state growth bytes pages others waiting J made

pub growth_commits_law : GrowthCommitsLaw
growth_commits_law volume device state path command growth bytes pages n others J waiting grows named made = raised.commits volume device state growth bytes pages others waiting path command n grows named J made

-- ---- a write inside the size

pub writing_crash_law : WritingCrashLaw
writing_crash_law volume device state path writing bytes n others J ready begins made =
    let within = inside.begins_inside writing begins in (
      inside.stepped volume device state path writing bytes n others ready within J made,
      inside.tears volume device state path writing bytes n others ready within J made,
    )

-- ---- a file is cut

pub cut_first_crash_law : CutFirstCrashLaw
cut_first_crash_law volume device state path resizing n others J ready begins made = lowered.commits volume device state path resizing others ready begins n J made

pub cut_quiet_law : CutQuietLaw
cut_quiet_law volume device state resizing Begun others J waiting made = absurd waiting.cut
cut_quiet_law volume device state resizing Lowered others J waiting made = cut.given_keeps volume device state resizing Lowered others waiting waiting.cut J made
cut_quiet_law volume device state resizing Trimmed others J waiting made = cut.cleared_keeps volume device state resizing Trimmed others waiting waiting.cut J made
