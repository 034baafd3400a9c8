-- What a job without a script does is done beside each script.
use Rattle.std.proofs.Common.{◌≡◌, inl, inr, ℕ, refl, sym, subst}
use Rattle.std.specs.Prelude.{Option}
use Rattle.command_line.specs.declared.job.Job.{Job}
use Rattle.pm_trait.specs.DeviceView.{DeviceView}
use Rattle.io_edge.specs.declared.source.Source.{Ghosts as Sources}
use Rattle.io_edge.specs.declared.sink.Sink.{Ghosts as Sinks}
use Rattle.squirrel_cli.specs.declared.status.Status.{Status}
use Rattle.squirrel_cli.specs.Causes.{TellsFaults}
use Rattle.squirrel_cli.specs.Rows.{Checks, DoesJob, Formats, Lists, MountsAnd, Works}
use Rattle.squirrel_cli.specs.Seen.{Seen, seen, seen_alone, IsSilent, IsUntouched}
use Rattle.squirrel_cli.specs.Tells.{HasListed}
use Rattle.squirrel_cli.specs.Works.{HasWorked}
use Rattle.squirrel_cli.proofs.ReplayRuns.{never_risen}

-- the job of equal words
pub as_asked : {S K : Type 0} {asked job : Option Job} (old new : Seen S K) (is : Status) → asked ≡ job → DoesJob job old new is → DoesJob asked old new is
as_asked old new is same does = subst (λ (j : Option Job). DoesJob j old new is) (sym same) does

module _ {S K : Type 0} (source : Sources S) (sink : Sinks K) (script : S) (before after : DeviceView) (output written : K) where
  silent : IsSilent (seen_alone sink before output) (seen_alone sink after written) → IsSilent (seen source sink before script output) (seen source sink after script written)
  silent is = record { script = refl; output = is.output }

  untouched : IsUntouched (seen_alone sink before output) (seen_alone sink after written) → IsUntouched (seen source sink before script output) (seen source sink after script written)
  untouched is = record { device = is.device; silent = silent is.silent }

  mounts_beside : (F : Seen (Unit {0}) K → Seen (Unit {0}) K → Status → Type 0) (G : Seen S K → Seen S K → Status → Type 0) {is : Status}
      → (F (seen_alone sink before output) (seen_alone sink after written) is → G (seen source sink before script output) (seen source sink after script written) is)
      → MountsAnd F (seen_alone sink before output) (seen_alone sink after written) is → MountsAnd G (seen source sink before script output) (seen source sink after script written) is
  mounts_beside F G more (inl short) = inl (record { is = short.is; silent = silent short.silent; device = short.device; unsound = short.unsound })
  mounts_beside F G more (inr (inl (unsound, refused))) = inr (inl (unsound, record { device = refused.device; script = refl; told = refused.told }))
  mounts_beside F G more (inr (inr (sound, tidy, inl fails))) = inr (inr (sound, tidy, inl (record { is = fails.is; silent = silent fails.silent; mount = fails.mount })))
  mounts_beside F G more (inr (inr (sound, tidy, inr does))) = inr (inr (sound, tidy, inr (more does)))

  pub lists_beside : {is : Status} → Lists (seen_alone sink before output) (seen_alone sink after written) is → Lists (seen source sink before script output) (seen source sink after script written) is
  lists_beside lists = mounts_beside HasListed HasListed listed lists
    where
      listed : {is : Status} → HasListed (seen_alone sink before output) (seen_alone sink after written) is → HasListed (seen source sink before script output) (seen source sink after script written) is
      listed has = record { script = refl; listed = has.listed; mounted = has.mounted; told = has.told; keeps = has.keeps; beside = has.beside }

  pub works_beside : (seed count : ℕ) {is : Status} → Works seed count (seen_alone sink before output) (seen_alone sink after written) is → Works seed count (seen source sink before script output) (seen source sink after script written) is
  works_beside seed count works = mounts_beside (HasWorked seed count) (HasWorked seed count) worked works
    where
      worked : {is : Status} → HasWorked seed count (seen_alone sink before output) (seen_alone sink after written) is → HasWorked seed count (seen source sink before script output) (seen source sink after script written) is
      worked (inl fault) = inl (record { is = fault.is; silent = silent fault.silent; ran = fault.ran })
      worked (inr sums) = inr (record { script = refl; worked = sums.worked; ran = sums.ran; all = sums.all; told = sums.told; keeps = sums.keeps })

  pub checks_beside : {is : Status} → Checks (seen_alone sink before output) (seen_alone sink after written) is → Checks (seen source sink before script output) (seen source sink after script written) is
  checks_beside (inl (memory, same)) = inl (memory, untouched same)
  checks_beside (inr (inl (unsound, refused))) = inr (inl (unsound, record { device = refused.device; script = refl; told = refused.told }))
  checks_beside (inr (inr (sound, has))) = inr (inr (sound, record { device = has.device; script = refl; tree = has.tree; reads = has.reads; repairs = has.repairs; counted = has.counted; told = has.told }))

  pub formats_beside : (pages : ℕ) {is : Status} → Formats pages (seen_alone sink before output) (seen_alone sink after written) is → Formats pages (seen source sink before script output) (seen source sink after script written) is
  formats_beside pages (inl (memory, kept, alone)) = inl (memory, silent kept, alone)
  formats_beside pages (inr (inl (other, usage, same))) = inr (inl (other, usage, untouched same))
  formats_beside pages (inr (inr (size, inl fails))) = inr (inr (size, inl (record { is = fails.is; silent = silent fails.silent; only = fails.only; fewer = fails.fewer; halts = fails.halts })))
  formats_beside pages (inr (inr (size, inr has))) =
      inr (inr (size, inr (record { script = refl; formatted = has.formatted; fresh = has.fresh; only = has.only; fences = has.fences; faults = has.faults; told = has.told })))

  pub cause_beside : {is : Status} → TellsFaults (seen_alone sink before output) (seen_alone sink after written) is → TellsFaults (seen source sink before script output) (seen source sink after script written) is
  cause_beside cause = record {
    device = cause.device;
    done = cause.done;
    no_memory = cause.no_memory;
    read = λ same. absurd (never_risen (cause.read same));
    no_read_fault = λ other. refl;
    write = cause.write;
    no_write_fault = cause.no_write_fault;
  }
