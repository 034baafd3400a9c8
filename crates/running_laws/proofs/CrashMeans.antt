-- What a crash leaves by whether the step commits; and a command that makes no node leaves the same whatever number a new one would get.
use Rattle.std.proofs.Common.{◌≡◌, ℕ, Bool, true, false, List, None, refl}
use Rattle.tree_model.specs.PathText.{Route}
use Rattle.tree_model.specs.Run.{State}
use Rattle.tree_model.specs.declared.command.Command.{Command}
use Rattle.tree_model.specs.declared.command.Command.TheVariants.{Link}
use Rattle.waiting_laws.specs.Beside.{KeepsMeaning, Commits}
use Rattle.running_laws.specs.Crashes.{CrashIs}

pub crash_by : (commits : Bool) (P : ℕ) (I J : List ℕ) (state : State) (command : Command) (id : ℕ) → (commits ≡ true → Commits P I J state command id)
    → (commits ≡ false → KeepsMeaning P I J)
    → CrashIs commits None P I J state command id
crash_by true P I J state command id last other = last refl
crash_by false P I J state command id last other = other refl

pub linked_as : (P : ℕ) (I J : List ℕ) (state : State) (from path : Route) (one two : ℕ) → Commits P I J state (Link from path) one → Commits P I J state (Link from path) two
linked_as P I J state from path one two commits = record {
  crash = commits.crash;
  sound = commits.sound;
  stepped = record { new = commits.stepped.new; reads = commits.stepped.reads; tree = commits.stepped.tree; room = commits.stepped.room };
}
