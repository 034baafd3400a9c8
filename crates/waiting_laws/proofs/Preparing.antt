-- What the walks refuse the row refuses, a plan has few events, and what comes between steps passes by.
use Rattle.std.proofs.Common.{◌≡◌, ℕ, List, [], ◌∷◌, ◌++◌, drop, Option, Some, None, refl, sym, ap, subst, ◌∙◌, arith}
use Rattle.std.specs.Prelude.{Contains}
use Rattle.pm_trait.proofs.AckLaws.{settled_ack}
use Rattle.layout.specs.Superblock.{has_mark}
use Rattle.tree_model.specs.Capacity.{Supply}
use Rattle.tree_model.specs.Step.{first, at, walk_faults, later_faults, refusal_with}
use Rattle.tree_model.specs.Run.{State}
use Rattle.tree_model.specs.declared.command.Command.{Command}
use Rattle.tree_model.specs.declared.command.Command.TheVariants.{Create, Mkdir, Link, Unlink, Rmdir, Rename, Write, Truncate, Read, Stat as Tell, List as Show, Df}
use Rattle.tree_model.specs.declared.reply.Refusal.{Refusal}
use Rattle.tree_model.specs.declared.reply.Refusal.TheVariants.{Root}
use Rattle.image_reading.specs.Counts.{IsIn}
use Rattle.image_reading.specs.Reading.{ReadsAs}
use Rattle.image_reading.specs.Residue.{IsTidyBeside}
use Rattle.image_reading.specs.Soundness.{Sound}
use Rattle.weave_laws.specs.Beside.{Keeps}
use Rattle.weave_laws.proofs.Ordered.{any_order_law}
use Rattle.volume.specs.Beside.{KnowsBeside}
use Rattle.volume.specs.Named.{is_at_root, refusal_of_walks}
use Rattle.volume.proofs.KeptEvents.{events_few}
use Rattle.waiting_laws.specs.Beside.{KeepsNodes}
use Rattle.waiting_laws.specs.Preparing.{WalksRefuseLaw, FewEventsLaw, PreparedPassesLaw, StandsInOrderLaw, AcknowledgedLaw}
use Rattle.waiting_laws.proofs.ReadyStands.{bounded}

-- what doesn't change is kept
kept_itself : (P : ℕ) (I slots pages inodes : List ℕ) → Keeps P I I slots pages inodes
kept_itself P I slots pages inodes = record {
  words = λ a of. refl;
  of_slots = λ s among. record { number = refl; pointer = refl; words = refl; name = refl };
  of_pages = λ j among. record { owner = refl; kind = refl; offset = refl; bytes = λ o below. refl };
  of_inodes = λ i among. record { kind = refl; links = refl; size = refl; own = refl };
}

nodes_themselves : (state : State) (inodes : List ℕ) → KeepsNodes inodes state state
nodes_themselves state inodes = record {
  nodes = λ id named. record { node = refl; names = refl; links = refl; paths = refl; pages = refl };
  paths = λ path id named is. is;
  names = λ path id named is. refl;
}

-- the first fault of the front of a row is that of the row
goes_on : (front rest : List (Option Refusal)) (refusal : Refusal) → first front ≡ Some refusal → first (front ++ rest) ≡ Some refusal
goes_on [] rest refusal is = cc
goes_on (None ∷ front) rest refusal is = goes_on front rest refusal is
goes_on (Some found ∷ front) rest refusal is = is

-- a row may have no fault at its end
none_behind : (fault : Option Refusal) (rest : List (Option Refusal)) (refusal : Refusal) → first (fault ∷ None ∷ []) ≡ Some refusal → first (fault ∷ rest) ≡ Some refusal
none_behind None rest refusal is = cc
none_behind (Some found) rest refusal is = is

module _ (supply : Supply) (state : State) where
  abbrev at_root : (command : Command) → List (Option Refusal)
  at_root command = walk_faults state.tree command ++ at Root (is_at_root command) ∷ []

  abbrev behind_root : (command : Command) → List (Option Refusal)
  behind_root command = drop 1 (later_faults supply state.tree state.room command)

  pub refused : (command : Command) (refusal : Refusal) → refusal_of_walks state.tree command ≡ Some refusal → refusal_with supply state.tree state.room command ≡ Some refusal
  refused (Create path) refusal is = goes_on (at_root (Create path)) (behind_root (Create path)) refusal is
  refused (Mkdir path) refusal is = goes_on (at_root (Mkdir path)) (behind_root (Mkdir path)) refusal is
  refused (Link from to) refusal is = goes_on (at_root (Link from to)) (behind_root (Link from to)) refusal is
  refused (Unlink path) refusal is = goes_on (at_root (Unlink path)) (behind_root (Unlink path)) refusal is
  refused (Rmdir path) refusal is = goes_on (at_root (Rmdir path)) (behind_root (Rmdir path)) refusal is
  refused (Rename from to) refusal is = goes_on (at_root (Rename from to)) (behind_root (Rename from to)) refusal is
  refused (Write path offset bytes) refusal is = none_behind _ (later_faults supply state.tree state.room (Write path offset bytes)) refusal is
  refused (Truncate path size) refusal is = none_behind _ (later_faults supply state.tree state.room (Truncate path size)) refusal is
  refused (Read path offset count) refusal is = none_behind _ (later_faults supply state.tree state.room (Read path offset count)) refusal is
  refused (Tell path) refusal is = none_behind _ [] refusal is
  refused (Show path) refusal is = none_behind _ (later_faults supply state.tree state.room (Show path)) refusal is
  refused Df refusal is = cc

pub walks_refuse : WalksRefuseLaw
walks_refuse supply state command refusal is = refused supply state command refusal is

pub few_events : FewEventsLaw
few_events volume device state command action others ready = events_few action (bounded volume device state command action others ready)

pub prepared_passes : PreparedPassesLaw
prepared_passes old new before after state command result held prepares =
    let view = prepares.view in
    let same : after.words ≡ before.words = prepares.device.words in
    record {
      size = view.same_size;
      words = subst (λ (words : List ℕ). Keeps old.size before.words words held.slots held.pages held.inodes) (sym same) (kept_itself old.size before.words held.slots held.pages held.inodes);
      nodes = nodes_themselves state held.inodes;
      index = λ i named. record { entries = view.index.entries i; pages = view.index.pages i; place = view.index.place i; page_places = view.index.page_places i };
      lists = λ i j among listed. subst (λ (pages : List ℕ). Contains pages j) (view.index.pages i) listed;
    }

pub stands_in_order : StandsInOrderLaw
stands_in_order volume device state one other same stands =
    let pages = same.pages.each in
    let out : (j : ℕ) → ¬ IsIn j other.pages → ¬ IsIn j one.pages = λ j none among. none ((pages j).1 among) in
    let nodes = stands.knows.nodes in
    let knows = stands.knows in
    record {
      settled = stands.settled;
      sound = stands.sound;
      beside = any_order_law volume.size device.words one other same stands.beside;
      reads = stands.reads;
      knows = record {
        whole = knows.whole;
        nodes = record {
          each_inode = nodes.each_inode;
          entries = nodes.entries;
          pages = λ i page least most none. nodes.pages i page least most (out page none);
          once = nodes.once;
          offsets = λ i k page reached file none at. nodes.offsets i k page reached file (out page none) at;
        };
        each_inode = knows.each_inode;
        inodes = knows.inodes;
        each_page = knows.each_page;
        data_pages = knows.data_pages;
      };
      mark = stands.mark;
      room = stands.room;
    }

pub acknowledged : AcknowledgedLaw
acknowledged volume before after state residue held stands acks =
    let same = acks.words in (
      record {
        settled = settled_ack same acks.trail stands.settled;
        sound = subst (λ (words : List ℕ). Sound volume.size words) (sym same) stands.sound;
        beside = subst (λ (words : List ℕ). IsTidyBeside volume.size words residue) (sym same) stands.beside;
        reads = subst (λ (words : List ℕ). ReadsAs volume.size words state) (sym same) stands.reads;
        knows = subst (λ (words : List ℕ). KnowsBeside volume words residue) (sym same) stands.knows;
        mark = stands.mark ∙ ap (λ (words : List ℕ). has_mark words) (sym same);
        room = let least = stands.room in let room = acks.room in omega (arith, least, room);
      },
      record {
        size = refl;
        words = subst (λ (words : List ℕ). Keeps volume.size before.words words held.slots held.pages held.inodes) (sym same) (kept_itself volume.size before.words held.slots held.pages held.inodes);
        nodes = nodes_themselves state held.inodes;
        index = λ i named. record { entries = refl; pages = refl; place = λ there. there; page_places = omega arith };
        lists = λ i j among listed. listed;
      },
    )
