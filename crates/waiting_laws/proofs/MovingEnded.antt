-- The last step of a move: nothing is left, and what goes is free. K are the words behind it, X those before it.
use Rattle.std.proofs.Common.{◌≡◌, ◌≢◌, ◌↔◌, ℕ, ◌≤◌, Bool, true, List, length, sym, ap, subst, ◌∙◌, arith}
use Rattle.layout.specs.Geometry.{inodes_of}
use Rattle.layout.specs.Fields.{inode_kind, page_owner, page_kind, slot_inode}
use Rattle.layout.proofs.Widths.{inode_field_read, descriptor_field_read}
use Rattle.tree_model.specs.PathText.{Route}
use Rattle.tree_model.specs.Run.{State}
use Rattle.image_reading.specs.Counts.{IsIn}
use Rattle.image_reading.specs.Reading.{IsDirectory, slot_owner}
use Rattle.image_reading.specs.Residue.{Residue, no_residue, IsTidyBeside}
use Rattle.image_reading.proofs.Residues.{tidied_beside}
use Rattle.image_counts.specs.Entries.{IsEntryOf, IsUnusedPage}
use Rattle.image_laws.specs.Drop.{GivesPages, ClearsRest}
use Rattle.image_laws.specs.Frame.{SameMeaning}
use Rattle.image_laws.specs.Move.{CanMove}
use Rattle.image_laws.specs.Quiet.{IsMix}
use Rattle.image_laws.proofs.KeptPages.{KeepsPages, by_words}
use Rattle.rename_laws.specs.Ready.{IsMoveReady}
use Rattle.rename_laws.specs.Intervals.{left, ClearsSource, Finishes}
use Rattle.rename_laws.proofs.MovedNames as here
use Rattle.rename_laws.proofs.MoveIntervals as intervals
use Rattle.rename_laws.proofs.MoveIntervals.{clearing_law, freeing_law}
use Rattle.rename_laws.proofs.MoveReads.{ended, tidy_law}
use Rattle.rename_laws.proofs.MoveSpare.{IsOut, IsSpare}
use Rattle.rename_laws.proofs.MoveTidy.{HasEnded}
use Rattle.volume.specs.Costs.{goes_of}
use Rattle.volume.specs.Moves.{rising_of, falling_of}
use Rattle.volume.specs.declared.plan.Moving.{Moving}
use Rattle.removal_steps.specs.Steps.{AreGonePages, IsCut, number_of}
use Rattle.rename_ptr.specs.Steps.{target_of}
use Rattle.rename_ptr.specs.Renaming.{IsMovingAt}
use Rattle.rename_ptr.proofs.Finished
use Rattle.rename_ptr.proofs.Given
use Rattle.rename_ptr.proofs.Gone
use Rattle.rename_ptr.proofs.Moves
use Rattle.waiting_laws.proofs.MovingQuiet.{IsQuietSince, between, paged_slot, paged_within, paged_between}
use Rattle.waiting_laws.proofs.MovingBefore.{directory_forth}
use Rattle.waiting_laws.proofs.MovingBehind as behind
use Rattle.waiting_laws.proofs.MovingBehind.{KeepsOthers, entries_behind}

-- From X to K nothing is committed, and nothing is left: these pages are free, and the inode where it goes. All other descriptors and kinds stay.
pub record IsLastStep (P : ℕ) (X K gone : List ℕ) (goes : Bool) (number : ℕ) : Type 0 where
  pub long : length K ≡ length X
  pub crash : (M : List ℕ) → IsMix X K M → SameMeaning P X M
  pub means : SameMeaning P X K
  pub beside : IsTidyBeside P K no_residue
  pub entries : (e t : ℕ) (bytes : List ℕ) → IsEntryOf P X e bytes t ↔ IsEntryOf P K e bytes t
  pub kinds : (i : ℕ) → 1 ≤ i → i ≤ inodes_of P → (goes ≡ true → i ≢ number) → inode_kind K i ≡ inode_kind X i
  pub gone_kind : goes ≡ true → inode_kind K number ≡ 0
  pub paged : KeepsPages P X K (λ j. IsIn j gone)
  pub unused : (j : ℕ) → IsIn j gone → IsUnusedPage P K j

module _ {P : ℕ} {W : List ℕ} {state : State} (from to : Route) {moving : Moving} (at : IsMovingAt P W state from to moving) (pages : List ℕ) (are : AreGonePages P W moving.replaced pages) (I : List ℕ)
    (ready : IsMoveReady P W I (Moves.from_way from to at) (Moves.to_way from to at) moving.from_slot moving.to_directory moving.to_slot (target_of moving) (rising_of moving))
    (J : List ℕ) (clears : ClearsSource P (left P I moving.from_slot moving.to_slot) J moving.from_slot moving.to_slot (falling_of moving))
    (G : List ℕ) (gives : GivesPages P J G (IsCut pages moving.given_back)) (K : List ℕ) (rest : ClearsRest P G K (IsCut pages moving.given_back) (goes_of moving.replaced ≡ true) (number_of moving.replaced)) where
  abbrev pa : Route
  pa = Moves.from_way from to at

  abbrev pb : Route
  pb = Moves.to_way from to at

  abbrev s : ℕ
  s = moving.from_slot

  abbrev x : ℕ
  x = moving.to_directory

  abbrev d : ℕ
  d = moving.to_slot

  abbrev C : List ℕ
  C = behind.committed from to at pages are I ready

  abbrev all : List ℕ
  all = behind.all_pages from to at pages are I ready

  can : CanMove P I pa pb s d
  can = ready.can_move

  finishes : Finishes P W I J G K s x d (target_of moving) (falling_of moving)
  finishes = Finished.finishes from to at pages are I ready J clears G gives K rest

  has_ended : HasEnded P I K s d
  has_ended = ended P W I J G K pa pb s x d (target_of moving) (rising_of moving) (falling_of moving) ready finishes

  spare_in : (j : ℕ) → IsSpare P I C s d j → IsIn j all
  spare_in j spare = behind.given_up_in from to at pages are I ready j ((intervals.given_spare P W I pa pb s x d (target_of moving) (rising_of moving) ready j).1 spare)

  in_spare : (j : ℕ) → IsIn j all → IsSpare P I C s d j
  in_spare j among = (intervals.given_spare P W I pa pb s x d (target_of moving) (rising_of moving) ready j).0 (behind.in_given_up from to at pages are I ready j among)

  paged_end : KeepsPages P I K (IsSpare P I C s d)
  paged_end = by_words P I K (IsSpare P I C s d) has_ended.descriptors

  unused_end : (j : ℕ) → IsSpare P I C s d j → IsUnusedPage P K j
  unfolding page_owner page_kind
  unused_end j spare = (has_ended.spare j 0 spare (descriptor_field_read K 0 (omega arith)), has_ended.spare j 1 spare (descriptor_field_read K 1 (omega arith)))

  others_end : KeepsOthers P I K s d (IsSpare P I C s d)
  unfolding slot_inode
  others_end = record {
    slots = has_ended.slots;
    number = has_ended.number;
    name = has_ended.name;
    source = has_ended.source 0 (omega arith);
    paged = paged_end;
    unowned = λ j spare. (unused_end j spare).0;
  }

  -- ---- an inode that goes

  number_is : number_of moving.replaced ≡ slot_inode P I d
  number_is = Gone.number_is moving moving.replaced moving.new_page ∙ sym ready.number

  goes_out : (goes_of moving.replaced ≡ true) ↔ IsOut P I C d
  goes_out =
      let gone = Gone.gone_when from to at I ready in
      let out = intervals.out_gone P W I pa pb s x d (target_of moving) (rising_of moving) ready in
      ((λ goes. out.0 (gone.0 goes)), (λ is. gone.1 (out.1 is)))

  kind_end : (i : ℕ) → 1 ≤ i → i ≤ inodes_of P → (goes_of moving.replaced ≡ true → i ≢ number_of moving.replaced) → inode_kind K i ≡ inode_kind C i
  unfolding inode_kind
  kind_end i least most other =
      has_ended.inodes i 0 least most (inode_field_read I 0 (omega arith)) (λ e. omega (arith, e)) (λ out e. other (goes_out.1 out) (e ∙ sym number_is))
      ∙ sym ((here.only P I pa pb s d can).node_kind i most)

  kind_gone : goes_of moving.replaced ≡ true → inode_kind K (number_of moving.replaced) ≡ 0
  unfolding inode_kind
  kind_gone goes = ap (λ (i : ℕ). inode_kind K i) number_is ∙ has_ended.out (goes_out.0 goes) 0 (inode_field_read K 0 (omega arith))

  -- the directory of the old name is one in the end
  pub directory_end : IsDirectory K moving.from_directory
  directory_end =
      let (reached, two) = behind.source_reached from to at pages are I ready in
      subst (IsDirectory K) (Moves.for_move from to at).source.slot_is.owner (directory_forth has_ended.means (slot_owner P W s) reached two)

  -- ---- the step, from whatever words behind the commit

  pub last_step : (X : List ℕ) (residue : Residue) → IsQuietSince P C X residue → ((j : ℕ) → IsIn j residue.pages → IsIn j all) → length K ≡ length X → ((M : List ℕ) → IsMix X K M → SameMeaning P C M)
      → IsLastStep P X K all (goes_of moving.replaced) (number_of moving.replaced)
  last_step X residue since within long crash =
      let coherent = behind.coherent_behind from to at pages are I ready in
      let same = here.only P I pa pb s d can in
      record {
        long = long;
        crash = λ M mix. between P C X M coherent since.means (crash M mix);
        means = between P C X K coherent since.means has_ended.means;
        beside = tidied_beside (tidy_law P W I J G K pa pb s x d (target_of moving) (rising_of moving) (falling_of moving) ready finishes);
        entries = λ e t bytes.
            let a = since.entries e t bytes in
            let b = entries_behind P I K pa pb s d can (IsSpare P I C s d) others_end has_ended.means e t bytes in
            ((λ is. b.0 (a.1 is)), (λ is. a.0 (b.1 is)));
        kinds = λ i least most other. kind_end i least most other ∙ sym (since.kinds i least most);
        gone_kind = kind_gone;
        paged = paged_between (paged_within since.paged within) (paged_between (paged_slot same) (paged_within paged_end spare_in));
        unused = λ j among. unused_end j (in_spare j among);
      }

  -- from the words whose pages have no owner
  pub freeing : IsLastStep P G K all (goes_of moving.replaced) (number_of moving.replaced)
  freeing = last_step G (behind.left_given from to at pages are I ready) (behind.since_given from to at pages are I ready J clears G gives) (λ j among. among) rest.size
      (λ M mix. freeing_law P W I J G K M pa pb s x d (target_of moving) (rising_of moving) (falling_of moving) ready finishes mix)

  -- or where nothing goes, from those in which slot s has given up its number
  pub clearing_last : K ≡ J → IsLastStep P (left P I s d) K all (goes_of moving.replaced) (number_of moving.replaced)
  clearing_last same = last_step (left P I s d) (behind.left_moved from to at pages are I ready) (behind.since_left from to at pages are I ready) (λ j among. among) (ap length same ∙ clears.size)
      (λ M mix. clearing_law P W I J M pa pb s x d (target_of moving) (rising_of moving) (falling_of moving) ready (Given.cleared from to at I ready J clears) (subst (λ (l : List ℕ). IsMix (left P I s d) l M) same mix))
