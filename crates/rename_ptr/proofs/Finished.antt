-- The intervals of a move after its commit are those of the laws, and the pages that go are as many as its plan says.
use Rattle.std.proofs.Common.{◌≡◌, ℕ, true, List, length, reverse, Option, Some, None, refl, sym, ap, ◌∙◌}
use Rattle.layout.specs.Geometry.{inode_word_of}
use Rattle.layout.specs.Fields.{word}
use Rattle.tree_model.specs.PathText.{Route}
use Rattle.tree_model.specs.Tree.{parent}
use Rattle.tree_model.specs.Run.{State}
use Rattle.tree_model.specs.declared.command.Command.TheVariants.{Rename}
use Rattle.image_laws.specs.Drop.{GivesPages, ClearsRest}
use Rattle.rename_laws.specs.Ready.{IsTargetOpened, PointsAt, IsMoveReady}
use Rattle.rename_laws.specs.Intervals.{left, ClearsSource, IsGiven, Finishes}
use Rattle.volume.specs.Costs.{goes_of, pages_of_loss}
use Rattle.volume.specs.Moves.{rising_of, falling_of}
use Rattle.volume.specs.declared.plan.Loss.{Loss}
use Rattle.volume.specs.declared.plan.Moving.{Moving}
use Rattle.removal_steps.specs.Steps.{AreGonePages, IsCut, number_of}
use Rattle.removal_steps.proofs.NodePages.{gone_counted}
use Rattle.rename_ptr.specs.Steps.{target_of}
use Rattle.rename_ptr.specs.Renaming.{IsMovingAt, IsRenamed}
use Rattle.rename_ptr.proofs.Given
use Rattle.rename_ptr.proofs.Gone
use Rattle.rename_ptr.proofs.Moves

module _ {P : ℕ} {W : List ℕ} {state : State} (from to : Route) {moving : Moving} (at : IsMovingAt P W state from to moving) (pages : List ℕ) (are : AreGonePages P W moving.replaced pages) where
  -- ---- how many pages go

  counted_by : (replaced : Option Loss) → moving.replaced ≡ replaced → AreGonePages P W replaced pages → length pages ≡ pages_of_loss replaced
  counted_by None is all = Given.no_pages P W pages all
  counted_by (Some loss) is all = gone_counted P W state (Rename from to) loss pages (Moves.target_at from to at loss is).1 all

  pub counted : length pages ≡ pages_of_loss moving.replaced
  counted = counted_by moving.replaced refl are

  -- ---- the intervals

  module _ (I : List ℕ) (ready : IsMoveReady P W I (reverse (parent from)) (reverse (parent to)) moving.from_slot moving.to_directory moving.to_slot (target_of moving) (rising_of moving))
      (J : List ℕ) (clears : ClearsSource P (left P I moving.from_slot moving.to_slot) J moving.from_slot moving.to_slot (falling_of moving)) where
    module _ (G : List ℕ) (gives : GivesPages P J G (IsCut pages moving.given_back)) where
      pub given : IsGiven P W I J G moving.from_slot moving.to_directory moving.to_slot (target_of moving) (falling_of moving)
      given = record {
        cleared = Given.cleared from to at I ready J clears;
        gives = record {
          size = gives.size;
          owners = λ j goes. gives.owners j (Gone.given_cut from to at I ready pages are j goes);
          others = λ a out. gives.others a (λ j cut. out j (Gone.cut_given from to at I ready pages are j cut));
        };
      }

      module _ (K : List ℕ) (rest : ClearsRest P G K (IsCut pages moving.given_back) (goes_of moving.replaced ≡ true) (number_of moving.replaced)) where
        pub finishes : Finishes P W I J G K moving.from_slot moving.to_directory moving.to_slot (target_of moving) (falling_of moving)
        finishes =
            let number = Gone.number_is moving moving.replaced moving.new_page in
            let gone = Gone.gone_when from to at I ready in
            record {
              given = given;
              frees = record {
                size = rest.size;
                rests = λ j f goes. rest.rests j f (Gone.given_cut from to at I ready pages are j goes);
                inode = λ out f lt. ap (λ (i : ℕ). word K (inode_word_of i f)) (sym number) ∙ rest.inode (gone.1 out) f lt;
                others = λ a out kept. rest.others a (λ j f cut. out j f (Gone.cut_given from to at I ready pages are j cut))
                    (λ goes f lt e. kept (gone.0 goes) f lt (e ∙ ap (λ (i : ℕ). inode_word_of i f) number));
              };
            }

        pub renamed : (B : List ℕ) → IsTargetOpened P W B moving.to_directory moving.to_slot (target_of moving)
            → PointsAt P B I moving.from_slot moving.to_slot (target_of moving) (rising_of moving) → IsRenamed P W K moving
        renamed B opened points = record { opened = B; pointed = I; cleared = J; given = G; page = opened; points = points; finishes = finishes }
