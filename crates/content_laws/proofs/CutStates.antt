-- A truncation to less leaves a state that the step allows.
use Rattle.std.proofs.Common.{refl}
use Rattle.tree_model.specs.Step.{resized}
use Rattle.tree_model.specs.Tree.{bytes_of}
use Rattle.tree_model.specs.declared.command.Command.TheVariants.{Truncate}
use Rattle.content_laws.specs.Cut.{with_size, CutStepLaw}
use Rattle.content_laws.proofs.CutTidy.{lowering_law, cut_law}
use Rattle.content_laws.proofs.Steps.{stepped, resized_tree}

pub cut_step_law : CutStepLaw
cut_step_law P W J K old path i z n can h found reads =
    let law = cut_law P W J K i z can h in
    let first = lowering_law P W i z can in
    let read = law.last.reads (with_size old.tree i z) (first.reads old.tree reads.tree) in
    let room = law.last.room old.room (first.room old.room reads.room) in
    record {
      stepped = stepped P W K old (Truncate path z) i n (resized (bytes_of old.tree i) z) can.tidy.coherent law.tidy.coherent can.reached can.file reads read room
          (resized_tree old.tree path i z n found) refl refl;
      room = room;
    }
