use Rattle.std.proofs.Common.{◌+◌, [], ◌∷◌, ◌++◌, ap, ◌∙◌}
use Rattle.std.proofs.lemmas.List.Elements.{All-same, All-push}
use Rattle.volatile_index.specs.Index.{IsEmpty}
use Rattle.volatile_index.proofs.Nodes.{empty_everywhere}
use Rattle.volatile_index.proofs.index.Index.new.Goals as goal

pub loop-preserved : goal.loop-preserved
loop-preserved c =
    let nodes = c.loop.nodes.items in
    record {
      count = c.in_ok-push.ensures.len ∙ ap (λ n. n + 1) c.loop.invariant.count;
      empty = All-same IsEmpty c.push.new.self.items (nodes ++ c.new.result ∷ []) c.in_ok-push.ensures.items (All-push IsEmpty nodes c.new.result c.loop.invariant.empty c.new.ensures);
    }

pub returns-clause-empty : goal.returns-clause-empty
returns-clause-empty c = λ inode. empty_everywhere _ inode c.loop.invariant.empty
