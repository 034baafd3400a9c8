use Rattle.std.proofs.Common.{inl, inr}
use Rattle.squirrel.proofs.Usage.{usage_asked}
use Rattle.squirrel.proofs.do_job.Goals as goal

pub returns-in-Ok-clause-usage : goal.returns-in-Ok-clause-usage
returns-in-Ok-clause-usage g c is = elim (usage_asked _ _ _ _ c.squirrel-status.ensures.does is) [
  | inl none ↦ none
  | inr (pages, asked, other) ↦ absurd (other (c.in-Ok.ensures.made_words pages asked))
]
