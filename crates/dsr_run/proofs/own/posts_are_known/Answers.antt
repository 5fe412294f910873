use Rattle.dsr_run.proofs.Knowing.{known_posted, known_still, known_where_made, made_where_known}
use Rattle.dsr_run.proofs.own.posts_are_known.Goals as goal

pub returns-clause-posted : goal.returns-clause-posted
returns-clause-posted c shape older known new a to envelope knows loyal learned = known_posted shape older known new a to envelope knows loyal learned

pub returns-clause-still : goal.returns-clause-still
returns-clause-still c shape older known step knows silent = known_still shape older known step knows silent

pub returns-clause-decides : goal.returns-clause-decides
returns-clause-decides c shape run known to envelope is knows = (
  λ forges s carried. known_where_made shape run is known knows s (forges s carried),
  λ each s carried. made_where_known shape run is known knows s (each s carried),
)
