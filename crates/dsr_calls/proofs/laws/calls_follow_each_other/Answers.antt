use Rattle.dsr_calls.proofs.Awaiting.{begun_awaited, still_awaited}
use Rattle.dsr_calls.proofs.Following.{awaited_then, answered_then}
use Rattle.dsr_calls.proofs.laws.calls_follow_each_other.Goals as goal

pub returns-clause-awaited : goal.returns-clause-awaited
returns-clause-awaited c shape ask older log later first second = awaited_then shape ask older log later first second

pub returns-clause-answered : goal.returns-clause-answered
returns-clause-answered c shape ask older log later reply first second = answered_then shape ask older log later reply first second

pub returns-clause-again : goal.returns-clause-again
returns-clause-again c shape me older log op ask e h = still_awaited shape me older log op ask e h

pub returns-clause-begun : goal.returns-clause-begun
returns-clause-begun c shape me older log op ask begun = begun_awaited shape me older log op ask begun
