use Rattle.dsr_history.specs.History.{requests_of}
use Rattle.dsr_history.proofs.HistoryLaws.{legal_acting}
use Rattle.dsr_history.proofs.laws.history_is_legal.Goals as goal

pub returns : goal.returns
returns c values = legal_acting (requests_of values)
