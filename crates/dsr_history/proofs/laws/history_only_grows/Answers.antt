use Rattle.dsr_history.proofs.HistoryLaws.{acted_extends, answers_kept}
use Rattle.dsr_history.proofs.laws.history_only_grows.Goals as goal

pub returns-clause-grows : goal.returns-clause-grows
returns-clause-grows c = acted_extends

pub returns-clause-answers : goal.returns-clause-answers
returns-clause-answers c = answers_kept
