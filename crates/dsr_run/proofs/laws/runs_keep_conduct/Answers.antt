use Rattle.dsr_run.proofs.Boxes.{actors_within}
use Rattle.dsr_run.proofs.Logs.{log_loyal, log_client, run_before}
use Rattle.dsr_run.proofs.laws.runs_keep_conduct.Goals as goal

pub returns-clause-replicas : goal.returns-clause-replicas
returns-clause-replicas c shape run is p loyal = log_loyal shape p loyal.1 run is

pub returns-clause-clients : goal.returns-clause-clients
returns-clause-clients c shape run is client = log_client shape client run is

pub returns-clause-earlier : goal.returns-clause-earlier
returns-clause-earlier c shape run earlier is grown = run_before shape run earlier is grown

pub returns-clause-actors : goal.returns-clause-actors
returns-clause-actors c shape run is a entry inside = actors_within shape run is a entry inside
