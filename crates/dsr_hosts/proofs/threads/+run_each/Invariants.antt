use Rattle.dsr_hosts.specs.Seats.{seat_count}
use Rattle.dsr_hosts.proofs.threads.+run_each.Given as goal

abbrev pub decreases-run_each : goal.decreases-run_each
decreases-run_each g l = seat_count l.seats
