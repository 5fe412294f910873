use Rattle.dsr_mail_tries.specs.Same.{AreSameSeats}
use Rattle.dsr_mail_tries.proofs.tries.take_turns.Given as goal

abbrev pub invariant-loop : goal.invariant-loop
invariant-loop g l = AreSameSeats g.P.Player.pass l.initial.seats l.seats
