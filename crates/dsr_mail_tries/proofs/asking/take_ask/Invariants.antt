use Rattle.dsr_mail_tries.specs.Same.{IsSameSeat}
use Rattle.dsr_mail_tries.proofs.asking.take_ask.Given as goal

abbrev pub invariant-loop : goal.invariant-loop
invariant-loop l = IsSameSeat l.initial.seat l.seat
