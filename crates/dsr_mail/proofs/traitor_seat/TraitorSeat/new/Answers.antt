use Rattle.dsr_mail.proofs.traitor_seat.TraitorSeat.new.Goals as goal

pub invariant_of-result : goal.invariant_of-result
invariant_of-result c = record {
  own = c.requires.own;
  traitor = c.requires.traitor;
  knows = rw (c.requires.first, c.new.ensures.none) (λ s. (λ h. elim h [ ], λ was. elim was.taken [ ]));
}
