use Rattle.dsr_mail.proofs.client_seat.ClientSeat.accepted.Goals as goal

pub returns : goal.returns
returns c = cc (c.accepted.ensures _ _ _ c.client.ensures.plays)
