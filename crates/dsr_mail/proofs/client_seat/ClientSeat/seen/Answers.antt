use Rattle.dsr_mail.proofs.client_seat.ClientSeat.seen.Goals as goal

pub returns : goal.returns
returns c = cc (c.seen.ensures _ _ _ c.client.ensures.plays)
