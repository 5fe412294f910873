use Rattle.dsr_mail.proofs.client_seat.ClientSeat.outstanding.Goals as goal

pub returns : goal.returns
returns c = cc (c.outstanding.ensures _ _ _ c.client.ensures.plays)
