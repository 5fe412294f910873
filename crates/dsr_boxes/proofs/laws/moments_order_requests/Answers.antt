use Rattle.dsr_boxes.proofs.Ordering.{precedes, places_rise_after}
use Rattle.dsr_boxes.proofs.laws.moments_order_requests.Goals as goal

pub returns-clause-precedes : goal.returns-clause-precedes
returns-clause-precedes c shape past logs own first second reply response grown not_asked after = precedes shape past logs own first second reply response grown not_asked after

pub returns-clause-places : goal.returns-clause-places
returns-clause-places c shape past logs own first second reply later few is response grown not_asked after answered =
    places_rise_after shape past logs own first second reply later few is response grown not_asked after answered
