use Rattle.dsr_run.specs.Step.{log_of}
use Rattle.dsr_boxes.proofs.Ordering.{precedes}
use Rattle.dsr_mail.proofs.Responding.{responds}
use Rattle.dsr_mail.proofs.laws.moments_order_clients.Goals as goal

pub returns : goal.returns
returns c shape moment one other logs first second reply own grown is received client not_invoked after =
    precedes shape moment.run logs other.log first second reply (responds shape (log_of moment.run) one.actor one.log own first reply is received)
    (rw (← client) grown) (λ ask same posted. not_invoked (ask, same, posted)) after
