use Rattle.dsr_run.proofs.Linearizing.{order_rises}
use Rattle.dsr_run.proofs.headline.linearizations_keep_real_time.Goals as goal

pub returns : goal.returns
returns c shape run moment order is past first second reply later response not_yet response_later =
    order_rises shape run moment past order is first second reply later response not_yet response_later
