use Rattle.dsr_client.specs.State.{accepted}
use Rattle.dsr_client.proofs.Counted.{accepted_numbered, accepted_posted, accepted_below, numbered_within, numbered_once}
use Rattle.dsr_client.proofs.laws.accepted_replies_are_numbered.Goals as goal

pub returns-clause-numbered : goal.returns-clause-numbered
returns-clause-numbered c shape me log loyal = accepted_numbered shape me log loyal

pub returns-clause-once : goal.returns-clause-once
returns-clause-once c shape me log loyal reply other inside too same =
    numbered_once (accepted shape log) (accepted_numbered shape me log loyal) reply other inside too same

pub returns-clause-counted : goal.returns-clause-counted
returns-clause-counted c shape me log loyal reply inside =
    numbered_within (accepted shape log) (accepted_numbered shape me log loyal) reply inside

pub returns-clause-posted : goal.returns-clause-posted
returns-clause-posted c shape log reply inside = accepted_posted shape log reply inside

pub returns-clause-below : goal.returns-clause-below
returns-clause-below c shape log below reply inside = accepted_below shape log below reply inside
