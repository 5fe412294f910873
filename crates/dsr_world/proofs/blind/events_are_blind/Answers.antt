use Rattle.dsr_world.proofs.Blindness.{event_blind, refused_blind}
use Rattle.dsr_world.proofs.blind.events_are_blind.Goals as goal

pub returns : goal.returns
returns c = record { events = event_blind; refusals = refused_blind }
