-- How the fields of a play that is being read and played represent what was played (this project).
use Rattle.std.specs.Prelude.{◌<◌, ◌≤◌, ◌+◌, [], List, length}
use Rattle.dsr_play.specs.declared.event.Event.{Event}
use Rattle.dsr_play.specs.declared.play_line.PlayLine.{PlayLine}
use Rattle.dsr_play.specs.PlayText.{all_events}
use Rattle.dsr_world.specs.Outcome.{HasEnded}
use Rattle.dsr_world.specs.declared.playing.Played.{Played}
use Rattle.dsr_world.specs.declared.playing.Playing.TheInside.{Inside}

-- the stage and how the events so far ended
abbrev pub played_of : Inside → Played
played_of p = record { stage = p.stage; end = p.end }

-- at most 1,000,001 events happened: once there are more than a play has, no other happens
pub record IsPlayingFields (p : Inside) : Type 0 where
  pub few : p.end.done + p.end.refused ≤ 1000001
  pub starved : p.end.starved ≤ p.end.refused

-- these events were taken: they happened on a new stage, and ended like this, if they are at most 1,000,000; otherwise more than
-- 1,000,000 of them happened
pub record Took (p : Played) (events : List Event) : Type 0 where
  pub ended : length events ≤ 1000000 → HasEnded p.stage.shape p.stage.run [] events p.end
  pub over : 1000000 < length events → 1000000 < p.end.done + p.end.refused

-- the events that these lines represent happened on a new stage, and ended like this
abbrev pub Gives : Played → List PlayLine → Type 0
Gives p lines = HasEnded p.stage.shape p.stage.run [] (all_events p.stage.shape lines) p.end
