-- Plays that are played as their text is read: one more line, and all lines.
use Rattle.std.proofs.Common.{◌≡◌, ◌↔◌, ℕ, suc, ◌+◌, ◌<◌, ◌≤◌, List, [], ◌∷◌, ◌++◌, Option, length, refl, ap, sym, arith}
use Rattle.std.proofs.lemmas.List.{length_push}
use Rattle.dsr_names.specs.Shape.{Shape, IsAllowed}
use Rattle.dsr_names.specs.declared.refusal.Refusal.{Refusal}
use Rattle.dsr_text.specs.Header.{BeginsWithHeader}
use Rattle.dsr_text.specs.TakenLines.{HasTaken}
use Rattle.dsr_play.specs.PlayText.{all_events, events_of, plays}
use Rattle.dsr_play.specs.TakenEvents.{TakesMore}
use Rattle.dsr_play.specs.declared.event.Event.{Event}
use Rattle.dsr_play.specs.declared.play_line.PlayLine.{PlayLine}
use Rattle.dsr_world.specs.Outcome.{Counts, IsOutcome}
use Rattle.dsr_world.specs.Playing.{WasPlayed}
use Rattle.dsr_world.specs.Support.PlayingFields.{Gives, Took}
use Rattle.dsr_world.specs.declared.playing.Played.{Played}
use Rattle.dsr_world.proofs.Ending.{ended_all, ended_one}

module _ (p : Played) (events : List Event) (t : Took p events) where
  -- at most 1,000,000 events happened exactly if at most as many were taken
  pub took_few : (p.end.done + p.end.refused ≤ 1000000) ↔ (length events ≤ 1000000)
  took_few = (
    λ room. let over = t.over in grind arith,
    λ few. let all = ended_all p.stage.shape p.stage.run [] events p.end (t.ended few) in omega arith,
  )

  -- an event more that does not happen, as there are too many
  pub took_over : (event : Event) → 1000000 < p.end.done + p.end.refused → Took p (events ++ event ∷ [])
  took_over event past =
      let size = length_push events event in
      let fits = took_few.1 in
      record { ended = λ few. absurd (omega arith); over = λ many. past }

  -- an event more that happens
  pub took_one : (q : Played) (event : Event) (outcome : Option Refusal) → p.end.done + p.end.refused ≤ 1000000
      → q.stage.shape ≡ p.stage.shape → IsOutcome p.stage.shape q.stage.run p.stage.run event outcome
      → ((outcomes : List (Option Refusal)) → Counts outcomes p.end → Counts (outcomes ++ outcome ∷ []) q.end)
      → q.end.done + q.end.refused ≡ suc (p.end.done + p.end.refused) → Took q (events ++ event ∷ [])
  took_one q event outcome room same is counts one =
      let before = t.ended (took_few.0 room) in
      let all = ended_all p.stage.shape p.stage.run [] events p.end before in
      let size = length_push events event in
      record {
        ended = λ few. rw same (ended_one p.stage.shape q.stage.run p.stage.run [] events event outcome p.end q.end before is counts);
        over = λ many. omega arith;
      }

-- the events of one more line were taken after those of the lines before it
module _ (before after : Played) (line : PlayLine) (lines : List PlayLine) (more : TakesMore Took before after (events_of before.stage.shape line))
    (h : Gives before lines) where
  pub took_line : Took after (all_events before.stage.shape (line ∷ lines))
  took_line = more (all_events before.stage.shape lines) (record {
    ended = λ few. h;
    over = λ many. let all = ended_all before.stage.shape before.stage.run [] (all_events before.stage.shape lines) before.end h in omega arith;
  })

  -- and they happened, if there is room for them
  pub gives_more : after.stage.shape ≡ before.stage.shape → after.end.done + after.end.refused ≤ 1000000 → Gives after (line ∷ lines)
  gives_more same room =
      rw (ap (λ s. all_events s (line ∷ lines)) same) (took_line.ended ((took_few after (all_events before.stage.shape (line ∷ lines)) took_line).0 room))

-- the lines that were taken in are those of a play, which was played
pub was_played : (title text after : List ℕ) (shape : Shape) (played : Played) → title ≡ plays.title → BeginsWithHeader title text shape after → IsAllowed shape
    → HasTaken plays shape (Gives played) after → played.stage.shape ≡ shape → WasPlayed text played.stage.shape played.stage.run played.end
was_played title text after shape played titled header allowed taken same = record {
  play = record { shape = shape; events = all_events shape taken.lines };
  spells = record {
    after = after;
    header = rw titled at header;
    allowed = allowed;
    lines = taken.lines;
    begins = taken.begins;
    events = refl;
  };
  shape_is = sym same;
  ended = rw same (rw same at taken.gives);
}
