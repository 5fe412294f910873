use Rattle.std.proofs.Common.{◌∷◌, rules, ap, ◌∙◌}
use Rattle.dsr_play.specs.PlayText.{all_events}
use Rattle.dsr_world.specs.declared.playing.Played.{Played}
use Rattle.dsr_world.proofs.Playings.{took_few, took_line, gives_more}
use Rattle.dsr_world.proofs.playing.Playing.play.Goals as goal

-- the line's events happened after the earlier ones; it can follow if there is room after them
pub returns : goal.returns
returns c =
    let before = c.args.self.now in
    let after = c.give_events.new.taker in
    let line = c.args.line in
    let more = rw (c.shape.ensures ∙ ap (λ (p : Played). p.stage.shape) c.self.view_is) at c.in_ok-give_events.ensures.took in
    record {
      taken = λ can lines h. gives_more before after line lines more h c.give_events.ensures.shape (c.has_room.ensures.0 can);
      when = λ lines h.
          let few = took_few after (all_events before.stage.shape (line ∷ lines)) (took_line before after line lines more h) in
          (λ can. few.0 (c.has_room.ensures.0 can), λ follows. c.has_room.ensures.1 (few.1 follows));
      shape = search rules;
      refusal = search rules;
    }
