use Rattle.std.proofs.Common.{ap, sym, ◌∙◌}
use Rattle.dsr_names.specs.Shape.{Shape}
use Rattle.dsr_rounds.proofs.Going.{goes_further}
use Rattle.dsr_rounds.proofs.Scripts.{still_kept, still_posts, still_answers, still_takes, at_end, on_end}
use Rattle.dsr_rounds.proofs.host.Host.make_scripted_round.Goals as goal

pub returns-in_err-post_drafts-clause-log : goal.returns-in_err-post_drafts-clause-log
returns-in_err-post_drafts-clause-log g c =
    goes_further c.post_drafts.new.seat c.take_from_each_client.new.seat c.args.seat.now c.post_drafts.ensures.log c.take_from_each_client.ensures.kept.goes_on

pub returns-in_err-post_drafts_to_clients-clause-log : goal.returns-in_err-post_drafts_to_clients-clause-log
returns-in_err-post_drafts_to_clients-clause-log g c =
    goes_further c.post_drafts_to_clients.new.seat c.post_drafts.new.seat c.args.seat.now c.post_drafts_to_clients.ensures.kept.goes_on
    (goes_further c.post_drafts.new.seat c.take_from_each_client.new.seat c.args.seat.now c.post_drafts.ensures.log c.take_from_each_client.ensures.kept.goes_on)

pub returns-clause-log : goal.returns-clause-log
returns-clause-log g c =
    goes_further c.take_from_each.new.seat c.post_drafts_to_clients.new.seat c.args.seat.now c.take_from_each.ensures.log
    (goes_further c.post_drafts_to_clients.new.seat c.post_drafts.new.seat c.args.seat.now c.post_drafts_to_clients.ensures.kept.goes_on
    (goes_further c.post_drafts.new.seat c.take_from_each_client.new.seat c.args.seat.now c.post_drafts.ensures.log c.take_from_each_client.ensures.kept.goes_on))

pub returns-in_err-take_from_each_client-clause-follows : goal.returns-in_err-take_from_each_client-clause-follows
returns-in_err-take_from_each_client-clause-follows g c =
    at_end c.from_residual.result
    (still_kept c.args.script.now c.args.round c.args.seat.now c.take_from_each_client.new.seat c.take_from_each_client.ensures.kept)

pub returns-in_err-post_drafts-clause-follows : goal.returns-in_err-post_drafts-clause-follows
returns-in_err-post_drafts-clause-follows g c =
    at_end c.from_residual-in_err-post_drafts.result
    (still_posts c.args.script.now c.args.round c.args.seat.now c.take_from_each_client.new.seat c.post_drafts.new.seat
    c.take_from_each_client.ensures.kept c.in_err-post_drafts.ensures.follows)

pub returns-in_err-post_drafts_to_clients-clause-follows : goal.returns-in_err-post_drafts_to_clients-clause-follows
returns-in_err-post_drafts_to_clients-clause-follows g c =
    let b = c.take_from_each_client.new.seat in
    let kept = c.take_from_each_client.ensures.kept in
    at_end c.from_residual-in_err-post_drafts_to_clients.result
    (still_answers c.args.script.now c.args.round c.args.self.now.mail.now.shape.n b.shape.n c.args.seat.now b c.post_drafts.new.seat
    c.post_drafts_to_clients.new.seat (ap (λ (s : Shape). s.n) (kept.goes_on.shape ∙ c.requires.mail.1)) kept c.in_ok-post_drafts.ensures.posted
    c.post_drafts_to_clients.ensures.kept)

pub returns-clause-follows : goal.returns-clause-follows
returns-clause-follows g c =
    let b = c.take_from_each_client.new.seat in
    let kept = c.take_from_each_client.ensures.kept in
    on_end c.take_from_each.result (still_takes c.args.script.now c.args.round c.args.self.now.mail.now.shape.n b.shape.n c.args.seat.now b
    c.post_drafts.new.seat c.post_drafts_to_clients.new.seat c.take_from_each.new.seat
    (ap (λ (s : Shape). s.n) (kept.goes_on.shape ∙ c.requires.mail.1)) kept c.in_ok-post_drafts.ensures.posted
    c.post_drafts_to_clients.ensures.kept) c.take_from_each.ensures.follows

pub returns-in_err-take_from_each_client-clause-turns : goal.returns-in_err-take_from_each_client-clause-turns
returns-in_err-take_from_each_client-clause-turns g c first was = c.take_from_each_client.ensures.turns first was

pub returns-in_err-post_drafts-clause-turns : goal.returns-in_err-post_drafts-clause-turns
returns-in_err-post_drafts-clause-turns g c first was = c.post_drafts.ensures.turns first (c.take_from_each_client.ensures.turns first was)

pub returns-in_err-post_drafts_to_clients-clause-turns : goal.returns-in_err-post_drafts_to_clients-clause-turns
returns-in_err-post_drafts_to_clients-clause-turns g c first was = c.post_drafts_to_clients.ensures.turns first (c.post_drafts.ensures.turns first (c.take_from_each_client.ensures.turns first was))

pub returns-clause-turns : goal.returns-clause-turns
returns-clause-turns g c first was = c.take_from_each.ensures.turns first (c.post_drafts_to_clients.ensures.turns first (c.post_drafts.ensures.turns first (c.take_from_each_client.ensures.turns first was)))
