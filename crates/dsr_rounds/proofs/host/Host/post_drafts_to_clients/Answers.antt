use Rattle.std.proofs.Common.{◌≡◌, ◌+◌, suc, refl, subst, arith}
use Rattle.dsr_rounds.specs.Tries.{TriesPost, TriesPosts}
use Rattle.dsr_rounds.proofs.Scripts.{no_answers, posts_further}
use Rattle.dsr_rounds.proofs.host.Host.post_drafts_to_clients.Goals as goal

pub loop-number-init : goal.loop-number-init
loop-number-init g c = (no_answers c.args.script.now c.args.round c.args.self.now.mail.now.shape.n c.args.seat.now, λ first was. was, (refl, refl))

pub returns-in_err-post_once-clause-kept : goal.returns-in_err-post_once-clause-kept
returns-in_err-post_once-clause-kept g c =
    posts_further c.args.script.now c.args.round c.args.self.now.mail.now.shape.n c.args.seat.now c.loop-number.seat c.post_once.new.seat
    c.loop-number.invariant.0 c.post_once.ensures.kept

pub loop-number-preserved : goal.loop-number-preserved
loop-number-preserved g c = (
  posts_further c.args.script.now c.args.round c.args.self.now.mail.now.shape.n c.args.seat.now c.loop-number.seat c.post_once.new.seat
      c.loop-number.invariant.0 c.post_once.ensures.kept,
  λ first was. c.post_once.ensures.turns first (c.loop-number.invariant.1 first was),
  (let next : suc c.loop-number.number ≡ c.loop-number.number + 1 = omega arith in
      subst (λ k. TriesPosts (g.G.Gate.may_pass c.args.self.now.gate.now) c.args.script.now c.args.round k c.args.seat.now c.post_once.new.seat c.args.turn.now.number c.post_once.new.turn.number) next (
        c.loop-number.seat,
        c.loop-number.turn.number,
        c.loop-number.invariant.2,
        subst (λ q. TriesPost (g.G.Gate.may_pass c.args.self.now.gate.now) c.args.script.now c.args.round q c.loop-number.seat c.post_once.new.seat
            c.loop-number.turn.number c.post_once.new.turn.number)
            c.of.ensures c.in_ok-post_once.ensures.tried,
      )),
)

pub returns-in_err-post_once-clause-turns : goal.returns-in_err-post_once-clause-turns
returns-in_err-post_once-clause-turns g c first was = c.post_once.ensures.turns first (c.loop-number.invariant.1 first was)
