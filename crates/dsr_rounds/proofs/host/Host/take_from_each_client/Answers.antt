use Rattle.std.proofs.Common.{◌≡◌, ◌+◌, suc, subst, arith}
use Rattle.dsr_rounds.specs.Tries.{TriesTake, TriesTakes}
use Rattle.dsr_rounds.proofs.Scripts.{keeps_further}
use Rattle.dsr_rounds.proofs.host.Host.take_from_each_client.Goals as goal

pub returns-in_err-take_once-clause-kept : goal.returns-in_err-take_once-clause-kept
returns-in_err-take_once-clause-kept g c =
    keeps_further c.args.seat.now c.loop-number.seat c.take_once.new.seat c.loop-number.invariant.0 c.take_once.ensures.kept

pub loop-number-preserved : goal.loop-number-preserved
loop-number-preserved g c = (
  keeps_further c.args.seat.now c.loop-number.seat c.take_once.new.seat c.loop-number.invariant.0 c.take_once.ensures.kept,
  λ first was. c.take_once.ensures.turns first (c.loop-number.invariant.1 first was),
  (let next : suc c.loop-number.number ≡ c.loop-number.number + 1 = omega arith in
      subst (λ k. TriesTakes (g.G.Gate.may_pass c.args.self.now.gate.now) k c.args.seat.now c.take_once.new.seat c.args.turn.now.number c.take_once.new.turn.number) next (
        c.loop-number.seat,
        c.loop-number.turn.number,
        c.loop-number.invariant.2,
        subst (λ q. TriesTake (g.G.Gate.may_pass c.args.self.now.gate.now) q c.loop-number.seat c.take_once.new.seat c.loop-number.turn.number c.take_once.new.turn.number)
            c.of.ensures c.in_ok-take_once.ensures.tried,
      )),
)

pub returns-in_err-take_once-clause-turns : goal.returns-in_err-take_once-clause-turns
returns-in_err-take_once-clause-turns g c first was = c.take_once.ensures.turns first (c.loop-number.invariant.1 first was)
