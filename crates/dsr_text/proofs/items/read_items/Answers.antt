use Rattle.std.proofs.Common.{◌≡◌, ◌∷◌, ◌++◌, [], Some, subst, sym, rules, arith}
use Rattle.dsr_base.specs.Joined.{joined, AreFew}
use Rattle.dsr_base.specs.Reads.{Reads}
use Rattle.dsr_text.proofs.ItemsLemmas.{goes_on, stops, no_last, last, too_many}
use Rattle.dsr_text.proofs.items.read_items.Goals as goal

pub returns-in-None-2-clause-read : goal.returns-in-None-2-clause-read
returns-in-None-2-clause-read g c =
    no_last g.T.Item.is g.T.Item.text g.T.Item.MARK g.met.T.Item.apart c.args.most c.args.bytes.now c.loop.counter c.loop.items.items c.loop.rest.now
    c.loop.invariant (rw c.MARK.ensures at c.in-None.ensures.free)
    (subst (Reads g.T.Item.is g.T.Item.text c.loop.rest.now) c.in-None-2.is c.in_ok-read-in-None.ensures.read)

pub returns-in_ok-push-in-Some-2-clause-read : goal.returns-in_ok-push-in-Some-2-clause-read
returns-in_ok-push-in-Some-2-clause-read g c =
    let pushed : c.push.new.self.items ≡ c.loop.items.items ++ c.in-Some-2.last ∷ [] = search rules in
    subst (λ all. Reads (AreFew g.T.Item.is c.args.most) (joined g.T.Item.MARK g.T.Item.text) c.args.bytes.now (Some all)) (sym pushed)
    (last g.T.Item.is g.T.Item.text g.T.Item.MARK g.met.T.Item.apart c.args.most c.args.bytes.now c.loop.counter c.loop.items.items c.loop.rest.now
    c.in-Some-2.last c.loop-test.true c.loop.invariant (rw c.MARK.ensures at c.in-None.ensures.free)
    (subst (Reads g.T.Item.is g.T.Item.text c.loop.rest.now) c.in-Some-2.is c.in_ok-read-in-None.ensures.read))

pub returns-in-None-3-clause-read : goal.returns-in-None-3-clause-read
returns-in-None-3-clause-read g c =
    stops g.T.Item.is g.T.Item.text g.T.Item.MARK g.met.T.Item.apart c.args.most c.args.bytes.now c.loop.counter c.loop.items.items c.loop.rest.now
    c.in-Some.front.now c.in-Some.after.now c.loop.invariant (rw c.MARK.ensures at c.in-Some.ensures.found) (rw c.MARK.ensures at c.in-Some.ensures.first)
    (subst (Reads g.T.Item.is g.T.Item.text c.in-Some.front.now) c.in-None-3.is c.in_ok-read-in-Some.ensures.read)

pub loop-preserved : goal.loop-preserved
loop-preserved g c =
    let pushed : c.push-in-Some-3.new.self.items ≡ c.loop.items.items ++ c.in-Some-3.item ∷ [] = search rules in
    rw pushed
    (goes_on g.T.Item.is g.T.Item.text g.T.Item.MARK g.met.T.Item.apart c.args.most c.args.bytes.now c.loop.counter c.loop.items.items c.loop.rest.now
    c.in-Some.front.now c.in-Some.after.now c.in-Some-3.item c.loop-test.true c.loop.invariant (rw c.MARK.ensures at c.in-Some.ensures.found)
    (rw c.MARK.ensures at c.in-Some.ensures.first)
    (subst (Reads g.T.Item.is g.T.Item.text c.in-Some.front.now) c.in-Some-3.is c.in_ok-read-in-Some.ensures.read))

pub returns-clause-read : goal.returns-clause-read
returns-clause-read g c =
    too_many g.T.Item.is g.T.Item.text g.T.Item.MARK g.met.T.Item.apart c.args.most c.args.bytes.now c.loop.counter c.loop.items.items c.loop.rest.now
    (omega (arith, c.loop-test.false, c.loop.auto.counter-end)) c.loop.invariant
