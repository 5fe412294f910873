use Rattle.std.proofs.Common.{◌≡◌, ◌∙◌, Some, sym, subst}
use Rattle.std.specs.Prelude.{IsSome}
use Rattle.std.proofs.lemmas.Bool.{true≢false}
use Rattle.dsr_replica.specs.Conduct.{envelope_to}
use Rattle.dsr_facts.specs.Undue.{IsUndueRound}
use Rattle.dsr_facts.proofs.Showing.{read_off}
use Rattle.dsr_facts.proofs.UndueLemmas.{where_none}
use Rattle.dsr_facts.proofs.fault.round_fault.Goals as goal

pub returns-in-Some-clause-some : goal.returns-in-Some-clause-some
returns-in-Some-clause-some c log stands =
    let r = c.args.replica.now in
    let me = c.args.me.now in
    let q = c.args.to in
    let x = c.args.found.now in
    let read = read_off r.shape c.shape-shape.result me q x c.in_ok-clients.clients c.pick_of.result c.shape-shape.ensures c.pick_of.ensures
    c.in_ok-clients.ensures.shown c.in_ok-clients.ensures.plain in
    record {
      pick = c.pick_of.result;
      read = read.0;
      plain = read.1;
      why = subst (λ m. IsUndueRound r.shape m log q c.pick_of.result c.in-Some.why) c.requires.me (c.in-Some.ensures.some log stands);
    }

pub returns-then-not-allows-clause-some : goal.returns-then-not-allows-clause-some
returns-then-not-allows-clause-some c log stands =
    let r = c.args.replica.now in
    let me = c.args.me.now in
    let q = c.args.to in
    let x = c.args.found.now in
    let read = read_off r.shape c.shape-shape.result me q x c.in_ok-clients.clients c.pick_of.result c.shape-shape.ensures c.pick_of.ensures
    c.in_ok-clients.ensures.shown c.in_ok-clients.ensures.plain in
    let some : IsSome (envelope_to r.shape r.me log q c.pick_of.result) =
    where_none c.undue_round.result (IsSome (envelope_to r.shape r.me log q c.pick_of.result)) c.in_default.is (c.undue_round.ensures.none log stands) in
    let same = c.pick_of.ensures ∙ sym c.pick_of-2.ensures in
    record {
      pick = c.pick_of.result;
      read = read.0;
      plain = read.1;
      why = (
        subst (λ m. IsSome (envelope_to r.shape m log q c.pick_of.result)) c.requires.me some,
        λ below.
            let allowed = (c.allows.ensures.stands log stands).1 (subst (λ p. IsSome (envelope_to r.shape r.me log q p)) same some, below) in
            true≢false (sym allowed ∙ c.if-not-allows.true),
      );
    }

pub returns-in-Some-how_differs-clause-some : goal.returns-in-Some-how_differs-clause-some
returns-in-Some-how_differs-clause-some c log stands =
    let r = c.args.replica.now in
    let me = c.args.me.now in
    let q = c.args.to in
    let x = c.args.found.now in
    let read = read_off r.shape c.shape-shape.result me q x c.in_ok-clients.clients c.pick_of-3.result c.shape-shape.ensures c.pick_of-3.ensures
    c.in_ok-clients.ensures.shown c.in_ok-clients.ensures.plain in
    record {
      pick = c.pick_of-3.result;
      read = read.0;
      plain = read.1;
      why = (
        subst (λ m. envelope_to r.shape m log q c.pick_of-3.result ≡ Some c.in-Ok.wanted) c.requires.me (c.in-Ok.ensures.given log stands),
        c.in-Some-how_differs.ensures.some,
      );
    }
