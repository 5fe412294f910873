use Rattle.std.proofs.Common.{◌≡◌, ◌+◌, ◌<◌, ◌∙◌, suc, refl, sym, subst, arith}
use Rattle.dsr_names.specs.declared.actor.Actor.TheVariants.{Replica, Client}
use Rattle.dsr_check.specs.Support.Audit.{AreCast, AreKeysBelow}
use Rattle.dsr_record.proofs.KeyLemmas.{later_replicas, all_clients, later_clients}
use Rattle.dsr_check.proofs.Opening.{none_cast, one_cast, no_keys, more_keys}
use Rattle.dsr_check.proofs.casting.all_parties.Goals as goal

pub loop-number-init : goal.loop-number-init
loop-number-init c = (
  subst (AreCast c.args.shape.now 0) (sym c.in_ok-parties.ensures.items) (none_cast c.args.shape.now),
  subst (AreKeysBelow c.args.shape.now 0) (sym c.new-traitors.ensures.items) (no_keys c.args.shape.now),
  c.n-number-end.ensures.same,
  c.in_ok-keys.ensures.shape,
  λ q above. c.in_ok-keys.ensures.whole (Replica q),
  λ d. c.in_ok-keys.ensures.whole (Client d),
)

pub loop-number-preserved : goal.loop-number-preserved
loop-number-preserved c =
    let k = c.loop-number.number in
    let end = c.loop-number-test.true in
    let inside : k < c.args.shape.now.n = let is = c.n-number-end.ensures.same in omega (arith, end, is) in
    let next : suc k ≡ k + 1 = omega arith in
    let parties = one_cast c.args.shape.now k c.loop-number.parties.items (Replica k) c.in_ok-party.party c.loop-number.invariant.0 inside refl c.in_ok-party.ensures.plays in
    let keys = more_keys c.args.shape.now k c.loop-number.traitors.items c.in_ok-party.key c.loop-number.invariant.1 c.in_ok-party.ensures.held c.in_ok-party.ensures.traitor in (
      subst (λ j. AreCast c.args.shape.now j c.push.new.self.items) next (subst (AreCast c.args.shape.now (suc k)) (sym c.in_ok-push.ensures.items) parties),
      subst (λ j. AreKeysBelow c.args.shape.now j c.keep.new.keys.items) next (subst (AreKeysBelow c.args.shape.now (suc k)) (sym c.in_ok-keep.ensures.kept) keys),
      c.n-number-end.ensures.same,
      c.replica_party.ensures.keys ∙ c.loop-number.invariant.3,
      later_replicas k c.loop-number.keys c.replica_party.new.keys c.replica_party.ensures.others c.loop-number.invariant.4,
      all_clients k c.loop-number.keys c.replica_party.new.keys c.replica_party.ensures.others c.loop-number.invariant.5,
    )

pub loop-number-2-init : goal.loop-number-2-init
loop-number-2-init c =
    let last = c.loop-number-test.false in
    let most = c.loop-number.auto.number-end in
    let all : c.loop-number.number ≡ c.args.shape.now.n = let is = c.n-number-end.ensures.same in omega (arith, last, most, is) in
    let zero_more : c.loop-number.number ≡ c.args.shape.now.n + 0 = omega (arith, all) in (
      subst (λ j. AreCast c.args.shape.now j c.loop-number.parties.items) zero_more c.loop-number.invariant.0,
      subst (λ j. AreKeysBelow c.args.shape.now j c.loop-number.traitors.items) all c.loop-number.invariant.1,
      c.m-number-end.ensures.same,
      c.loop-number.invariant.3,
      λ d above. c.loop-number.invariant.5 d,
    )

pub loop-number-2-preserved : goal.loop-number-2-preserved
loop-number-2-preserved c =
    let k = c.loop-number-2.number in
    let end = c.loop-number-2-test.true in
    let inside : k < c.args.shape.now.m = let is = c.m-number-end.ensures.same in omega (arith, end, is) in
    let next : suc (c.args.shape.now.n + k) ≡ c.args.shape.now.n + (k + 1) = omega arith in
    let parties = one_cast c.args.shape.now (c.args.shape.now.n + k) c.loop-number-2.parties.items (Client k) c.client_party.result c.loop-number-2.invariant.0 inside refl
    c.client_party.ensures.plays in (
      subst (λ j. AreCast c.args.shape.now j c.push-in-loop-number-2.new.self.items) next
          (subst (AreCast c.args.shape.now (suc (c.args.shape.now.n + k))) (sym c.in_ok-push-2.ensures.items) parties),
      c.loop-number-2.invariant.1,
      c.m-number-end.ensures.same,
      c.client_party.ensures.keys ∙ c.loop-number-2.invariant.3,
      later_clients k c.loop-number-2.keys c.client_party.new.keys c.client_party.ensures.others c.loop-number-2.invariant.4,
    )

pub returns-clause-parties : goal.returns-clause-parties
returns-clause-parties c =
    let last = c.loop-number-2-test.false in
    let most = c.loop-number-2.auto.number-end in
    let all : c.args.shape.now.n + c.loop-number-2.number ≡ c.args.shape.now.n + c.args.shape.now.m =
    let is = c.m-number-end.ensures.same in omega (arith, last, most, is) in
    subst (λ k. AreCast c.args.shape.now k c.loop-number-2.parties.items) all c.loop-number-2.invariant.0

pub returns-clause-traitors : goal.returns-clause-traitors
returns-clause-traitors c = c.loop-number-2.invariant.1
