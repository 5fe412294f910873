use Rattle.std.proofs.Common.{◌≡◌, ◌+◌, ◌<◌, ◌∙◌, suc, [], ◌∷◌, length, length-append, refl, ap, sym, subst, arith}
use Rattle.dsr_names.specs.declared.actor.Actor.TheVariants.{Replica, Client}
use Rattle.dsr_record.specs.Support.KeysBelow.{HasKeysBelow}
use Rattle.dsr_record.proofs.KeyLemmas.{later_replicas, all_clients, later_clients, no_signers, one_signer, all_sign}
use Rattle.dsr_record.proofs.keys.all_keys.Goals as goal

pub loop-number-init : goal.loop-number-init
loop-number-init c = (
  subst (HasKeysBelow c.args.shape.now 0) (sym c.in_ok-keys.ensures.items) (no_signers c.args.shape.now),
  c.n-number-end.ensures.same,
  c.in_ok-untaken.ensures.shape,
  λ q above. c.in_ok-untaken.ensures.whole (Replica q),
  λ d. c.in_ok-untaken.ensures.whole (Client d),
  ap length c.in_ok-keys.ensures.items,
)

pub loop-number-preserved : goal.loop-number-preserved
loop-number-preserved c =
    let k = c.loop-number.number in
    let end = c.loop-number-test.true in
    let inside : k < c.args.shape.now.n = let is = c.n-number-end.ensures.same in omega (arith, end, is) in
    let next : suc k ≡ k + 1 = omega arith in
    let keys = one_signer c.args.shape.now k c.loop-number.keys.items c.replica_key-key.result (Replica k) c.loop-number.invariant.0 inside refl c.replica_key-key.ensures.key in
    let grew = ap length c.in_ok-push.ensures.items in
    let count = c.loop-number.invariant.5 in (
      subst (λ j. HasKeysBelow c.args.shape.now j c.push.new.self.items) next (subst (HasKeysBelow c.args.shape.now (suc k)) (sym c.in_ok-push.ensures.items) keys),
      c.n-number-end.ensures.same,
      c.replica_key-key.ensures.keys ∙ c.loop-number.invariant.2,
      later_replicas k c.loop-number.untaken c.replica_key-key.new.keys c.replica_key-key.ensures.others c.loop-number.invariant.3,
      all_clients k c.loop-number.untaken c.replica_key-key.new.keys c.replica_key-key.ensures.others c.loop-number.invariant.4,
      omega (arith, grew, count, length-append c.loop-number.keys.items (c.replica_key-key.result ∷ [])),
    )

pub loop-number-2-init : goal.loop-number-2-init
loop-number-2-init c =
    let last = c.loop-number-test.false in
    let most = c.loop-number.auto.number-end in
    let all : c.loop-number.number ≡ c.args.shape.now.n = let is = c.n-number-end.ensures.same in omega (arith, last, most, is) in
    let zero_more : c.loop-number.number ≡ c.args.shape.now.n + 0 = omega (arith, all) in (
      subst (λ j. HasKeysBelow c.args.shape.now j c.loop-number.keys.items) zero_more c.loop-number.invariant.0,
      c.m-number-end.ensures.same,
      c.loop-number.invariant.2,
      λ d above. c.loop-number.invariant.4 d,
      c.loop-number.invariant.5 ∙ zero_more,
    )

pub loop-number-2-preserved : goal.loop-number-2-preserved
loop-number-2-preserved c =
    let k = c.loop-number-2.number in
    let end = c.loop-number-2-test.true in
    let inside : k < c.args.shape.now.m = let is = c.m-number-end.ensures.same in omega (arith, end, is) in
    let next : suc (c.args.shape.now.n + k) ≡ c.args.shape.now.n + (k + 1) = omega arith in
    let keys = one_signer c.args.shape.now (c.args.shape.now.n + k) c.loop-number-2.keys.items c.client_key-key.result (Client k) c.loop-number-2.invariant.0 inside refl
    c.client_key-key.ensures.key in
    let grew = ap length c.in_ok-push-2.ensures.items in
    let count = c.loop-number-2.invariant.4 in (
      subst (λ j. HasKeysBelow c.args.shape.now j c.push-in-loop-number-2.new.self.items) next
          (subst (HasKeysBelow c.args.shape.now (suc (c.args.shape.now.n + k))) (sym c.in_ok-push-2.ensures.items) keys),
      c.m-number-end.ensures.same,
      c.client_key-key.ensures.keys ∙ c.loop-number-2.invariant.2,
      later_clients k c.loop-number-2.untaken c.client_key-key.new.keys c.client_key-key.ensures.others c.loop-number-2.invariant.3,
      omega (arith, grew, count, length-append c.loop-number-2.keys.items (c.client_key-key.result ∷ [])),
    )

pub returns-clause-all : goal.returns-clause-all
returns-clause-all c =
    let last = c.loop-number-2-test.false in
    let most = c.loop-number-2.auto.number-end in
    let all : c.args.shape.now.n + c.loop-number-2.number ≡ c.args.shape.now.n + c.args.shape.now.m =
    let is = c.m-number-end.ensures.same in omega (arith, last, most, is) in
    all_sign c.args.shape.now c.loop-number-2.keys.items (subst (λ k. HasKeysBelow c.args.shape.now k c.loop-number-2.keys.items) all c.loop-number-2.invariant.0)

pub returns-clause-count : goal.returns-clause-count
returns-clause-count c =
    let last = c.loop-number-2-test.false in
    let most = c.loop-number-2.auto.number-end in
    let count = c.loop-number-2.invariant.4 in
    let is = c.m-number-end.ensures.same in omega (arith, last, most, is, count)
