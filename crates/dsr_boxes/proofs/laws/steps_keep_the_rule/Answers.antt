use Rattle.std.proofs.Common.{refl, subst}
use lib.ListN.{get_elem?}
use Rattle.dsr_envelope.specs.Log.{posted_to, taken_from}
use Rattle.dsr_run.specs.Step.{log_of}
use Rattle.dsr_boxes.specs.Place.{slot_of}
use Rattle.dsr_boxes.specs.Rule.{Agrees}
use Rattle.dsr_boxes.proofs.BoxSteps.{claim_hit, publish_hit, fetch_hit, release_hit}
use Rattle.dsr_boxes.proofs.Moves.{moved}
use Rattle.dsr_boxes.proofs.Plainly.{missed}
use Rattle.dsr_boxes.proofs.Looking.{reviewed_at, added}
use Rattle.dsr_boxes.proofs.Parts.{opens, opens_empty, parts_on, joins_on}
use Rattle.dsr_boxes.proofs.laws.steps_keep_the_rule.Goals as goal

pub returns-clause-claim : goal.returns-clause-claim
unfolding claim_hit moved
returns-clause-claim c shape table kept id me to log in_me in_to there empty = ((claim_hit shape 0 id me log in_me to in_to table kept there empty).3, refl)

pub returns-clause-publish : goal.returns-clause-publish
unfolding publish_hit moved
returns-clause-publish c shape table kept id me to log x in_me in_to there may left =
    ((publish_hit shape 0 id me log in_me to in_to x may left table kept there (kept.stand id _ there).2.1).3, refl)

pub returns-clause-fetch : goal.returns-clause-fetch
unfolding fetch_hit moved
returns-clause-fetch c shape table kept id me source log in_me in_source there full may =
    let step = fetch_hit shape 0 id me log in_me source in_source may table kept there full in
    let box = subst (λ w. Agrees w (posted_to me (log_of kept.run source)) (taken_from source (log_of kept.run me)) (get_elem? table.homes (slot_of shape source me))) full
    (kept.boxes source me in_source in_me) in
    (box.0, (step.3, refl))

pub returns-clause-release : goal.returns-clause-release
unfolding release_hit moved
returns-clause-release c shape table kept id me source log in_me in_source there =
    ((release_hit shape 0 id me log in_me source in_source table kept there (kept.stand id _ there).2.1).3, refl)

pub returns-clause-miss : goal.returns-clause-miss
returns-clause-miss c shape table kept word id v there = missed shape table kept word id v there

pub returns-clause-open : goal.returns-clause-open
returns-clause-open c shape allowed = (opens shape allowed, opens_empty shape allowed)

pub returns-clause-part : goal.returns-clause-part
returns-clause-part c shape table kept id log logs low there = parts_on shape id log logs low table kept there

pub returns-clause-gather : goal.returns-clause-gather
returns-clause-gather c shape table kept id other me log logs next there apart also = joins_on shape id other me log logs next table kept there apart also

pub returns-clause-know : goal.returns-clause-know
returns-clause-know c shape table kept id v w there same stand = (reviewed_at shape table kept id v w there same stand, refl)

pub returns-clause-enter : goal.returns-clause-enter
returns-clause-enter c shape table kept w nobody stand = (added shape table kept w nobody stand, refl)
