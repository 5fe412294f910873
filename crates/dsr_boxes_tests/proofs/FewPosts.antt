-- A short log has few posts.
use Rattle.std.proofs.Common.{ℕ, suc, ◌<◌, ◌≤◌, Bool, true, false, List, [], ◌∷◌, ◌++◌, length, length-append, if◌then◌else◌, arith}
use Rattle.dsr_names.specs.declared.actor.Actor.{Actor}
use Rattle.dsr_names.specs.Support.ActorEquality.{actor_eq}
use Rattle.dsr_envelope.specs.declared.envelope.Envelope.{Envelope}
use Rattle.dsr_envelope.specs.declared.entry.Entry.{Entry}
use Rattle.dsr_envelope.specs.declared.entry.Entry.TheVariants.{Post, Take}
use Rattle.dsr_envelope.specs.Log.{posted_to}
use Rattle.dsr_run.specs.OwnStep.{HasPostsLeft}

one_more : (b : Bool) (x : Envelope) (posted : List Envelope) (n : ℕ) → length posted ≤ n → length (if b then posted ++ x ∷ [] else posted) ≤ suc n
one_more true x posted n low = let more = length-append posted (x ∷ []) in omega (arith, low, more)
one_more false x posted n low = omega (arith, low)

posts_in : (to : Actor) (log : List Entry) → length (posted_to to log) ≤ length log
posts_in to [] = omega arith
posts_in to (Post other x ∷ log) = one_more (actor_eq other to) x (posted_to to log) (length log) (posts_in to log)
posts_in to (Take from x ∷ log) = let low = posts_in to log in omega (arith, low)

pub few_posts : (to : Actor) (log : List Entry) → length log < 1000 → HasPostsLeft log to
few_posts to log few = let low = posts_in to log in omega (arith, few, low)
