-- What a traitor's host has done (this project).
use Rattle.std.specs.Prelude.{◌≡◌, ◌⊎◌, ℕ, suc, ◌<◌, ◌++◌, nat_lt, Bool, true, false, List, [], ◌∷◌, None, Some, length, if◌then◌else◌}
use Rattle.dsr_names.specs.Shape.{Shape}
use Rattle.dsr_names.specs.declared.actor.Actor.{Actor}
use Rattle.dsr_names.specs.declared.actor.Actor.TheVariants.{Replica, Client}
use Rattle.dsr_envelope.specs.declared.envelope.Envelope.{Envelope}
use Rattle.dsr_envelope.specs.declared.envelope.Envelope.TheVariants.{Empty}
use Rattle.dsr_envelope.specs.declared.entry.Entry.{Entry}
use Rattle.dsr_envelope.specs.declared.entry.Entry.TheVariants.{Post, Take}
use Rattle.dsr_envelope.specs.Log.{posted_to, taken_from}
use Rattle.dsr_script.specs.Script.{Script, draft_at, place_of}
use Rattle.dsr_run.specs.OwnStep.{ForgesNone}
use Rattle.dsr_boxes.specs.Pass.{Pass, with_entry}
use Rattle.dsr_calls.specs.Calls.{GoesOn, number_of}
use Rattle.dsr_rounds.specs.declared.traitor.Planting.{Planting}
use Rattle.dsr_rounds.specs.declared.traitor.Planting.TheVariants.{Made, Forged, Full}

-- the script has no draft there, or its draft would be forged
abbrev pub IsNoDraft : Script → Shape → Actor → List Entry → ℕ → ℕ → Type 0
IsNoDraft script shape me log round q =
    (draft_at script (place_of (number_of me) round (Replica q)) ≡ None)
    ⊎ ((draft : Envelope) × (draft_at script (place_of (number_of me) round (Replica q)) ≡ Some draft) × ¬ ForgesNone shape me log draft)

-- what the script has the traitor post to a replica in a round, given the traitor's log: the draft, or the empty envelope if the script has no draft
-- there or the draft would be forged
abbrev pub IsPlanned : Script → Shape → Actor → List Entry → ℕ → ℕ → Envelope → Type 0
IsPlanned script shape me log round q envelope =
    ((draft_at script (place_of (number_of me) round (Replica q)) ≡ Some envelope) × ForgesNone shape me log envelope)
    ⊎ ((envelope ≡ Empty) × IsNoDraft script shape me log round q)

-- what the script has the traitor post to a client, given the traitor's log and the entries that it added to an older log: the draft of the round in
-- which each replica got its last post; this draft would not be forged
abbrev pub IsPlannedForClient : Script → Shape → Actor → List Entry → List Entry → ℕ → Envelope → Type 0
IsPlannedForClient script shape me log added c envelope = (round : ℕ)
    × ((q : ℕ) → q < shape.n → length (posted_to (Replica q) added) ≡ suc round)
    × (draft_at script (place_of (number_of me) round (Client c)) ≡ Some envelope) × ForgesNone shape me log envelope

-- each post among the entries added to a log is the script's: the t-th to a replica, counted from 0, is that of round t; one to a client is that of
-- the round in which each replica got its last post
abbrev pub ArePlanned : Script → Shape → Actor → List Entry → List Entry → Type 0
ArePlanned script shape me base [] = Unit {0}
ArePlanned script shape me base (Post (Replica q) envelope ∷ added) =
    ArePlanned script shape me base added × IsPlanned script shape me (added ++ base) (length (posted_to (Replica q) added)) q envelope
ArePlanned script shape me base (Post (Client c) envelope ∷ added) =
    ArePlanned script shape me base added × IsPlannedForClient script shape me (added ++ base) added c envelope
ArePlanned script shape me base (Take from envelope ∷ added) = ArePlanned script shape me base added

-- the later seat belongs to the same actor at the same mail, and its log extends the earlier one: by `posts q` posts to each replica q and `takes p`
-- takes from each replica p; and all posts are the script's
pub record FollowsScript (script : Script) (earlier later : Pass) (posts takes : ℕ → ℕ) : Type 0 where
  pub id : later.id ≡ earlier.id
  pub shape : later.shape ≡ earlier.shape
  pub actor : later.actor ≡ earlier.actor
  pub added : List Entry
  pub log : later.log ≡ added ++ earlier.log
  pub posted : (q : ℕ) → q < earlier.shape.n → length (posted_to (Replica q) added) ≡ posts q
  pub taken : (p : ℕ) → p < earlier.shape.n → length (taken_from (Replica p) added) ≡ takes p
  pub planned : ArePlanned script earlier.shape earlier.actor earlier.log added

-- the traitor's host made all rounds: to each replica it posted once a round what the script says, and took from each once a round
abbrev pub RanScript : Script → ℕ → Pass → Pass → Type 0
RanScript script count earlier later = FollowsScript script earlier later (λ q. count) (λ p. count)

-- no round is open at the seat: the traitor has taken from each replica as often as it has posted to it
abbrev pub IsBetweenRounds : Pass → Type 0
IsBetweenRounds seat = (q : ℕ) → q < seat.shape.n → length (taken_from (Replica q) seat.log) ≡ length (posted_to (Replica q) seat.log)

-- the later seat follows the script, whatever the numbers of posts and takes: no post is another than the script's
abbrev pub Follows : Script → Pass → Pass → Type 0
Follows script earlier later = (posts : ℕ → ℕ) × (takes : ℕ → ℕ) × FollowsScript script earlier later posts takes

-- the number of posts to replica q, or of takes from it, once round t has those of the replicas below p
abbrev pub count_at : ℕ → ℕ → ℕ → ℕ
count_at t p q = if nat_lt q p then suc t else t

-- what came of a try to post a draft: it was posted, and forges none; or it would be forged; or the box was in the way: then nothing changed
abbrev pub HasPlanted : Pass → Pass → Actor → Envelope → Planting → Type 0
HasPlanted old new to draft Made = (new ≡ with_entry old (Post to draft)) × ForgesNone old.shape old.actor old.log draft
HasPlanted old new to draft Forged = (new ≡ old) × ¬ ForgesNone old.shape old.actor old.log draft
HasPlanted old new to draft Full = new ≡ old

-- what came of posting a draft to a replica: it was posted, and forges none; or it would be forged, and nothing changed
abbrev pub IsPlanting : Pass → Pass → ℕ → Envelope → Bool → Type 0
IsPlanting old new to draft true = (new ≡ with_entry old (Post (Replica to) draft)) × ForgesNone old.shape old.actor old.log draft
IsPlanting old new to draft false = (new ≡ old) × ¬ ForgesNone old.shape old.actor old.log draft

-- the outcome for the round's draft for a replica: true, the log has its post, and the draft forges nothing; false, the script has no draft there or
-- the draft would be forged, and nothing changed
abbrev pub IsScripted : Script → ℕ → Pass → Pass → ℕ → Bool → Type 0
IsScripted script round old new to true = (draft : Envelope) × (draft_at script (place_of (number_of old.actor) round (Replica to)) ≡ Some draft)
    × (new ≡ with_entry old (Post (Replica to) draft)) × ForgesNone old.shape old.actor old.log draft
IsScripted script round old new to false = (new ≡ old) × IsNoDraft script old.shape old.actor old.log round to

-- the traitor did nothing with replicas: the later seat follows each script as far as the earlier did
pub record KeepsCounts (earlier later : Pass) : Type 0 where
  pub goes_on : GoesOn later earlier
  pub keeps : (script : Script) (first : Pass) (posts takes : ℕ → ℕ) → FollowsScript script first earlier posts takes
      → FollowsScript script first later posts takes

-- the traitor only posted to clients: if round t has all its n posts to replicas, the later seat follows the script as far as the earlier
pub record PostsToClients (script : Script) (t n : ℕ) (earlier later : Pass) : Type 0 where
  pub goes_on : GoesOn later earlier
  pub keeps : (first : Pass) (takes : ℕ → ℕ) → FollowsScript script first earlier (count_at t n) takes
      → FollowsScript script first later (count_at t n) takes

-- if the earlier seat follows the script with these numbers of posts and takes, the later one follows it too
abbrev pub StillFollows : Script → (ℕ → ℕ) → (ℕ → ℕ) → Pass → Pass → Type 0
StillFollows script posts takes earlier later = (first : Pass) → FollowsScript script first earlier posts takes → Follows script first later

-- the same for takes in round t alone, whatever the script and the posts
abbrev pub StillTakes : ℕ → Pass → Pass → Type 0
StillTakes t earlier later = (script : Script) (posts : ℕ → ℕ) → StillFollows script posts (count_at t 0) earlier later

-- the posts of round t to the replicas below p were made
abbrev pub PostsDrafts : Script → ℕ → ℕ → Pass → Pass → Type 0
PostsDrafts script t p earlier later = (first : Pass) (takes : ℕ → ℕ)
    → FollowsScript script first earlier (count_at t 0) takes → FollowsScript script first later (count_at t p) takes

-- the takes of round t from the replicas below p were made
abbrev pub TakesFromAll : ℕ → ℕ → Pass → Pass → Type 0
TakesFromAll t p earlier later = (script : Script) (first : Pass) (posts : ℕ → ℕ)
    → FollowsScript script first earlier posts (count_at t 0) → FollowsScript script first later posts (count_at t p)

-- the posts and takes of round t were made
abbrev pub MakesRound : Script → ℕ → Pass → Pass → Type 0
MakesRound script t earlier later = (first : Pass) → FollowsScript script first earlier (count_at t 0) (count_at t 0)
    → FollowsScript script first later (count_at (suc t) 0) (count_at (suc t) 0)
