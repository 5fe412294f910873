-- How texts write plays (this project): a header `dsr-play 1 n f m traitors`, then lines of one event or several each. Lines are
-- listed newest first: the last line is the first of the list.
use Rattle.std.specs.Prelude.{ℕ, zero, suc, ◌<◌, ◌≤◌, ◌==◌, if◌then◌else◌, All, List, [], ◌∷◌, ◌++◌, length, codes}
use Rattle.dsr_base.specs.Joined.{joined}
use Rattle.dsr_names.specs.Actor.{IsNumbered, actor_text, client_text, replica_text}
use Rattle.dsr_names.specs.declared.actor.Actor.{Actor}
use Rattle.dsr_names.specs.declared.actor.Actor.TheVariants.{Replica, Client}
use Rattle.dsr_names.specs.Shape.{Shape, is_traitor}
use Rattle.dsr_request.specs.OpText.{op_text, IsOp}
use Rattle.dsr_envelope.specs.Pick.{IsClients}
use Rattle.dsr_envelope.specs.declared.pick.Pick.{Pick}
use Rattle.dsr_envelope.specs.declared.pick.Pick.TheVariants.{Plain, From, Begin}
use Rattle.dsr_script.specs.EnvelopeText.{envelope_text, IsSpelledEnvelope}
use Rattle.dsr_text.specs.Lines.{TextKind}
use Rattle.dsr_play.specs.declared.event.Event.{Event}
use Rattle.dsr_play.specs.declared.event.Event.TheVariants.{Post, Plant, Take, Tell}
use Rattle.dsr_play.specs.declared.play_line.PlayLine.{PlayLine}
use Rattle.dsr_play.specs.declared.play_line.PlayLine.TheVariants.{One, Posts, PostsAll, Plants, Takes, TakesAll, Asks, Hears, Replies}

-- ---- one line

-- the first word of a line
abbrev pub line_word : PlayLine → List ℕ
line_word (One (Post from to pick)) = codes "post"
line_word (One (Plant from to envelope)) = codes "plant"
line_word (One (Take at from)) = codes "take"
line_word (One (Tell from to)) = codes "tell"
line_word (Posts by pick) = codes "posts"
line_word PostsAll = codes "posts"
line_word (Plants by envelope) = codes "plants"
line_word (Takes at) = codes "takes"
line_word TakesAll = codes "takes"
line_word (Asks by pick) = codes "asks"
line_word (Hears from) = codes "hears"
line_word (Replies to) = codes "replies"

-- a choice as it is written after an actor: nothing, ` from c0+c1` or ` begin write a 5`
abbrev pub pick_text : Pick → List ℕ
pick_text Plain = []
pick_text (From clients) = codes " from " ++ joined 43 client_text clients
pick_text (Begin op) = codes " begin " ++ op_text 32 op

-- two actors
abbrev pub ends_text : Actor → Actor → List ℕ
ends_text a b = actor_text a ++ 32 ∷ actor_text b

-- what follows the word and a space
abbrev pub line_rest : PlayLine → List ℕ
line_rest (One (Post from to pick)) = actor_text from ++ 32 ∷ (actor_text to ++ pick_text pick)
line_rest (One (Plant from to envelope)) = actor_text from ++ 32 ∷ (actor_text to ++ 32 ∷ envelope_text envelope)
line_rest (One (Take at from)) = ends_text at from
line_rest (One (Tell from to)) = ends_text from to
line_rest (Posts by pick) = replica_text by ++ pick_text pick
line_rest PostsAll = codes "*"
line_rest (Plants by envelope) = replica_text by ++ 32 ∷ envelope_text envelope
line_rest (Takes at) = actor_text at
line_rest TakesAll = codes "*"
line_rest (Asks by pick) = client_text by ++ pick_text pick
line_rest (Hears from) = client_text from
line_rest (Replies to) = client_text to

-- the text of a line, without its line feed
abbrev pub line_text : PlayLine → List ℕ
line_text line = line_word line ++ 32 ∷ line_rest line

-- a choice that a text can write
abbrev pub IsSpelledPick : Pick → Type 0
IsSpelledPick Plain = Unit {0}
IsSpelledPick (From clients) = IsClients clients × All (λ (c : ℕ). c < 32) clients
IsSpelledPick (Begin op) = IsOp op

-- a choice that a replica's posts can have: no new request
abbrev pub IsReplicaPick : Pick → Type 0
IsReplicaPick Plain = Unit {0}
IsReplicaPick (From clients) = Unit {0}
IsReplicaPick (Begin op) = ⊥

-- a choice that a client's posts can have: no list of clients
abbrev pub IsClientPick : Pick → Type 0
IsClientPick Plain = Unit {0}
IsClientPick (From clients) = ⊥
IsClientPick (Begin op) = Unit {0}

-- a line that a text can write
abbrev pub IsPlayLine : PlayLine → Type 0
IsPlayLine (One (Post from to pick)) = IsNumbered from × IsNumbered to × IsSpelledPick pick
IsPlayLine (One (Plant from to envelope)) = IsNumbered from × IsNumbered to × IsSpelledEnvelope envelope
IsPlayLine (One (Take at from)) = IsNumbered at × IsNumbered from
IsPlayLine (One (Tell from to)) = IsNumbered from × IsNumbered to
IsPlayLine (Posts by pick) = (by < 16) × IsSpelledPick pick × IsReplicaPick pick
IsPlayLine PostsAll = Unit {0}
IsPlayLine (Plants by envelope) = (by < 16) × IsSpelledEnvelope envelope
IsPlayLine (Takes at) = IsNumbered at
IsPlayLine TakesAll = Unit {0}
IsPlayLine (Asks by pick) = (by < 32) × IsSpelledPick pick × IsClientPick pick
IsPlayLine (Hears from) = from < 32
IsPlayLine (Replies to) = to < 32

-- ---- the events of a line

-- the events that each replica below n gives, from r0 on
abbrev pub with_each : ℕ → (ℕ → List Event) → List Event
with_each zero events_with = []
with_each (suc q) events_with = with_each q events_with ++ events_with q

-- the same for only the loyal replicas of a shape
abbrev pub with_each_loyal : Shape → (ℕ → List Event) → List Event
with_each_loyal shape events_with = with_each shape.n (λ p. if is_traitor shape p then [] else events_with p)

-- the choice of the post to a replica: the post to r0 has `pick`, the others are plain
abbrev pub pick_for : Pick → ℕ → Pick
pick_for pick q = if q == 0 then pick else Plain

-- an actor's posts to each replica, with this choice
abbrev pub posts_by : Shape → Actor → Pick → List Event
posts_by shape by pick = with_each shape.n (λ q. Post by (Replica q) (pick_for pick q) ∷ [])

-- an actor's takes from each replica
abbrev pub takes_at : Shape → Actor → List Event
takes_at shape at = with_each shape.n (λ q. Take at (Replica q) ∷ [])

-- the events that a line represents, in order
abbrev pub events_of : Shape → PlayLine → List Event
events_of shape (One event) = event ∷ []
events_of shape (Posts by pick) = posts_by shape (Replica by) pick
events_of shape PostsAll = with_each_loyal shape (λ p. posts_by shape (Replica p) Plain)
events_of shape (Plants by envelope) = with_each shape.n (λ q. Plant (Replica by) (Replica q) envelope ∷ [])
events_of shape (Takes at) = takes_at shape at
events_of shape TakesAll = with_each shape.n (λ p. takes_at shape (Replica p))
events_of shape (Asks by pick) = posts_by shape (Client by) pick
events_of shape (Hears from) = with_each shape.n (λ q. Take (Replica q) (Client from) ∷ [])
events_of shape (Replies to) = with_each_loyal shape (λ p. Post (Replica p) (Client to) Plain ∷ [])

-- ---- lines one after another

-- the events that lines represent, in order
abbrev pub all_events : Shape → List PlayLine → List Event
all_events shape [] = []
all_events shape (line ∷ earlier) = all_events shape earlier ++ events_of shape line

-- a line that can follow these: with its events, there are at most 1,000,000
abbrev pub CanFollow : Shape → List PlayLine → PlayLine → Type 0
CanFollow shape earlier line = length (all_events shape (line ∷ earlier)) ≤ 1000000

-- plays: texts that consist of a header and lines
abbrev pub plays : TextKind PlayLine
plays = record { title = codes "dsr-play 1"; line_text = line_text; IsLine = IsPlayLine; CanFollow = CanFollow }
