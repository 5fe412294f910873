-- The parts of the lines of plays, and how they are written. No public contract cites this: it serves the private functions that read them.
use Rattle.std.specs.Prelude.{◌≡◌, ℕ, ◌<◌, All, List, [], ◌∷◌, ◌++◌, codes, Option, None, Some}
use Rattle.std.specs.Option.{option_map}
use Rattle.dsr_base.specs.Joined.{joined}
use Rattle.dsr_names.specs.Actor.{IsNumbered, actor_text, client_text, replica_text}
use Rattle.dsr_names.specs.declared.actor.Actor.{Actor}
use Rattle.dsr_names.specs.declared.actor.Actor.TheVariants.{Replica, Client}
use Rattle.dsr_request.specs.OpText.{op_text, IsOp}
use Rattle.dsr_envelope.specs.Pick.{IsClients}
use Rattle.dsr_envelope.specs.declared.pick.Pick.{Pick}
use Rattle.dsr_envelope.specs.declared.pick.Pick.TheVariants.{Plain, From, Begin}
use Rattle.dsr_envelope.specs.declared.envelope.Envelope.{Envelope}
use Rattle.dsr_script.specs.EnvelopeText.{envelope_text, IsSpelledEnvelope}
use Rattle.dsr_play.specs.declared.event.Event.TheVariants.{Post, Plant, Take, Tell}
use Rattle.dsr_play.specs.declared.play_line.PlayLine.{PlayLine}
use Rattle.dsr_play.specs.declared.play_line.PlayLine.TheVariants.{One, Posts, Plants, Asks}
use Rattle.dsr_play.specs.PlayText.{line_word, IsPlayLine, IsSpelledPick, pick_text}

-- a line that a text can write and that begins with this word
abbrev pub IsLineOf : List ℕ → PlayLine → Type 0
IsLineOf word line = IsPlayLine line × (line_word line ≡ word)

-- two actors
abbrev pub AreEnds : Actor × Actor → Type 0
AreEnds p = IsNumbered p.0 × IsNumbered p.1

abbrev pub two_text : Actor × Actor → List ℕ
two_text p = actor_text p.0 ++ 32 ∷ actor_text p.1

-- clients
abbrev pub AreSpelledClients : List ℕ → Type 0
AreSpelledClients clients = IsClients clients × All (λ (c : ℕ). c < 32) clients

abbrev pub clients_text : List ℕ → List ℕ
clients_text clients = joined 43 client_text clients

-- a choice that is not the plain one
abbrev pub IsSaidPick : Pick → Type 0
IsSaidPick Plain = ⊥
IsSaidPick (From clients) = AreSpelledClients clients
IsSaidPick (Begin op) = IsOp op

abbrev pub said_pick : Pick → List ℕ
said_pick Plain = []
said_pick (From clients) = codes "from" ++ 32 ∷ clients_text clients
said_pick (Begin op) = codes "begin" ++ 32 ∷ op_text 32 op

-- an actor and a choice
abbrev pub IsChoice : Actor × Pick → Type 0
IsChoice p = IsNumbered p.0 × IsSpelledPick p.1

abbrev pub choice_text : Actor × Pick → List ℕ
choice_text p = actor_text p.0 ++ pick_text p.1

-- who posts, to whom, and the choice
abbrev pub IsPosted : Actor × (Actor × Pick) → Type 0
IsPosted p = IsNumbered p.0 × IsChoice p.1

abbrev pub posted_text : Actor × (Actor × Pick) → List ℕ
posted_text p = actor_text p.0 ++ 32 ∷ choice_text p.1

-- for whom an envelope is planted, and the envelope
abbrev pub IsEnd : Actor × Envelope → Type 0
IsEnd p = IsNumbered p.0 × IsSpelledEnvelope p.1

abbrev pub end_text : Actor × Envelope → List ℕ
end_text p = actor_text p.0 ++ 32 ∷ envelope_text p.1

-- who plants, for whom, and the envelope
abbrev pub IsPlanted : Actor × (Actor × Envelope) → Type 0
IsPlanted p = IsNumbered p.0 × IsEnd p.1

abbrev pub planted_text : Actor × (Actor × Envelope) → List ℕ
planted_text p = actor_text p.0 ++ 32 ∷ end_text p.1

-- a replica that plants an envelope for each replica, and the envelope
abbrev pub IsPlantedForAll : ℕ × Envelope → Type 0
IsPlantedForAll p = (p.0 < 16) × IsSpelledEnvelope p.1

abbrev pub planted_for_all_text : ℕ × Envelope → List ℕ
planted_for_all_text p = replica_text p.0 ++ 32 ∷ envelope_text p.1

-- the lines with a post, a planted envelope, a take, the post of a seen front, and an envelope planted for each replica; `None` without one
abbrev pub post_line : Option (Actor × (Actor × Pick)) → Option PlayLine
post_line posted = option_map (λ p. One (Post p.0 p.1.0 p.1.1)) posted

abbrev pub plant_line : Option (Actor × (Actor × Envelope)) → Option PlayLine
plant_line planted = option_map (λ p. One (Plant p.0 p.1.0 p.1.1)) planted

abbrev pub take_line : Option (Actor × Actor) → Option PlayLine
take_line ends = option_map (λ p. One (Take p.0 p.1)) ends

abbrev pub tell_line : Option (Actor × Actor) → Option PlayLine
tell_line ends = option_map (λ p. One (Tell p.0 p.1)) ends

abbrev pub plants_line : Option (ℕ × Envelope) → Option PlayLine
plants_line planted = option_map (λ p. Plants p.0 p.1) planted

-- the posts of a replica with a choice that it can have
abbrev pub posts_line : Option (Actor × Pick) → Option PlayLine
posts_line None = None
posts_line (Some (Replica by, Plain)) = Some (Posts by Plain)
posts_line (Some (Replica by, From clients)) = Some (Posts by (From clients))
posts_line (Some (Replica by, Begin op)) = None
posts_line (Some (Client by, pick)) = None

-- the posts of a client with a choice that it can have
abbrev pub asks_line : Option (Actor × Pick) → Option PlayLine
asks_line None = None
asks_line (Some (Replica by, pick)) = None
asks_line (Some (Client by, Plain)) = Some (Asks by Plain)
asks_line (Some (Client by, From clients)) = None
asks_line (Some (Client by, Begin op)) = Some (Asks by (Begin op))
