-- The lines of plays have no line feed in them, and whole plays.
use Rattle.std.proofs.Common.{◌≡◌, ℕ, ◌<◌, ◌≤◌, List, [], ◌∷◌, ◌++◌, length, codes, refl, sym, ◌∙◌, ap₂, arith, lit<}
use Rattle.dsr_base.specs.Joined.{joined}
use Rattle.dsr_names.specs.Actor.{IsNumbered, actor_text, client_text, replica_text}
use Rattle.dsr_names.specs.declared.actor.Actor.{Actor}
use Rattle.dsr_names.specs.declared.actor.Actor.TheVariants.{Client}
use Rattle.dsr_names.specs.Shape.{Shape}
use Rattle.dsr_request.specs.OpText.{op_text}
use Rattle.dsr_request.specs.Support.Texts.{op_without}
use Rattle.dsr_envelope.specs.declared.pick.Pick.{Pick}
use Rattle.dsr_envelope.specs.declared.pick.Pick.TheVariants.{Plain, From, Begin}
use Rattle.dsr_script.specs.EnvelopeText.{envelope_text}
use Rattle.dsr_text.proofs.Clean.{IsClean, clean_nil, clean_append, field_clean, word_clean, joined_clean, replica_clean, actor_clean}
use Rattle.dsr_script.proofs.FeedLemmas.{envelope_clean}
use Rattle.dsr_text.specs.Lines.{AreLines}
use Rattle.dsr_play.specs.declared.event.Event.{Event}
use Rattle.dsr_play.specs.declared.event.Event.TheVariants.{Post, Plant, Take, Tell}
use Rattle.dsr_play.specs.declared.play_line.PlayLine.{PlayLine}
use Rattle.dsr_play.specs.declared.play_line.PlayLine.TheVariants.{One, Posts, PostsAll, Plants, Takes, TakesAll, Asks, Hears, Replies}
use Rattle.dsr_play.specs.PlayText.{plays, line_text, line_word, line_rest, pick_text, IsPlayLine, IsSpelledPick, all_events}
use Rattle.dsr_play.specs.Play.{Play, Spells}

-- ---- no line feed is in a line

client_clean : (c : ℕ) → c < 32 → IsClean (client_text c)
client_clean c small = actor_clean (Client c) small

pick_clean : (pick : Pick) → IsSpelledPick pick → IsClean (pick_text pick)
pick_clean Plain is = clean_nil
pick_clean (From clients) is =
    clean_append (codes " from ") (joined 43 client_text clients) (word_clean (codes " from ") refl)
    (joined_clean (λ (c : ℕ). c < 32) client_text 43 (lit< tt) client_clean clients is.1)
pick_clean (Begin op) is = clean_append (codes " begin ") (op_text 32 op) (word_clean (codes " begin ") refl) (op_without 10 32 op refl (omega arith) is)

ends_clean : (a b : Actor) → IsNumbered a → IsNumbered b → IsClean (actor_text a ++ 32 ∷ actor_text b)
ends_clean a b one other = field_clean 32 (actor_text a) (actor_text b) (lit< tt) (actor_clean a one) (actor_clean b other)

rest_clean : (line : PlayLine) → IsPlayLine line → IsClean (line_rest line)
rest_clean (One (Post from to pick)) is =
    field_clean 32 (actor_text from) (actor_text to ++ pick_text pick) (lit< tt) (actor_clean from is.0)
    (clean_append (actor_text to) (pick_text pick) (actor_clean to is.1) (pick_clean pick is.2))
rest_clean (One (Plant from to envelope)) is =
    field_clean 32 (actor_text from) _ (lit< tt) (actor_clean from is.0)
    (field_clean 32 (actor_text to) (envelope_text envelope) (lit< tt) (actor_clean to is.1) (envelope_clean envelope is.2))
rest_clean (One (Take at from)) is = ends_clean at from is.0 is.1
rest_clean (One (Tell from to)) is = ends_clean from to is.0 is.1
rest_clean (Posts by pick) is = clean_append (replica_text by) (pick_text pick) (replica_clean by is.0) (pick_clean pick is.1)
rest_clean PostsAll is = word_clean (codes "*") refl
rest_clean (Plants by envelope) is =
    field_clean 32 (replica_text by) (envelope_text envelope) (lit< tt) (replica_clean by is.0) (envelope_clean envelope is.1)
rest_clean (Takes at) is = actor_clean at is
rest_clean TakesAll is = word_clean (codes "*") refl
rest_clean (Asks by pick) is = clean_append (client_text by) (pick_text pick) (client_clean by is.0) (pick_clean pick is.1)
rest_clean (Hears from) is = client_clean from is
rest_clean (Replies to) is = client_clean to is

first_clean : (line : PlayLine) → IsClean (line_word line)
first_clean (One (Post from to pick)) = word_clean (codes "post") refl
first_clean line = word_clean (line_word line) refl

pub line_clean : (line : PlayLine) → IsPlayLine line → IsClean (line_text line)
line_clean line is = field_clean 32 (line_word line) (line_rest line) (lit< tt) (first_clean line) (rest_clean line is)

-- ---- whole plays

abbrev make_play : Shape → List Event → Play
make_play shape events = record { shape = shape; events = events }

-- the play with the events that a text's lines represent is the play whose text it is
pub same_play : (text : List ℕ) (other play : Play) → (s : Spells text other) → play.shape ≡ other.shape → play.events ≡ all_events other.shape s.lines
    → play ≡ other
same_play text other play s same given = ap₂ make_play same (given ∙ sym s.events)

-- the events of lines of a play are at most 1,000,000
pub few_events : (shape : Shape) (lines : List PlayLine) → AreLines plays shape lines → length (all_events shape lines) ≤ 1000000
few_events shape [] each = omega arith
few_events shape (line ∷ earlier) each = each.0.follows
