-- What a post that nothing refuses has.
use Rattle.std.proofs.Common.{◌≡◌, false, Option, None, Some, ap, sym, ◌∙◌}
use Rattle.std.specs.Prelude.{IfNone}
use Rattle.std.specs.Option.{is_none}
use Rattle.std.proofs.lemmas.Bool.{true≢false}
use Rattle.std.proofs.lemmas.Option.{none-some}
use Rattle.dsr_names.specs.Shape.{Shape}
use Rattle.dsr_names.specs.declared.actor.Actor.{Actor}
use Rattle.dsr_envelope.specs.declared.pick.Pick.{Pick}
use Rattle.dsr_node.specs.Conduct.{post_of, is_exhausted}
use Rattle.dsr_play.specs.declared.event.Event.TheVariants.{Post}
use Rattle.dsr_run.specs.Step.{Logs}
use Rattle.dsr_world.specs.Event.{refusal_of}
use Rattle.dsr_world.proofs.Worlds.{cleared}

-- the poster's protocol has the post, and its counters are below their limits
pub given_there : (shape : Shape) (logs : Logs) (from to : Actor) (pick : Pick) → refusal_of shape logs (Post from to pick) ≡ None
    → post_of shape (logs from) from to pick ≡ None → ⊥
given_there shape logs from to pick none e = true≢false (sym (ap is_none e) ∙ (cleared shape logs from to pick none).given)

pub given_test : (shape : Shape) (logs : Logs) (from to : Actor) (pick : Pick) → refusal_of shape logs (Post from to pick) ≡ None
    → is_none (post_of shape (logs from) from to pick) ≡ false
given_test shape logs from to pick none = (cleared shape logs from to pick none).given

pub where_none : {X : Type 0} → (o : Option X) (A : Type 0) → o ≡ None → IfNone o A → A
where_none None A e h = h
where_none (Some x) A e h = absurd (none-some x (sym e))

pub more_there : (shape : Shape) (logs : Logs) (from to : Actor) (pick : Pick) → refusal_of shape logs (Post from to pick) ≡ None
    → is_exhausted shape (logs from) from to pick ≡ false
more_there shape logs from to pick none = (cleared shape logs from to pick none).more
