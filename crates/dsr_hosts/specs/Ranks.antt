-- Which fault of its hosts is the cause of a service's end. No public contract cites this.
use Rattle.std.specs.Prelude.{◌≡◌, ◌≢◌, ◌⊎◌, ℕ, suc, ◌&&◌, ◌||◌, not, is_none, nat_le, Bool, true, false, Option, None, Some, if◌then◌else◌}
use Rattle.dsr_names.specs.Places.{place_of}
use Rattle.dsr_names.specs.Shape.{Shape}
use Rattle.dsr_names.specs.declared.actor.Actor.{Actor}
use Rattle.dsr_names.specs.declared.refusal.Refusal.{Refusal}
use Rattle.dsr_names.specs.declared.refusal.Refusal.TheVariants.{Unanswered, NoThread}
use Rattle.dsr_rounds.specs.declared.end.End.{End}
use Rattle.dsr_rounds.specs.declared.end.End.TheVariants.{Told, Fault}
use Rattle.dsr_hosts.specs.declared.ends.Ends.{Ends}
use Rattle.dsr_hosts.specs.declared.ends.Fault.{Fault as AFault}

-- the lower-ranked fault; of equal ranks, the first
abbrev pub lesser_of : Option AFault → AFault → AFault
lesser_of None other = other
lesser_of (Some fault) other = if nat_le fault.rank other.rank then fault else other

-- the lowest-ranked fault, given the lowest so far and the end of one more host; a fault of that host has rank `rank`
abbrev pub first_with : Option AFault → ℕ → Option End → Option AFault
first_with first rank None = first
first_with first rank (Some Told) = first
first_with first rank (Some (Fault refusal)) = Some (lesser_of first (record { rank = rank; refusal = refusal }))

-- how hosts ended, with the end of one more: the lowest-ranked fault counts, and all clients are served if each client's host did its work
abbrev pub ends_with : Ends → ℕ → Bool → Option End → Ends
ends_with ends rank is_client end = record {
  first = first_with ends.first rank end;
  served = ends.served && (not is_client || is_none end);
}

-- the rank of a fault of the actor's host, given how the host ended: 0 for a thread that could not be started, else one more than the actor's
-- place
abbrev pub IsRank : Shape → Actor → Option End → ℕ → Type 0
IsRank shape actor None rank = rank ≡ suc (place_of shape actor)
IsRank shape actor (Some Told) rank = rank ≡ suc (place_of shape actor)
IsRank shape actor (Some (Fault refusal)) rank =
    ((refusal ≡ NoThread) × (rank ≡ 0)) ⊎ ((refusal ≢ NoThread) × (rank ≡ suc (place_of shape actor)))

-- the cause of a service's end: the lowest-ranked fault; without a fault, `Unanswered` if a client is not served, else nothing
abbrev pub cause_of : Option AFault → Bool → Option Refusal
cause_of (Some fault) served = Some fault.refusal
cause_of None true = None
cause_of None false = Some Unanswered
