-- What comes back from the hosts of all seats. No public contract cites this.
use Rattle.std.specs.Prelude.{◌≡◌, true, false, List, All, None, IfSome}
use Rattle.dsr_base.specs.Member.{In}
use Rattle.dsr_names.specs.declared.actor.Actor.{Actor}
use Rattle.dsr_names.specs.declared.refusal.Refusal.{Refusal}
use Rattle.dsr_script.specs.Script.{Script}
use Rattle.dsr_boxes.specs.Pass.{SharedBoxes, Pass}
use Rattle.dsr_mail.specs.declared.seats.Seats.{Seats}
use Rattle.dsr_hosts.specs.declared.ran.Ran.{Ran}
use Rattle.dsr_hosts.specs.Causes.{IsUnserved, SeatRefusal}
use Rattle.dsr_hosts.specs.Hosted.{IsServed, HasPostedOwed, WasAlwaysEager, HasPostedPlanned}
use Rattle.dsr_hosts.specs.Seats.{AreAgain, SameRoom, all_of}

-- the host of one of the seats was refused with this refusal
abbrev pub WasRefused : (Actor → Type 0) → Script → List Pass → Refusal → Type 0
WasRefused may script seats refusal = (seat : Pass) × In seat seats × SeatRefusal may script seat refusal

-- one of the clients at these seats is not served
abbrev pub AreSomeUnserved : Script → List Pass → Type 0
AreSomeUnserved script seats = (seat : Pass) × In seat seats × IsUnserved script seat

-- what comes back from the hosts of all seats
pub record HaveRun (may : Actor → Type 0) (mail : SharedBoxes) (script : Script) (seats : Seats) (ran : Ran) : Type 0 where
  pub replicas : AreAgain mail seats.replicas.items ran.seats.replicas.items
  pub traitors : AreAgain mail seats.traitors.items ran.seats.traitors.items
  pub clients : AreAgain mail seats.clients.items ran.seats.clients.items
  pub room : SameRoom seats ran.seats
  pub served : ran.ends.served ≡ true → All (IsServed script) ran.seats.clients.items
  pub unserved : ran.ends.first ≡ None → ran.ends.served ≡ false → AreSomeUnserved script ran.seats.clients.items
  pub refused : IfSome ran.ends.first (λ fault. WasRefused may script (all_of ran.seats) fault.refusal)
  pub owed : All HasPostedOwed ran.seats.replicas.items
  pub eager : All WasAlwaysEager ran.seats.replicas.items
  pub planned : All (HasPostedPlanned script) ran.seats.traitors.items
