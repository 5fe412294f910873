-- Seats of any kind, and rows of them. No public contract cites this.
use Rattle.std.specs.Prelude.{◌≡◌, ℕ, suc, ◌+◌, ◌≤◌, ◌++◌, Bool, true, false, List, [], ◌∷◌, All, map, vec_len, vec_capacity}
use Rattle.dsr_names.specs.Shape.{IsActor}
use Rattle.dsr_boxes.specs.Pass.{SharedBoxes, Pass, IsPassOf}
use Rattle.dsr_mail.specs.declared.seats.Seats.{Seats}
use Rattle.dsr_hosts.specs.declared.any_seat.AnySeat.{AnySeat}
use Rattle.dsr_hosts.specs.declared.any_seat.AnySeat.TheVariants.{Loyal, Traitor, OfClient}

-- the pass of a seat of any kind
abbrev pub pass_of : AnySeat → Pass
pass_of (Loyal seat) = seat
pass_of (Traitor seat) = seat
pass_of (OfClient seat) = seat

-- whether the seat is a client's
abbrev pub is_of_client : AnySeat → Bool
is_of_client (Loyal seat) = false
is_of_client (Traitor seat) = false
is_of_client (OfClient seat) = true

-- the seat is one of this mail, and nothing was done at it
abbrev pub IsNewSeat : SharedBoxes → Pass → Type 0
IsNewSeat mail seat = IsPassOf mail seat × (seat.log ≡ [])

-- the seat is one of this mail, for an actor of its shape
abbrev pub IsSeatOf : SharedBoxes → Pass → Type 0
IsSeatOf mail seat = IsPassOf mail seat × IsActor mail.shape seat.actor

-- the seat that came back is one of this mail, and the same actor's
abbrev pub IsAgain : SharedBoxes → Pass → Pass → Type 0
IsAgain mail seat again = IsSeatOf mail again × (again.actor ≡ seat.actor)

-- the seat that came back is one of this mail, the same actor's, and of the same kind
abbrev pub IsBack : SharedBoxes → AnySeat → AnySeat → Type 0
IsBack mail (Loyal seat) (Loyal again) = IsAgain mail seat again
IsBack mail (Loyal seat) (Traitor again) = ⊥
IsBack mail (Loyal seat) (OfClient again) = ⊥
IsBack mail (Traitor seat) (Loyal again) = ⊥
IsBack mail (Traitor seat) (Traitor again) = IsAgain mail seat again
IsBack mail (Traitor seat) (OfClient again) = ⊥
IsBack mail (OfClient seat) (Loyal again) = ⊥
IsBack mail (OfClient seat) (Traitor again) = ⊥
IsBack mail (OfClient seat) (OfClient again) = IsAgain mail seat again

-- all seats are these others, with this one after those of its kind
abbrev pub HasLast : Seats → AnySeat → Seats → Type 0
HasLast all (Loyal seat) others = (all.replicas.items ≡ others.replicas.items ++ seat ∷ [])
    × (all.traitors.items ≡ others.traitors.items) × (all.clients.items ≡ others.clients.items)
HasLast all (Traitor seat) others = (all.traitors.items ≡ others.traitors.items ++ seat ∷ [])
    × (all.replicas.items ≡ others.replicas.items) × (all.clients.items ≡ others.clients.items)
HasLast all (OfClient seat) others = (all.clients.items ≡ others.clients.items ++ seat ∷ [])
    × (all.replicas.items ≡ others.replicas.items) × (all.traitors.items ≡ others.traitors.items)

-- there is as much room for seats of each kind as before
pub record SameRoom (old new : Seats) : Type 0 where
  pub replicas : vec_capacity new.replicas ≡ vec_capacity old.replicas
  pub traitors : vec_capacity new.traitors ≡ vec_capacity old.traitors
  pub clients : vec_capacity new.clients ≡ vec_capacity old.clients

-- there is room for one more seat of this seat's kind
abbrev pub HasRoomFor : Seats → AnySeat → Type 0
HasRoomFor seats (Loyal seat) = suc (vec_len seats.replicas) ≤ vec_capacity seats.replicas
HasRoomFor seats (Traitor seat) = suc (vec_len seats.traitors) ≤ vec_capacity seats.traitors
HasRoomFor seats (OfClient seat) = suc (vec_len seats.clients) ≤ vec_capacity seats.clients

-- both lists of each kind of seat are empty
pub record AreNone (old new : Seats) : Type 0 where
  pub replicas : (old.replicas.items ≡ []) × (new.replicas.items ≡ [])
  pub traitors : (old.traitors.items ≡ []) × (new.traitors.items ≡ [])
  pub clients : (old.clients.items ≡ []) × (new.clients.items ≡ [])

-- how many seats there are
abbrev pub seat_count : Seats → ℕ
seat_count seats = vec_len seats.replicas + (vec_len seats.traitors + vec_len seats.clients)

-- all seats, in one row
abbrev pub all_of : Seats → List Pass
all_of seats = seats.replicas.items ++ (seats.traitors.items ++ seats.clients.items)

-- the seats are those of a mail, and nothing was done at them
pub record AreNew (mail : SharedBoxes) (seats : Seats) : Type 0 where
  pub replicas : All (IsNewSeat mail) seats.replicas.items
  pub traitors : All (IsNewSeat mail) seats.traitors.items
  pub clients : All (IsNewSeat mail) seats.clients.items

-- the seats that came back are seats of this mail, and the same actors' in the same order
abbrev pub AreAgain : SharedBoxes → List Pass → List Pass → Type 0
AreAgain mail seats again = All (IsSeatOf mail) again × (map (λ (seat : Pass). seat.actor) again ≡ map (λ (seat : Pass). seat.actor) seats)
