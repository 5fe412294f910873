-- The seen front never falls, and is above the place of each accepted reply; only an accepted reply and what another client
-- reports raise it.
use Rattle.std.proofs.Common.{◌≡◌, ℕ, suc, max, refl, ◌<◌, ◌≤◌, List, [], ◌∷◌, ◌++◌, ◌⊎◌, inl, inr, ap, ap₂, sym, subst, arith}
use Rattle.dsr_base.specs.Growth.{Extends}
use Rattle.dsr_base.specs.Member.{In, here, there}
use Rattle.dsr_names.specs.Shape.{Shape}
use Rattle.dsr_names.specs.declared.actor.Actor.TheVariants.{Replica, Client}
use Rattle.dsr_ledger.specs.declared.reply.Reply.{Reply as AReply}
use Rattle.dsr_envelope.specs.declared.envelope.Envelope.TheVariants.{Empty, Round, Ask, Reply, Seen}
use Rattle.dsr_envelope.specs.declared.entry.Entry.{Entry}
use Rattle.dsr_envelope.specs.declared.entry.Entry.TheVariants.{Post, Take}
use Rattle.dsr_client.specs.Accepted.{AcceptsNone, Accepts}
use Rattle.dsr_client.specs.State.{accepted, front_of, told, seen}
use Rattle.dsr_client.proofs.Answering.{accepted_grow}
use Rattle.dsr_client.proofs.Counted.{accept_cases}

front_above : (w : AReply) (replies : List AReply) → In w replies → w.place < front_of replies
front_above w [] inside = elim inside [ ]
front_above w (x ∷ older) (here e) = let at = ap (λ r. r.place) e in omega (arith, at)
front_above w (x ∷ older) (there inside) = let before = front_above w older inside in omega (arith, before)

front_grows : (newer older : List AReply) → front_of older ≤ front_of (newer ++ older)
front_grows [] older = omega arith
front_grows (x ∷ newer) older = let before = front_grows newer older in omega (arith, before)

front_extends : (later earlier : List AReply) → Extends later earlier → front_of earlier ≤ front_of later
front_extends later earlier grown = subst (λ l. front_of earlier ≤ front_of l) (sym grown.1) (front_grows grown.0 earlier)

-- a take of a front that a client reports, which moves what is reported
record Tells (entry : Entry) (older : List Entry) : Type 0 where
  pub client : ℕ
  pub front : ℕ
  pub is : entry ≡ Take (Client client) (Seen front)
  pub more : told (entry ∷ older) ≡ max (told older) front

-- nothing else moves it
told_moves : (entry : Entry) (older : List Entry) → Tells entry older ⊎ (told (entry ∷ older) ≡ told older)
told_moves (Post to envelope) older = inr refl
told_moves (Take (Replica p) envelope) older = inr refl
told_moves (Take (Client c) Empty) older = inr (omega arith)
told_moves (Take (Client c) (Round round chains)) older = inr (omega arith)
told_moves (Take (Client c) (Ask ask)) older = inr (omega arith)
told_moves (Take (Client c) (Reply reply)) older = inr (omega arith)
told_moves (Take (Client c) (Seen front)) older = inl (record { client = c; front = front; is = refl; more = omega arith })

told_grows : (entry : Entry) (log : List Entry) → told log ≤ told (entry ∷ log)
told_grows entry log = elim (told_moves entry log) [
  | inl tells ↦ let more = tells.more in omega (arith, more)
  | inr same ↦ omega (arith, same)
]

-- an accepted reply's place is below the front
pub seen_above : (shape : Shape) (log : List Entry) (w : AReply) → In w (accepted shape log) → w.place < seen shape log
seen_above shape log w inside = let front = front_above w (accepted shape log) inside in omega (arith, front)

-- the front never falls
pub seen_grows : (shape : Shape) (entry : Entry) (log : List Entry) → seen shape log ≤ seen shape (entry ∷ log)
seen_grows shape entry log =
    let front = front_extends (accepted shape (entry ∷ log)) (accepted shape log) (accepted_grow shape entry log) in
    let more = told_grows entry log in
    omega (arith, front, more)

front_below : (replies : List AReply) (most : ℕ) → ((w : AReply) → In w replies → w.place < most) → front_of replies ≤ most
front_below [] most below = omega arith
front_below (w ∷ older) most below =
    let first = below w (here refl) in
    let rest = front_below older most (λ v h. below v (there h)) in
    omega (arith, first, rest)

abbrev TellsAtMost : List Entry → ℕ → Type 0
TellsAtMost log most = (c front : ℕ) → In (Take (Client c) (Seen front)) log → front ≤ most

told_below : (log : List Entry) (most : ℕ) → TellsAtMost log most → told log ≤ most
told_below [] most below = omega arith
told_below (entry ∷ older) most below =
    let rest = told_below older most (λ c front h. below c front (there h)) in
    elim (told_moves entry older) [
      | inl tells ↦
          let more = tells.more in
          let first = below tells.client tells.front (here tells.is) in
          omega (arith, rest, more, first)
      | inr same ↦ omega (arith, rest, same)
    ]

-- the front is at most `most`, if each accepted place is below that and no client reported a greater front
pub seen_below : (shape : Shape) (log : List Entry) (most : ℕ) → ((w : AReply) → In w (accepted shape log) → w.place < most)
    → ((c front : ℕ) → In (Take (Client c) (Seen front)) log → front ≤ most) → seen shape log ≤ most
seen_below shape log most replies fronts =
    let own = front_below (accepted shape log) most replies in
    let others = told_below log most fronts in
    omega (arith, own, others)

-- ---- what moves the front

-- a front that a client reports
pub seen_told : (c front : ℕ) (shape : Shape) (log : List Entry) → seen shape (Take (Client c) (Seen front) ∷ log) ≡ max (seen shape log) front
seen_told c front shape log = omega arith

-- an accepted reply
pub seen_accepted : (shape : Shape) (entry : Entry) (log : List Entry) (reply : AReply) → Accepts shape entry log reply
    → seen shape (entry ∷ log) ≡ max (seen shape log) (suc reply.place)
seen_accepted shape entry log reply h =
    let own = ap front_of h.more in
    let others = ap (λ e. told (e ∷ log)) h.taken in
    omega (arith, own, others)

-- nothing else
pub seen_moves : (shape : Shape) (entry : Entry) (log : List Entry)
    → ((c : ℕ) × (front : ℕ) × (entry ≡ Take (Client c) (Seen front))) ⊎ ((reply : AReply) × Accepts shape entry log reply)
    ⊎ (seen shape (entry ∷ log) ≡ seen shape log)
seen_moves shape entry log = elim (accept_cases shape entry log) [
  | inl none ↦ elim (told_moves entry log) [
    | inl tells ↦ inl (tells.client, tells.front, tells.is)
    | inr same ↦ inr (inr (ap₂ (λ replies most. max (front_of replies) most) none.same same))
  ]
  | inr some ↦ inr (inl some)
]
