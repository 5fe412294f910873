-- Which client a replica proposed last, by the choices of its posts: in the round in which a slot begins, only its sender has a chain for it.
use Rattle.std.proofs.Common.{◌≡◌, ℕ, suc, ◌+◌, ◌-◌, ◌<◌, ◌≤◌, ◌==◌, Bool, true, false, List, [], ◌∷◌, ◌++◌, Option, None, Some, if◌then◌else◌, length, inl, inr, refl, ap, sym, ◌∙◌, subst, eq-eqb, arith}
use Rattle.std.specs.Prelude.{map, reverse}
use Rattle.std.specs.Option.{option_map}
use Rattle.std.proofs.lemmas.Bool.Decides.{nat_tests}
use Rattle.std.proofs.lemmas.Option.{none-some, same_Some}
use Rattle.dsr_base.specs.Member.{In, here, there}
use Rattle.dsr_names.specs.Shape.{Shape}
use Rattle.dsr_names.specs.declared.actor.Actor.{Actor}
use Rattle.dsr_names.specs.declared.actor.Actor.TheVariants.{Replica}
use Rattle.dsr_names.specs.Support.ActorEquality.{actor_eq}
use Rattle.dsr_rotation.specs.Calendar.{first_round}
use Rattle.dsr_rotation.proofs.Lemmas.{begins_at}
use Rattle.dsr_chain.specs.Chain.{Chain, started}
use Rattle.dsr_chain.specs.Content.{signed_in}
use Rattle.dsr_chain.specs.Proper.{sender_of}
use Rattle.dsr_chain.specs.declared.signed_request.SignedRequest.{SignedRequest}
use Rattle.dsr_chain.specs.declared.slot_value.SlotValue.{SlotValue}
use Rattle.dsr_chain.specs.declared.slot_value.SlotValue.TheVariants.{Idle, Act}
use Rattle.dsr_slot.specs.Broadcast.{from_each}
use Rattle.dsr_slot.specs.Conduct.{posted}
use Rattle.dsr_slot.proofs.Lemmas.{from_one, post_cases}
use Rattle.dsr_envelope.specs.declared.envelope.Envelope.{Envelope}
use Rattle.dsr_envelope.specs.declared.entry.Entry.{Entry}
use Rattle.dsr_envelope.specs.declared.entry.Entry.TheVariants.{Post}
use Rattle.dsr_envelope.specs.declared.pick.Pick.TheVariants.{Plain, From, Begin}
use Rattle.dsr_envelope.specs.Envelope.{chains_for}
use Rattle.dsr_envelope.specs.Log.{rounds}
use Rattle.dsr_replica.specs.Conduct.{slot_part, chains_posted, proposed, envelope_with, envelope_to}
use Rattle.dsr_replica.specs.Decided.{slot_read}
use Rattle.dsr_replica.specs.Held.{all_held}
use Rattle.dsr_replica.proofs.Lemmas.{in_part, chosen_then, from_parts, all_held_from}
use Rattle.dsr_run.specs.Eager.{clients_in, first_or, last_proposed}
use Rattle.dsr_run.proofs.Posts.{part_at, for_round}

-- the clients of the requests of a value, in their order
abbrev clients_of : SlotValue → List ℕ
clients_of value = map (λ (ask : SignedRequest). ask.request.client) (signed_in value)

if_is : {A : Type 0} (b : Bool) (x y : A) → b ≡ true → (if b then x else y) ≡ x
if_is true x y e = refl
if_is false x y e = absurd cc

if_not : {A : Type 0} (b : Bool) (x y : A) → b ≡ false → (if b then x else y) ≡ y
if_not true x y e = absurd cc
if_not false x y e = refl

either : {A : Type 0} (b : Bool) (x : A) → (if b then x else x) ≡ x
either true x = refl
either false x = refl

below_differs : (a b : ℕ) → a < b → (a == b) ≡ false
below_differs a b less = grind (arith, nat_tests)

-- chains of earlier slots are passed over
past_earlier : (slot : ℕ) (chains more : List Chain) → ((c : Chain) → In c chains → c.slot < slot) → clients_in slot (chains ++ more) ≡ clients_in slot more
past_earlier slot [] more low = refl
past_earlier slot (chain ∷ rest) more low =
    if_not (chain.slot == slot) (clients_of chain.value) (clients_in slot (rest ++ more)) (below_differs chain.slot slot (low chain (here refl)))
    ∙ past_earlier slot rest more (λ c inside. low c (there inside))

module _ (shape : Shape) (me : Actor) (log : List Entry) where
  -- each chain of a slot's part is for that slot
  of_slot : (t : ℕ) (value : SlotValue) (slot : ℕ) (c : Chain) → In c (slot_part shape me log t value slot) → c.slot ≡ slot
  of_slot t value slot c h =
      elim (post_cases shape slot (slot_read shape log slot) me value (t - first_round shape slot) c (in_part shape me log t slot value c h).2) [
        | inl relay ↦ ap (λ (z : Chain). z.slot) (sym relay.is) ∙ relay.proper.of_slot
        | inr start ↦ ap (λ (z : Chain). z.slot) (sym start.is)
      ]

  earlier_slot : (t : ℕ) (value : SlotValue) (c : Chain) → In c (from_each t (slot_part shape me log t value)) → c.slot < t
  earlier_slot t value c h =
      let found = from_one c t (slot_part shape me log t value) h in
      subst (λ k. k < t) (sym (of_slot t value found.0 c found.2)) found.1

  -- in a slot's first round its sender posts the chain that it starts, and nobody else posts any
  first_part : (t : ℕ) (value : SlotValue)
      → slot_part shape me log t value t ≡ (if actor_eq me (sender_of shape t) then started t value me ∷ [] else [])
  first_part t value =
      let begins : first_round shape t + 0 ≡ t = let start = begins_at shape t in omega (arith, start) in
      subst (λ k. slot_part shape me log k value t ≡ posted shape t me value 1 []) begins (part_at shape me log t value 0 (omega arith))

  started_clients : (t : ℕ) (value : SlotValue) (b : Bool) → clients_in t (if b then started t value me ∷ [] else []) ≡ (if b then clients_of value else [])
  started_clients t value true = if_is (t == t) (clients_of value) [] (eq-eqb t t refl)
  started_clients t value false = refl

  -- so the clients that an envelope has for the slot that begins are those of the value that it proposes, if the sender posts it
  begun_clients : (value : SlotValue) → clients_in (rounds shape log) (chains_for (rounds shape log) (envelope_with shape me log value))
      ≡ (if actor_eq me (sender_of shape (rounds shape log)) then clients_of value else [])
  begun_clients value =
      let t = rounds shape log in
      ap (clients_in t) (for_round t (chains_posted shape me log t value))
      ∙ (past_earlier t (from_each t (slot_part shape me log t value)) (slot_part shape me log t value t) (earlier_slot t value)
      ∙ (ap (clients_in t) (first_part t value) ∙ started_clients t value (actor_eq me (sender_of shape t))))

  given_by : (o : Option SlotValue) (x : Envelope) → option_map (envelope_with shape me log) o ≡ Some x
      → (value : SlotValue) × (o ≡ Some value) × (envelope_with shape me log value ≡ x)
  given_by None x e = absurd (none-some x e)
  given_by (Some value) x e = (value, refl, same_Some (envelope_with shape me log value) x e)

  -- ---- who was proposed last, after a post to replica 0

  -- the plain choice proposes nobody new
  pub plain_last : (x : Envelope) → envelope_to shape me log 0 Plain ≡ Some x → last_proposed shape (Post (Replica 0) x ∷ log) ≡ last_proposed shape log
  plain_last x e =
      let is : envelope_with shape me log Idle ≡ x = same_Some (envelope_with shape me log Idle) x (chosen_then shape me log 0 Plain x e) in
      let t = rounds shape log in
      ap (λ cs. first_or (last_proposed shape log) (reverse cs))
      (ap (λ z. clients_in t (chains_for t z)) (sym is) ∙ (begun_clients Idle ∙ either (actor_eq me (sender_of shape t)) []))

  -- the last of the clients that were picked
  pub picked_last : (clients : List ℕ) (x : Envelope) → envelope_to shape me log 0 (From clients) ≡ Some x
      → last_proposed shape (Post (Replica 0) x ∷ log) ≡ first_or (last_proposed shape log) (reverse clients)
  picked_last clients x e =
      let t = rounds shape log in
      let given = given_by (proposed shape me log (From clients)) x (chosen_then shape me log 0 (From clients) x e) in
      let parts = from_parts shape me t (all_held shape log clients) given.0 given.1 in
      let are = all_held_from shape log clients parts.list parts.are in
      ap (λ cs. first_or (last_proposed shape log) (reverse cs))
      (ap (λ z. clients_in t (chains_for t z)) (sym given.2)
      ∙ (begun_clients given.0 ∙ (if_is (actor_eq me (sender_of shape t)) (clients_of given.0) [] parts.own
      ∙ (ap clients_of (sym parts.is) ∙ are.clients_are))))
