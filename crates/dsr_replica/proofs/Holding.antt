-- How a take changes the asks that are held.
use Rattle.std.proofs.Common.{◌≡◌, ◌≢◌, ℕ, ◌<◌, ◌≤◌, ◌==◌, ◌&&◌, not, nat_lt, Bool, true, false, List, ◌∷◌, Option, None, Some, if◌then◌else◌, refl, ap, ap₂, ◌∙◌, arith}
use Rattle.std.proofs.lemmas.Bool.{false_from_ne_true}
use Rattle.std.proofs.lemmas.Bool.Decides.{Decides-eqb, nat_tests}
use Rattle.dsr_names.specs.Shape.{Shape}
use Rattle.dsr_names.specs.declared.actor.Actor.TheVariants.{Client}
use Rattle.dsr_chain.specs.Proper.{IsAsked}
use Rattle.dsr_chain.specs.declared.signed_request.SignedRequest.{SignedRequest}
use Rattle.dsr_chain.proofs.Lemmas.{asked-Decides}
use Rattle.dsr_envelope.specs.declared.envelope.Envelope.{Envelope}
use Rattle.dsr_envelope.specs.declared.envelope.Envelope.TheVariants.{Empty, Round, Ask, Reply, Seen}
use Rattle.dsr_envelope.specs.declared.entry.Entry.{Entry}
use Rattle.dsr_envelope.specs.declared.entry.Entry.TheVariants.{Take}
use Rattle.dsr_replica.specs.Held.{is_own_ask, gives_way, held_with, held}
use Rattle.dsr_replica.proofs.Asks.{own_parts}

module _ (shape : Shape) (client : ℕ) where
  own_test : (ask : SignedRequest) → ask.request.client ≡ client → IsAsked shape ask → is_own_ask shape client ask ≡ true
  own_test ask is asked = ap₂ (λ b c. b && c) ((Decides-eqb ask.request.client client).1 is) ((asked-Decides shape ask).1 asked)

  way_test : (before : Option SignedRequest) (number : ℕ) → ((ask : SignedRequest) → before ≡ Some ask → ask.request.number ≤ number)
      → gives_way before number ≡ true
  way_test None number least = refl
  way_test (Some ask) number least = let most = least ask refl in not_below number ask.request.number most
    where
      not_below : (a b : ℕ) → b ≤ a → not (nat_lt a b) ≡ true
      not_below a b most = grind (arith, nat_tests)

  -- a take from the client itself
  own_take : (envelope : Envelope) (log : List Entry)
      → held shape client (Take (Client client) envelope ∷ log) ≡ held_with shape client (held shape client log) envelope
  own_take envelope log =
      ap (λ b. if b then held_with shape client (held shape client log) envelope else held shape client log)
      ((Decides-eqb client client).1 refl)

  -- its own ask with no smaller number is held from then on
  pub newer_held : (log : List Entry) (ask : SignedRequest) → ask.request.client ≡ client → IsAsked shape ask
      → ((before : SignedRequest) → held shape client log ≡ Some before → before.request.number ≤ ask.request.number)
      → held shape client (Take (Client client) (Ask ask) ∷ log) ≡ Some ask
  newer_held log ask is asked least =
      own_take (Ask ask) log
      ∙ ap₂ (λ b c. if b && c then Some ask else held shape client log) (own_test ask is asked) (way_test (held shape client log) ask.request.number least)

  below_stays : (before : Option SignedRequest) (o : Option SignedRequest) (x : SignedRequest) (number : ℕ) (b : Bool) → before ≡ Some x
      → number < x.request.number → (if b && gives_way before number then o else before) ≡ before
  below_stays before o x number b is below =
      ap (λ c. if b && c then o else before) (ap (λ w. gives_way w number) is ∙ below_test number x.request.number below) ∙ neither b
    where
      below_test : (a c : ℕ) → a < c → not (nat_lt a c) ≡ false
      below_test a c less = grind (arith, nat_tests)

      neither : (z : Bool) → (if z && false then o else before) ≡ before
      neither true = refl
      neither false = refl

  -- one with a smaller number is not
  pub older_dropped : (log : List Entry) (ask before : SignedRequest) → held shape client log ≡ Some before
      → ask.request.number < before.request.number → held shape client (Take (Client client) (Ask ask) ∷ log) ≡ held shape client log
  older_dropped log ask before is below =
      own_take (Ask ask) log
      ∙ below_stays (held shape client log) (Some ask) before ask.request.number (is_own_ask shape client ask) is below

  -- nor one that is not its own
  pub foreign_dropped : (log : List Entry) (ask : SignedRequest) → (ask.request.client ≡ client → IsAsked shape ask → ⊥)
      → held shape client (Take (Client client) (Ask ask) ∷ log) ≡ held shape client log
  foreign_dropped log ask foreign =
      own_take (Ask ask) log
      ∙ ap (λ b. if b && gives_way (held shape client log) ask.request.number then Some ask else held shape client log)
      (false_from_ne_true (is_own_ask shape client ask) (λ e. let own = own_parts shape client ask e in foreign own.client_is own.asked))

  -- nor anything else that it sends
  pub no_ask_dropped : (log : List Entry) (envelope : Envelope) → ((ask : SignedRequest) → envelope ≢ Ask ask)
      → held shape client (Take (Client client) envelope ∷ log) ≡ held shape client log
  no_ask_dropped log Empty none = own_take Empty log
  no_ask_dropped log (Round round chains) none = own_take (Round round chains) log
  no_ask_dropped log (Ask ask) none = absurd (none ask refl)
  no_ask_dropped log (Reply reply) none = own_take (Reply reply) log
  no_ask_dropped log (Seen front) none = own_take (Seen front) log

  -- nor what another client sends
  pub others_dropped : (log : List Entry) (other : ℕ) (envelope : Envelope) → other ≢ client
      → held shape client (Take (Client other) envelope ∷ log) ≡ held shape client log
  others_dropped log other envelope differ =
      ap (λ b. if b then held_with shape client (held shape client log) envelope else held shape client log)
      (false_from_ne_true (other == client) (λ e. differ ((Decides-eqb other client).0 e)))
