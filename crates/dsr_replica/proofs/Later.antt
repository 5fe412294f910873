-- A loyal log that goes on: its closed rounds are kept, and what was decided stays decided.
use Rattle.std.proofs.Common.{◌≡◌, ℕ, ◌==◌, eq-eqb, Bool, true, false, if◌then◌else◌, None, Option, ◌+◌, ◌<◌, ◌≤◌, List, [], ◌∷◌, ◌++◌, length, Some, ◌⊎◌, inl, inr, refl, ap, sym, ◌∙◌, subst, append_assoc, arith}
use Rattle.std.specs.Prelude.{map, slice_get}
use Rattle.std.specs.Option.{option_map}
use Rattle.std.proofs.lemmas.List.{map-append}
use Rattle.std.proofs.lemmas.Option.{none-some, same_Some}
use Rattle.dsr_base.specs.Growth.{Extends}
use Rattle.dsr_base.specs.Member.{In, here, there}
use Rattle.dsr_names.specs.Shape.{Shape}
use Rattle.dsr_names.specs.declared.actor.Actor.{Actor}
use Rattle.dsr_names.specs.declared.actor.Actor.TheVariants.{Replica, Client}
use Rattle.dsr_ledger.specs.declared.reply.Reply.{Reply as AReply}
use Rattle.dsr_history.specs.History.{acted, reply}
use Rattle.dsr_history.proofs.Lemmas.{acted_extends}
use Rattle.dsr_rotation.specs.Calendar.{first_round}
use Rattle.dsr_desk.specs.Signature.{Signature}
use Rattle.dsr_chain.specs.Chain.{Chain}
use Rattle.dsr_chain.specs.Content.{requests_in}
use Rattle.dsr_chain.specs.Proper.{IsReplica}
use Rattle.dsr_envelope.specs.declared.envelope.Envelope.{Envelope}
use Rattle.dsr_envelope.specs.declared.envelope.Envelope.TheVariants.{Reply}
use Rattle.dsr_envelope.specs.declared.entry.Entry.{Entry}
use Rattle.dsr_envelope.specs.declared.entry.Entry.TheVariants.{Post, Take}
use Rattle.dsr_replica.specs.Conduct.{reply_to, chains_posted, IsNext, IsLoyalLog}
use Rattle.dsr_replica.specs.Counts.{IsInside}
use Rattle.dsr_replica.specs.Decided.{read_in, slot_kept, decided_values, decided_requests}
use Rattle.dsr_envelope.specs.Envelope.{chains_for, round_envelope, Carries}
use Rattle.dsr_envelope.specs.Log.{posted_to, rounds}
use Rattle.dsr_replica.specs.Posts.{IsOfRound, WasTaken, IsPosted}
use Rattle.dsr_replica.proofs.Counting.{post_due, counts, all_taken}
use Rattle.dsr_replica.proofs.Growing.{read_same, kept_same, decided_grow, rounds_grow}
use Rattle.dsr_replica.proofs.Joining.{get_last}
use Rattle.dsr_replica.proofs.Posting.{equal_posts, lawful_posts}
use Rattle.dsr_replica.proofs.Saying.{reply_made}
use Rattle.dsr_replica.proofs.Sources.{chain_posted, round_source}

module _ (shape : Shape) (me : Actor) (some : 0 < shape.n) where
  loyal_before : (newer log : List Entry) → IsLoyalLog shape me (newer ++ log) → IsLoyalLog shape me log
  loyal_before [] log loyal = loyal
  loyal_before (entry ∷ newer) log loyal = loyal_before newer log loyal.0

  more_rounds : (newer log : List Entry) → rounds shape log ≤ rounds shape (newer ++ log)
  more_rounds [] log = omega arith
  more_rounds (entry ∷ newer) log =
      let before = more_rounds newer log in
      let next = rounds_grow shape entry (newer ++ log) in
      omega (arith, before, next)

  kept_with : (newer log : List Entry) → IsLoyalLog shape me (newer ++ log) → (slot r : ℕ) → first_round shape slot + r ≤ rounds shape log
      → slot_kept shape (newer ++ log) slot r ≡ slot_kept shape log slot r
  kept_with [] log loyal slot r within = refl
  kept_with (entry ∷ newer) log loyal slot r within =
      let more = more_rounds newer log in
      kept_same shape entry (newer ++ log) (rounds shape (newer ++ log)) slot r (all_taken shape me some (newer ++ log) loyal.0)
      (omega (arith, within, more))
      ∙ kept_with newer log loyal.0 slot r within

  read_with : (newer log : List Entry) → IsLoyalLog shape me (newer ++ log) → (t : ℕ) → t < rounds shape log
      → read_in shape (newer ++ log) t ≡ read_in shape log t
  read_with [] log loyal t closed = refl
  read_with (entry ∷ newer) log loyal t closed =
      let more = more_rounds newer log in
      read_same shape entry (newer ++ log) t
      (λ p inside. let all = all_taken shape me some (newer ++ log) loyal.0 p inside in omega (arith, closed, more, all))
      ∙ read_with newer log loyal.0 t closed

  -- what was read in a closed round is what is read of it later
  pub read_later : (later log : List Entry) → IsLoyalLog shape me later → Extends later log → (t : ℕ) → t < rounds shape log
      → read_in shape later t ≡ read_in shape log t
  read_later later log loyal grown t closed =
      ap (λ l. read_in shape l t) grown.1 ∙ read_with grown.0 log (subst (IsLoyalLog shape me) grown.1 loyal) t closed

  -- what is kept after closed rounds is kept later
  pub kept_later : (later log : List Entry) → IsLoyalLog shape me later → Extends later log → (slot r : ℕ)
      → first_round shape slot + r ≤ rounds shape log → slot_kept shape later slot r ≡ slot_kept shape log slot r
  kept_later later log loyal grown slot r within =
      ap (λ l. slot_kept shape l slot r) grown.1 ∙ kept_with grown.0 log (subst (IsLoyalLog shape me) grown.1 loyal) slot r within

  decided_with : (newer log : List Entry) → IsLoyalLog shape me (newer ++ log) → Extends (decided_values shape (newer ++ log)) (decided_values shape log)
  decided_with [] log loyal = ([], refl)
  decided_with (entry ∷ newer) log loyal =
      let step = decided_grow shape entry (newer ++ log) (all_taken shape me some (newer ++ log) loyal.0) in
      let before = decided_with newer log loyal.0 in
      (step.0 ++ before.0, step.1 ∙ (ap (λ vs. step.0 ++ vs) before.1 ∙ sym (append_assoc step.0 before.0 (decided_values shape log))))

  -- what is decided stays decided, and later values are put before it
  pub decided_later : (later log : List Entry) → IsLoyalLog shape me later → Extends later log → Extends (decided_values shape later) (decided_values shape log)
  decided_later later log loyal grown =
      let h = decided_with grown.0 log (subst (IsLoyalLog shape me) grown.1 loyal) in
      (h.0, ap (decided_values shape) grown.1 ∙ h.1)

  -- so the history only grows
  pub history_later : (later log : List Entry) → IsLoyalLog shape me later → Extends later log
      → Extends (acted (decided_requests shape later)) (acted (decided_requests shape log))
  history_later later log loyal grown =
      let h = decided_later later log loyal grown in
      let parts = acted_extends (map requests_in h.0) (decided_requests shape log) in
      (parts.0, ap (λ vs. acted (map requests_in vs)) h.1 ∙ (ap acted (map-append requests_in h.0 (decided_values shape log)) ∙ parts.1))

  -- ---- posts

  -- each post of a round is its envelope by the log
  pub post_of_round : (log : List Entry) → IsLoyalLog shape me log → (q : ℕ) → q < shape.n → (j : ℕ) (envelope : Envelope)
      → slice_get (posted_to (Replica q) log) j ≡ Some envelope → IsOfRound shape me log j envelope
  post_of_round log loyal q inside j envelope e = lawful_posts shape me some log loyal j envelope (equal_posts shape me some log loyal q inside j envelope e)

  -- each chain of a post is the replica's part of a slot's round, and proper for it
  pub part_of_round : IsReplica shape me → (log : List Entry) → IsLoyalLog shape me log → (q : ℕ) → q < shape.n → (j : ℕ) (envelope : Envelope)
      → slice_get (posted_to (Replica q) log) j ≡ Some envelope → (chain : Chain) → In chain (chains_for j envelope) → IsPosted shape me log j chain
  part_of_round replica log loyal q inside j envelope e chain h =
      let of_round = post_of_round log loyal q inside j envelope e in
      chain_posted shape me log replica j of_round.value of_round.may chain
      (from_round j (chains_posted shape me log j of_round.value) (subst (λ z. In chain (chains_for j z)) of_round.is h))
    where
      in_if : (b : Bool) (chains : List Chain) → In chain (if b then chains else []) → In chain chains
      in_if true chains h = h
      in_if false chains h = elim h [ ]

      from_round : (j : ℕ) (chains : List Chain) → In chain (chains_for j (round_envelope j chains)) → In chain chains
      from_round j [] h = h
      from_round j (c ∷ cs) h = in_if (j == j) (c ∷ cs) h

  -- ---- signatures

  not_posted : (to : Actor) (envelope : Envelope) (log : List Entry) (s : Signature) → WasTaken (Post to envelope ∷ log) s → WasTaken log s
  not_posted to envelope log s h = record { from = h.from; envelope = h.envelope; taken = earlier h.taken; carried = h.carried }
    where
      earlier : In (Take h.from h.envelope) (Post to envelope ∷ log) → In (Take h.from h.envelope) log
      earlier (here e) = absurd cc
      earlier (there later) = later

  reply_parts : (shape : Shape) (log : List Entry) (client : ℕ) (envelope : Envelope) → reply_to shape log client ≡ Some envelope
      → (r : AReply) × (Reply r ≡ envelope)
  reply_parts shape log client envelope e = found (reply (decided_requests shape log) client) (sym (reply_made shape log client) ∙ e)
    where
      found : (o : Option AReply) → option_map Reply o ≡ Some envelope → (r : AReply) × (Reply r ≡ envelope)
      found None e = absurd (none-some envelope e)
      found (Some r) e = (r, same_Some (Reply r) envelope e)

  -- each signature that a loyal replica posts is its own, or is in an envelope that it took before
  pub post_source : (log : List Entry) → IsLoyalLog shape me log → (to : Actor) (envelope : Envelope) → IsNext shape me log (Post to envelope)
      → (s : Signature) → Carries envelope s → (s.signer ≡ me) ⊎ WasTaken log s
  post_source log loyal (Client c) envelope next s carried =
      let r = reply_parts shape log c envelope next.1 in
      elim (subst (λ e. Carries e s) (sym r.1) carried) [ ]
  post_source log loyal (Replica q) envelope next s carried =
      let posted = (Post (Replica q) envelope ∷ log) in
      let still : IsLoyalLog shape me posted = (loyal, next) in
      let inside : q < shape.n = subst (IsInside shape.n) (post_due shape me log q next.0 envelope next.2) (counts shape me some log loyal).inside in
      let last = last_post (q == q) (eq-eqb q q refl) (posted_to (Replica q) log) in
      elim (round_source shape me posted (length (posted_to (Replica q) log)) envelope
      (post_of_round posted still q inside (length (posted_to (Replica q) log)) envelope last) s carried) [
        | inl own ↦ inl own
        | inr taken ↦ inr (not_posted (Replica q) envelope log s taken)
      ]
    where
      last_post : (b : Bool) → b ≡ true → (xs : List Envelope) → slice_get (if b then xs ++ envelope ∷ [] else xs) (length xs) ≡ Some envelope
      last_post true e xs = get_last xs envelope
      last_post false e xs = absurd cc
