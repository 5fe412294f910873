-- What a loyal replica posts for a slot: what each of its chains comes from, that each is proper for its round, and on
-- which link its own signature is there.
use Rattle.std.proofs.Common.{◌≡◌, ◌≢◌, ℕ, zero, suc, ◌<◌, List, [], ◌∷◌, length, ◌⊎◌, inl, inr, refl, ap, sym, ◌∙◌, subst, arith}
use Rattle.std.specs.Prelude.{Any, All, filter, ◌&&◌, ◌==◌, not}
use Rattle.std.specs.Bool.{Decides}
use Rattle.std.proofs.lemmas.Bool.Decides.{Decides-and, Decides-not, Decides-like, Decides-eqb}
use Rattle.dsr_base.specs.Member.{In, here}
use Rattle.dsr_names.specs.Shape.{Shape}
use Rattle.dsr_names.specs.declared.actor.Actor.{Actor}
use Rattle.dsr_base.proofs.MemberLemmas.{In-append_left, In-append_right, In-append_cases, In-one}
use Rattle.dsr_desk.specs.Signature.{Signature, signed}
use Rattle.dsr_names.specs.Support.ActorEquality.{actor_eq, actor_eq-Decides}
use Rattle.dsr_chain.specs.Content.{content, signed_in}
use Rattle.dsr_chain.specs.Chain.{Chain, chain_of, link_after, extended, started}
use Rattle.dsr_chain.specs.Proper.{IsReplica, IsAsked, IsProper, sender_of}
use Rattle.dsr_chain.specs.ProperTest.{is_signer}
use Rattle.dsr_chain.specs.declared.slot_value.SlotValue.{SlotValue}
use Rattle.dsr_chain.proofs.Lemmas.{is_signer-Decides, started_proper, extended_proper, own_before, other_place, link_parts}
use Rattle.dsr_slot.specs.declared.kept.Kept.{Kept}
use Rattle.dsr_slot.specs.Keeping.{kept_after}
use Rattle.dsr_slot.specs.Conduct.{is_relayed, relayed, begun, posted}
use Rattle.dsr_slot.proofs.Lists.{by_test, in_filter, from_filter, in_map, from_map}
use Rattle.dsr_slot.proofs.Keeps.{after_from}

-- whether an actor signed a chain
abbrev pub HasSigned : Actor → Chain → Type 0
HasSigned a chain = Any (λ s. s.signer ≡ a) chain.signatures

-- what is relayed in a round: what was kept in the round before and is not signed yet
pub record IsRelayed (me : Actor) (round : ℕ) (k : Kept) : Type 0 where
  pub kept_before : suc k.round ≡ round
  pub unsigned : ¬ HasSigned me k.chain

pub is_relayed-Decides : (me : Actor) (round : ℕ) (k : Kept) → Decides (is_relayed me round k) (IsRelayed me round k)
is_relayed-Decides me round k =
    Decides-like (is_relayed me round k) (λ h. record { kept_before = h.0; unsigned = h.1 }) (λ h. (h.kept_before, h.unsigned))
    (Decides-and (suc k.round == round) (not (is_signer me k.chain)) (Decides-eqb (suc k.round) round)
    (Decides-not (is_signer me k.chain) (is_signer-Decides me k.chain)))

-- a chain that was kept in the round before and is not signed yet is posted
pub relay_posted : (shape : Shape) (slot : ℕ) (me : Actor) (value : SlotValue) (round : ℕ) (kept : List Kept) (k : Kept) → In k kept
    → IsRelayed me round k → In (extended k.chain me) (posted shape slot me value round kept)
relay_posted shape slot me value round kept k h relay =
    In-append_left (extended k.chain me) (relayed me round kept) (begun shape slot me value round)
    (in_map (λ z. extended z.chain me) k (filter (is_relayed me round) kept)
    (in_filter (is_relayed me round) k kept h ((is_relayed-Decides me round k).1 relay)))

-- whether this replica starts its chain in this round
abbrev Begins : Shape → ℕ → Actor → ℕ → Type 0
Begins shape slot me round = (round ≡ 1) × (me ≡ sender_of shape slot)

begins-Decides : (shape : Shape) (slot : ℕ) (me : Actor) (round : ℕ)
    → Decides ((round == 1) && actor_eq me (sender_of shape slot)) (Begins shape slot me round)
begins-Decides shape slot me round =
    Decides-and (round == 1) (actor_eq me (sender_of shape slot)) (Decides-eqb round 1) (actor_eq-Decides me (sender_of shape slot))

begun_cases : (shape : Shape) (slot : ℕ) (me : Actor) (value : SlotValue) (round : ℕ)
    → (Begins shape slot me round × (begun shape slot me value round ≡ started slot value me ∷ []))
    ⊎ ((¬ Begins shape slot me round) × (begun shape slot me value round ≡ []))
begun_cases shape slot me value round =
    by_test ((round == 1) && actor_eq me (sender_of shape slot)) (begins-Decides shape slot me round) (started slot value me ∷ []) []

-- the sender posts the chain that it starts
pub start_posted : (shape : Shape) (slot : ℕ) (me : Actor) (value : SlotValue) (kept : List Kept) → me ≡ sender_of shape slot
    → In (started slot value me) (posted shape slot me value 1 kept)
start_posted shape slot me value kept sender =
    In-append_right (started slot value me) (relayed me 1 kept) (begun shape slot me value 1)
    (elim (begun_cases shape slot me value 1) [
      | inl begins ↦ subst (In (started slot value me)) (sym begins.1) (here refl)
      | inr not_begun ↦ absurd (not_begun.0 (refl, sender))
    ])

-- what a posted chain comes from: it extends one that was kept in the round before, or it is the one that the sender
-- starts
pub record IsRelay (me : Actor) (round : ℕ) (kept : List Kept) (c : Chain) : Type 0 where
  pub from : Kept
  pub kept_then : In from kept
  pub relay : IsRelayed me round from
  pub is : extended from.chain me ≡ c

pub record IsStart (shape : Shape) (slot : ℕ) (me : Actor) (value : SlotValue) (round : ℕ) (c : Chain) : Type 0 where
  pub first_round : round ≡ 1
  pub sender : me ≡ sender_of shape slot
  pub is : started slot value me ≡ c

relayed_from : (me : Actor) (round : ℕ) (kept : List Kept) (c : Chain) → In c (relayed me round kept) → IsRelay me round kept c
relayed_from me round kept c h =
    let mapped = from_map (λ z. extended z.chain me) c (filter (is_relayed me round) kept) h in
    let passed = from_filter (is_relayed me round) mapped.0 kept mapped.1 in
    record { from = mapped.0; kept_then = passed.0; relay = (is_relayed-Decides me round mapped.0).0 passed.1; is = mapped.2 }

begun_from : (shape : Shape) (slot : ℕ) (me : Actor) (value : SlotValue) (round : ℕ) (c : Chain) → In c (begun shape slot me value round)
    → IsStart shape slot me value round c
begun_from shape slot me value round c h = elim (begun_cases shape slot me value round) [
  | inl begins ↦
      record { first_round = begins.0.0; sender = begins.0.1; is = In-one c (started slot value me) (subst (In c) begins.1 h) }
  | inr not_begun ↦ none (subst (In c) not_begun.1 h)
]
  where
    none : In c [] → IsStart shape slot me value round c
    none h = elim h [ ]

pub posted_from : (shape : Shape) (slot : ℕ) (me : Actor) (value : SlotValue) (round : ℕ) (kept : List Kept) (c : Chain)
    → In c (posted shape slot me value round kept) → IsRelay me round kept c ⊎ IsStart shape slot me value round c
posted_from shape slot me value round kept c h = elim (In-append_cases c (relayed me round kept) (begun shape slot me value round) h) [
  | inl relays ↦ inl (relayed_from me round kept c relays)
  | inr starts ↦ inr (begun_from shape slot me value round c starts)
]

-- ---- over what was kept

module _ (shape : Shape) (slot : ℕ) (read : ℕ → List Chain) (me : Actor) (value : SlotValue) where
  abbrev kept : ℕ → List Kept
  kept r = kept_after shape slot read r

  -- a relay extends a chain without the replica's signature that was read in the round before, and proper then
  pub record WasRelayed (r : ℕ) (c : Chain) : Type 0 where
    pub chain : Chain
    pub some : 0 < r
    pub read_then : In chain (read r)
    pub proper : IsProper shape slot r chain
    pub unsigned : ¬ HasSigned me chain
    pub is : extended chain me ≡ c

  relay_was : (r : ℕ) (c : Chain) → IsRelay me (suc r) (kept r) c → WasRelayed r c
  relay_was r c h =
      let was = after_from shape slot read r h.from h.kept_then in
      let relay = h.relay.kept_before in
      let round_is = was.round_is in
      let same : suc was.before ≡ r = omega arith in
      record {
        chain = h.from.chain;
        some = omega arith;
        read_then = subst (λ j. In h.from.chain (read j)) same was.read_then;
        proper = subst (λ j. IsProper shape slot j h.from.chain) same was.proper;
        unsigned = h.relay.unsigned;
        is = h.is;
      }

  pub post_cases : (r : ℕ) (c : Chain) → In c (posted shape slot me value (suc r) (kept r))
      → WasRelayed r c ⊎ IsStart shape slot me value (suc r) c
  post_cases r c h = elim (posted_from shape slot me value (suc r) (kept r) c h) [
    | inl relay ↦ inl (relay_was r c relay)
    | inr start ↦ inr start
  ]

  -- all that a replica of the shape posts is proper for its round
  pub post_proper : IsReplica shape me → All (IsAsked shape) (signed_in value) → (r : ℕ) (c : Chain)
      → In c (posted shape slot me value (suc r) (kept r)) → IsProper shape slot (suc r) c
  post_proper replica asked r c h = elim (post_cases r c h) [
    | inl relay ↦ subst (IsProper shape slot (suc r)) relay.is (extended_proper shape slot r relay.chain me relay.proper replica relay.unsigned)
    | inr start ↦
        let first : IsProper shape slot 1 (started slot value (sender_of shape slot)) =
        started_proper shape slot value (subst (IsReplica shape) start.sender replica) asked in
        subst (λ j. IsProper shape slot j c) (sym start.first_round)
        (subst (IsProper shape slot 1) (ap (started slot value) (sym start.sender) ∙ start.is) first)
  ]

  -- its own signature on what it posts is on a link of that content; on the link after no signers only if it starts the
  -- chain
  pub record IsOwn (r : ℕ) (c : Chain) (carried : SlotValue) (before : List Actor) : Type 0 where
    pub same : content carried ≡ content c.value
    pub from_start : before ≡ [] → content carried ≡ content value

  relay_own : (r : ℕ) (c : Chain) (carried : SlotValue) (before : List Actor) → WasRelayed r c
      → In (signed me (link_after slot carried before)) c.signatures → IsOwn r c carried before
  relay_own r c carried before relay h =
      let own = signed me (link_after slot carried before) in
      let places =
      own_before shape slot r relay.chain me own slot carried before relay.proper relay.unsigned (subst (λ d. In own d.signatures) (sym relay.is) h) refl
      refl in
      let some = relay.some in
      record {
        same = places.1 ∙ ap (λ d. content d.value) relay.is;
        from_start = λ e. let none : length before ≡ 0 = ap length e in let count = places.2 in absurd (omega arith);
      }

  start_own : (r : ℕ) (c : Chain) (carried : SlotValue) (before : List Actor) → IsStart shape slot me value (suc r) c
      → In (signed me (link_after slot carried before)) c.signatures → IsOwn r c carried before
  start_own r c carried before start h =
      let own = signed me (link_after slot carried before) in
      let e = In-one own (signed me (link_after slot value [])) (subst (λ d. In own d.signatures) (sym start.is) h) in
      let parts = link_parts slot slot carried value before [] (ap (λ s. s.statement) (sym e)) in
      record { same = parts.1 ∙ ap (λ d. content d.value) start.is; from_start = λ none. parts.1 }

  pub post_own : (r : ℕ) (c : Chain) (carried : SlotValue) (before : List Actor) → In c (posted shape slot me value (suc r) (kept r))
      → In (signed me (link_after slot carried before)) c.signatures → IsOwn r c carried before
  post_own r c carried before h stands = elim (post_cases r c h) [
    | inl relay ↦ relay_own r c carried before relay stands
    | inr start ↦ start_own r c carried before start stands
  ]

  -- another's signature on what it posts was in a chain that it read in the round before, and that was proper then
  pub record StoodBefore (r : ℕ) (s : Signature) : Type 0 where
    pub before : ℕ
    pub next : suc before ≡ r
    pub chain : Chain
    pub read_then : In chain (read (suc before))
    pub proper : IsProper shape slot (suc before) chain
    pub stands : In s chain.signatures

  stood_at : (r : ℕ) (s : Signature) (chain : Chain) → 0 < r → In chain (read r) → IsProper shape slot r chain → In s chain.signatures
      → StoodBefore r s
  stood_at zero s chain some h proper stands = absurd (omega arith)
  stood_at (suc b) s chain some h proper stands =
      record { before = b; next = refl; chain = chain; read_then = h; proper = proper; stands = stands }

  pub post_other : (r : ℕ) (c : Chain) (s : Signature) → In c (posted shape slot me value (suc r) (kept r)) → In s c.signatures
      → s.signer ≢ me → StoodBefore r s
  post_other r c s h stands other = elim (post_cases r c h) [
    | inl relay ↦
        stood_at r s relay.chain relay.some relay.read_then relay.proper
        (other_place relay.chain me s (subst (λ d. In s d.signatures) (sym relay.is) stands) other)
    | inr start ↦ none (other_place (chain_of slot value []) me s (subst (λ d. In s d.signatures) (sym start.is) stands) other)
  ]
    where
      none : In s [] → StoodBefore r s
      none h = elim h [ ]
