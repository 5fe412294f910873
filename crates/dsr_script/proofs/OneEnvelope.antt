-- Each text of an envelope is the text of only one envelope.
use Rattle.std.proofs.Common.{◌≡◌, ℕ, ◌<◌, get_or, List, [], ◌∷◌, ◌++◌, codes, Option, None, Some, refl, sym, ap, subst, arith, lit<}
use Rattle.std.specs.Fmt.{decimal}
use Rattle.std.proofs.lemmas.List.{append-nil, append_cancel_left, append_cancel_right}
use Rattle.std.proofs.lemmas.Option.{same_Some}
use Rattle.dsr_base.specs.Joined.{joined, AreFew}
use Rattle.dsr_base.specs.Reads.{Reads}
use Rattle.dsr_base.specs.Split.{IsAbsent}
use Rattle.dsr_base.proofs.ReadsLemmas.{only_read}
use Rattle.dsr_base.proofs.TwoParts.{at_byte, outside}
use Rattle.dsr_names.specs.Actor.{actor_text, IsNumbered}
use Rattle.dsr_names.specs.declared.actor.Actor.{Actor}
use Rattle.dsr_names.specs.declared.actor.Actor.TheVariants.{Replica, Client}
use Rattle.dsr_request.specs.declared.answer.Answer.{Answer}
use Rattle.dsr_request.specs.RequestText.{request_token, IsRequest}
use Rattle.dsr_desk.specs.StatementText.{statement_text, IsStatement}
use Rattle.dsr_desk.specs.declared.statement.Statement.{Statement}
use Rattle.dsr_desk.specs.declared.statement.Statement.TheVariants.{Ask as AskOf}
use Rattle.dsr_ledger.specs.declared.reply.Reply.{Reply as AReply}
use Rattle.dsr_chain.specs.Chain.{Chain, chain_of}
use Rattle.dsr_chain.specs.Content.{content}
use Rattle.dsr_chain.specs.declared.slot_value.SlotValue.{SlotValue}
use Rattle.dsr_chain.specs.declared.slot_value.SlotValue.TheVariants.{Idle, Act}
use Rattle.dsr_envelope.specs.Limits.{IsCount, IsSigned}
use Rattle.dsr_envelope.specs.declared.envelope.Envelope.{Envelope}
use Rattle.dsr_envelope.specs.declared.envelope.Envelope.TheVariants.{Empty, Round, Ask, Reply, Seen}
use Rattle.dsr_script.specs.SignatureText.{spelled_text, other_text}
use Rattle.dsr_script.specs.ChainText.{signed_text, value_text, chain_text, IsValue, IsSpelledChain}
use Rattle.dsr_script.specs.EnvelopeText.{reply_text, envelope_text, IsSpelledEnvelope}
use Rattle.dsr_script.specs.Support.AskText.{ask_parts, ask_of, ask_apart}
use Rattle.dsr_script.specs.Support.ChainParts.{chain_parts, chain_apart}
use Rattle.dsr_script.specs.Support.EnvelopeParts.{IsSpelledReply, IsRound, round_text, reply_parts}
use Rattle.dsr_script.specs.Support.Links.{said_in, said_by}
use Rattle.dsr_script.specs.Support.SpelledText.{IsSpelled, closed_text, spelled_apart}
use Rattle.dsr_script.proofs.AskLemmas.{IsPair, pair_text, ask_kinds, no_tilde}
use Rattle.dsr_script.proofs.BriefLemmas.{said_back, links_back}
use Rattle.dsr_script.proofs.ChainTextLemmas.{no_slash_in_slot, value_apart, AreLinks, links_joined, IsEnd, end_text, IsWhole, whole_text, chain_kinds}
use Rattle.dsr_script.proofs.EnvelopeLemmas.{other_key, no_space_in, reads_round, reads_round_alone, reads_round_with, reads_reply, reads_number, reads_told, reads_seen}
use Rattle.dsr_script.proofs.OneValue.{Tells, tells_by, one_of, tells_both, tells_through, tells_few, tells_up_to, other_begun, tells_count, tells_actor, tells_answer, tells_request, tells_statement}
use Rattle.dsr_script.proofs.SpelledLemmas.{said_of, no_open_in_actor, reads_short, reads_long}

-- ---- signatures

tells_closed : Tells IsStatement closed_text
tells_closed =
    tells_by IsStatement closed_text
    (λ x y h k e.
    one_of IsStatement statement_text tells_statement x y h k (append_cancel_right (statement_text x) (statement_text y) (41 ∷ []) e))

tells_said : (signer : Actor) (other : Option Statement) → IsSpelled (said_of signer other)
    → Reads IsSpelled spelled_text (spelled_text (said_of signer other)) (Some (said_of signer other))
tells_said signer None h =
    let same : actor_text signer ≡ actor_text signer ++ [] = sym (append-nil (actor_text signer)) in
    reads_short (actor_text signer ++ []) (subst (IsAbsent 40) same (no_open_in_actor signer h.signer)) (Some signer)
    (subst (λ bytes. Reads IsNumbered actor_text bytes (Some signer)) same (tells_actor signer h.signer))
tells_said signer (Some statement) h =
    reads_long (actor_text signer ++ 40 ∷ closed_text statement) (actor_text signer) (closed_text statement) refl (no_open_in_actor signer h.signer)
    (Some signer) (Some statement) (tells_actor signer h.signer) (tells_closed statement h.other)

tells_spelled : Tells IsSpelled spelled_text
tells_spelled x h = tells_said x.signer x.other h

begun_by : (signer : Actor) (other : Option Statement) → 45 < get_or (actor_text signer ++ other_text other) 0 0
begun_by (Replica r) other = lit< tt
begun_by (Client c) other = lit< tt

-- ---- chains

tells_ask : Tells IsSigned signed_text
tells_ask =
    tells_through IsPair pair_text IsSigned signed_text (λ p. ask_of p.0 (said_in (AskOf p.0) p.1)) ask_parts
    (λ x. ap (ask_of x.request) (said_back (AskOf x.request) x.signature)) (λ x. (ask_kinds x).0) (λ x. refl)
    (tells_both IsRequest request_token IsSpelled spelled_text 126 (at_byte 126) no_tilde tells_request tells_spelled)

one_value : (a b : SlotValue) → IsValue a → IsValue b → value_text a ≡ value_text b → a ≡ b
one_value Idle Idle h k e = refl
one_value Idle (Act []) h k e = let none : ⊥ = omega (arith, k.some) in absurd none
one_value Idle (Act (x ∷ xs)) h k e = absurd (other_begun (codes "idle") (value_text (Act (x ∷ xs))) refl e)
one_value (Act []) Idle h k e = let none : ⊥ = omega (arith, h.some) in absurd none
one_value (Act (x ∷ xs)) Idle h k e = absurd (other_begun (value_text (Act (x ∷ xs))) (codes "idle") refl e)
one_value (Act xs) (Act ys) h k e =
    ap Act (one_of (AreFew IsSigned 8) (joined 44 signed_text) (tells_few IsSigned signed_text 44 ask_apart tells_ask 8) xs ys h k e)

tells_links : Tells AreLinks links_joined
tells_links = tells_up_to IsSpelled spelled_text 43 spelled_apart tells_spelled (λ x h. begun_by x.signer x.other) 16

tells_end : Tells IsEnd end_text
tells_end = tells_both IsValue value_text AreLinks links_joined 47 (outside 47) value_apart (tells_by IsValue value_text one_value) tells_links

tells_chain : Tells IsSpelledChain chain_text
tells_chain =
    tells_through IsWhole whole_text IsSpelledChain chain_text (λ p. chain_of p.0 p.1.0 (said_by p.0 (content p.1.0) [] p.1.1)) chain_parts
    (λ x. ap (chain_of x.slot x.value) (links_back x.slot (content x.value) [] x.signatures)) (λ x. (chain_kinds x).0) (λ x. refl)
    (tells_both IsCount decimal IsEnd end_text 47 (at_byte 47) no_slash_in_slot tells_count tells_end)

-- ---- envelopes

tells_chains : (round : ℕ) (chains : List Chain) → IsRound (round, chains) → Reads IsRound round_text (round_text (round, chains)) (Some (round, chains))
tells_chains round [] h =
    let same : decimal round ≡ decimal round ++ [] = sym (append-nil (decimal round)) in
    reads_round_alone (decimal round ++ []) (subst (IsAbsent 32) same (no_space_in round h.0)) (Some round)
    (subst (λ bytes. Reads IsCount decimal bytes (Some round)) same (tells_count round h.0))
tells_chains round (c ∷ cs) h =
    reads_round_with (round_text (round, c ∷ cs)) (decimal round) (joined 32 chain_text (c ∷ cs)) refl (no_space_in round h.0) (Some round) (Some (c ∷ cs))
    (tells_count round h.0)
    (tells_few IsSpelledChain chain_text 32 chain_apart tells_chain 32 (c ∷ cs) (record { some = omega arith; few = h.1.few; each = h.1.each }))

tells_reply : Tells IsSpelledReply reply_text
tells_reply x h =
    reads_reply (reply_text x) (decimal x.number) _ (decimal x.place) _ refl (no_space_in x.number h.0.number) refl (no_space_in x.place h.0.place)
    (Some x.number) (Some x.place) (Some x.answer) (Some x)
    (reads_number (decimal x.number) x.number h.0.some_number (tells_count x.number h.0.number)) (tells_count x.place h.0.place) (tells_answer x.answer h.1)
    (λ y. (
      λ e. ap (λ (r : AReply). Some (reply_parts r)) (same_Some x y e),
      λ e.
          let same = same_Some (reply_parts x) (reply_parts y) e in
          let make : ℕ × (ℕ × Answer) → AReply = λ p. record { number = p.0; place = p.1.0; answer = p.1.1 } in
          ap (λ p. Some (make p)) same,
    ))

-- envelopes with one text are one envelope
pub one_envelope : (a b : Envelope) → IsSpelledEnvelope a → IsSpelledEnvelope b → envelope_text a ≡ envelope_text b → a ≡ b
one_envelope Empty Empty h k e = refl
one_envelope Empty b h k e = absurd (other_key (codes "empty") (envelope_text b) refl e)
one_envelope (Ask request) (Ask other) h k e =
    ap Ask (one_of IsSigned signed_text tells_ask request other h k (append_cancel_left (codes "ask ") (signed_text request) (signed_text other) e))
one_envelope (Ask request) b h k e = absurd (other_key (envelope_text (Ask request)) (envelope_text b) refl e)
one_envelope (Round round chains) b h k e =
    let reads = reads_round (round_text (round, chains)) (Some (round, chains)) (tells_chains round chains h) in
    only_read IsSpelledEnvelope envelope_text (envelope_text (Round round chains)) (Round round chains) reads b k e
one_envelope (Reply reply) b h k e =
    let reads = reads_told (reply_text reply) (Some reply) (tells_reply reply h) in
    only_read IsSpelledEnvelope envelope_text (envelope_text (Reply reply)) (Reply reply) reads b k e
one_envelope (Seen front) b h k e =
    let reads = reads_seen (decimal front) (Some front) (tells_count front h) in
    only_read IsSpelledEnvelope envelope_text (envelope_text (Seen front)) (Seen front) reads b k e
