-- No line feed is in the text of an envelope.
use Rattle.std.proofs.Common.{All, ◌≢◌, ℕ, Bool, true, false, List, [], ◌∷◌, ◌++◌, codes, Option, None, Some, refl, arith, lit<}
use Rattle.std.specs.Prelude.{if◌then◌else◌}
use Rattle.std.specs.Fmt.{decimal}
use Rattle.std.proofs.lemmas.List.Elements.{All-nil, All-cons, All-head, All-tail}
use Rattle.dsr_base.specs.Joined.{more_joined}
use Rattle.dsr_names.specs.Actor.{IsNumbered, actor_text}
use Rattle.dsr_names.specs.declared.actor.Actor.{Actor}
use Rattle.dsr_request.specs.AnswerText.{answer_text}
use Rattle.dsr_request.specs.Request.{Request}
use Rattle.dsr_request.specs.RequestText.{request_token, IsRequest}
use Rattle.dsr_request.specs.Support.RequestToken.{token_without}
use Rattle.dsr_request.specs.Support.Texts.{answer_without}
use Rattle.dsr_desk.specs.ContentText.{content_text, IsContent}
use Rattle.dsr_desk.specs.Signature.{Signature}
use Rattle.dsr_desk.specs.SignersText.{signers_text}
use Rattle.dsr_desk.specs.StatementText.{statement_text, IsStatement}
use Rattle.dsr_desk.specs.Support.StatementEquality.{statement_eq}
use Rattle.dsr_desk.specs.declared.statement.Statement.{Statement}
use Rattle.dsr_desk.specs.declared.statement.Statement.TheVariants.{Ask as AskOf, Link}
use Rattle.dsr_chain.specs.Chain.{Chain}
use Rattle.dsr_chain.specs.Content.{content}
use Rattle.dsr_chain.specs.declared.signed_request.SignedRequest.{SignedRequest}
use Rattle.dsr_chain.specs.declared.slot_value.SlotValue.{SlotValue}
use Rattle.dsr_chain.specs.declared.slot_value.SlotValue.TheVariants.{Idle, Act}
use Rattle.dsr_envelope.specs.Limits.{IsSignature, IsSigned}
use Rattle.dsr_envelope.specs.declared.envelope.Envelope.{Envelope}
use Rattle.dsr_envelope.specs.declared.envelope.Envelope.TheVariants.{Empty, Round, Ask, Reply, Seen}
use Rattle.dsr_text.proofs.Clean.{IsClean, clean_nil, clean_then, clean_append, word_clean, more_clean, joined_clean, dashed_clean, count_clean, actor_clean, field_clean}
use Rattle.dsr_script.specs.SignatureText.{Spelled, spelled_at, other_text, spelled_text, signature_text}
use Rattle.dsr_script.specs.ChainText.{signed_text, value_text, spelled_links, links_text, chain_text, IsValue, IsSpelledChain}
use Rattle.dsr_script.specs.EnvelopeText.{reply_text, envelope_text, IsSpelledEnvelope}

-- ---- statements and signatures

colon_is_clean : ◌≢◌ {A = ℕ} 58 10
colon_is_clean e = omega arith

hash_is_clean : ◌≢◌ {A = ℕ} 35 10
hash_is_clean e = omega arith

space_is_clean : ◌≢◌ {A = ℕ} 32 10
space_is_clean e = omega arith

request_clean : (request : Request) → IsRequest request → IsClean (request_token request)
request_clean request h = token_without 10 request refl hash_is_clean colon_is_clean h

content_clean : (value : Option (List Request)) → IsContent value → IsClean (content_text value)
content_clean None h = word_clean (codes "idle") refl
content_clean (Some requests) h = joined_clean IsRequest request_token 44 (lit< tt) request_clean requests h.each

statement_clean : (statement : Statement) → IsStatement statement → IsClean (statement_text statement)
statement_clean (AskOf request) h = request_clean request h
statement_clean (Link slot value before) h =
    field_clean 47 (decimal slot) _ (lit< tt) (count_clean slot h.0)
    (field_clean 47 (content_text value) (signers_text before) (lit< tt) (content_clean value h.1)
    (dashed_clean IsNumbered actor_text 43 (lit< tt) actor_clean before h.2.each))

signature_clean : (fitting : Statement) (s : Signature) → IsSignature s → IsClean (signature_text fitting s)
signature_clean fitting s h = clean_append (actor_text s.signer) _ (actor_clean s.signer h.signer) (other (statement_eq s.statement fitting))
  where
    other : (b : Bool) → IsClean (other_text (if b then None else Some s.statement))
    other true = clean_nil
    other false =
        clean_then 40 _ (lit< tt)
        (clean_append (statement_text s.statement) (41 ∷ []) (statement_clean s.statement h.statement) (clean_then 41 [] (lit< tt) clean_nil))

-- ---- chains and envelopes

signed_clean : (ask : SignedRequest) → IsSigned ask → IsClean (signed_text ask)
signed_clean ask h =
    field_clean 126 (request_token ask.request) _ (lit< tt) (request_clean ask.request h.request)
    (signature_clean (AskOf ask.request) ask.signature h.signature)

value_clean : (value : SlotValue) → IsValue value → IsClean (value_text value)
value_clean Idle h = word_clean (codes "idle") refl
value_clean (Act batch) h = joined_clean IsSigned signed_text 44 (lit< tt) signed_clean batch h.each

abbrev IsCleanSpelled : Spelled → Type 0
IsCleanSpelled s = IsClean (spelled_text s)

each_link_clean : (slot : ℕ) (value : Option (List Request)) (before : List Actor) (ss : List Signature) → All IsSignature ss
    → All IsCleanSpelled (spelled_links slot value before ss)
each_link_clean slot value before [] all = All-nil IsCleanSpelled
each_link_clean slot value before (s ∷ ss) all =
    All-cons IsCleanSpelled (spelled_at (Link slot value before) s) (spelled_links slot value (before ++ s.signer ∷ []) ss)
    (signature_clean (Link slot value before) s (All-head IsSignature s ss all))
    (each_link_clean slot value (before ++ s.signer ∷ []) ss (All-tail IsSignature s ss all))

chain_clean : (chain : Chain) → IsSpelledChain chain → IsClean (chain_text chain)
chain_clean chain h =
    field_clean 47 (decimal chain.slot) _ (lit< tt) (count_clean chain.slot h.slot)
    (field_clean 47 (value_text chain.value) (links_text chain) (lit< tt) (value_clean chain.value h.value)
    (dashed_clean IsCleanSpelled spelled_text 43 (lit< tt) (λ s clean. clean) (spelled_links chain.slot (content chain.value) [] chain.signatures)
    (each_link_clean chain.slot (content chain.value) [] chain.signatures h.signatures.each)))

-- none in the text of an envelope
pub envelope_clean : (envelope : Envelope) → IsSpelledEnvelope envelope → IsClean (envelope_text envelope)
envelope_clean Empty h = word_clean (codes "empty") refl
envelope_clean (Round round chains) h =
    clean_append (codes "round ") _ (word_clean (codes "round ") refl)
    (clean_append (decimal round) (more_joined 32 chain_text chains) (count_clean round h.0)
    (more_clean IsSpelledChain chain_text 32 (lit< tt) chain_clean chains h.1.each))
envelope_clean (Ask request) h = clean_append (codes "ask ") (signed_text request) (word_clean (codes "ask ") refl) (signed_clean request h)
envelope_clean (Reply reply) h =
    clean_append (codes "reply ") (reply_text reply) (word_clean (codes "reply ") refl)
    (field_clean 32 (decimal reply.number) _ (lit< tt) (count_clean reply.number h.0.number)
    (field_clean 32 (decimal reply.place) (answer_text reply.answer) (lit< tt) (count_clean reply.place h.0.place)
    (answer_without 10 reply.answer refl space_is_clean h.1)))
envelope_clean (Seen front) h = clean_append (codes "seen ") (decimal front) (word_clean (codes "seen ") refl) (count_clean front h)
