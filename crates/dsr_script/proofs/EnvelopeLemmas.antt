-- Texts of envelopes, read by their first word.
use Rattle.std.proofs.Common.{◌≡◌, ℕ, ◌+◌, ◌<◌, ◌↔◌, nat_eq, get_or, List, [], ◌∷◌, ◌++◌, codes, Option, None, Some, false, refl, sym, ◌∙◌, ap, ap₂, subst, arith, lit<}
use Rattle.std.specs.Option.{option_map}
use Rattle.std.specs.Fmt.{decimal}
use Rattle.std.proofs.lemmas.Bool.Decides.{nat_tests}
use Rattle.std.proofs.lemmas.List.{append-nil, append_cancel_left}
use Rattle.std.proofs.lemmas.List.Elements.{All-nil}
use Rattle.std.proofs.lemmas.Option.{none-some, same_Some}
use Rattle.dsr_base.specs.Joined.{joined, AreFew}
use Rattle.dsr_base.specs.Reads.{Reads}
use Rattle.dsr_base.specs.Split.{IsAbsent}
use Rattle.dsr_base.proofs.Marks.{not_absent, decimal_without_low}
use Rattle.dsr_base.proofs.ReadsLemmas.{reads_none, reads_some, not_read, was_read, only_read}
use Rattle.dsr_base.proofs.TwoParts.{at_byte, both_text, AreBoth, no_parts, no_rest}
use Rattle.dsr_request.specs.AnswerText.{answer_text, IsAnswer}
use Rattle.dsr_request.specs.declared.answer.Answer.{Answer}
use Rattle.dsr_ledger.specs.declared.reply.Reply.{Reply as AReply}
use Rattle.dsr_chain.specs.Chain.{Chain}
use Rattle.dsr_envelope.specs.Limits.{IsCount}
use Rattle.dsr_envelope.specs.declared.envelope.Envelope.{Envelope}
use Rattle.dsr_envelope.specs.declared.envelope.Envelope.TheVariants.{Empty, Round, Ask, Reply, Seen}
use Rattle.dsr_script.specs.ChainText.{chain_text, IsSpelledChain}
use Rattle.dsr_script.specs.EnvelopeText.{envelope_text, reply_text, IsSpelledEnvelope}
use Rattle.dsr_script.specs.Support.EnvelopeParts.{IsSpelledReply, IsNumber, IsRound, round_text, reply_parts, round_of}
use Rattle.dsr_script.specs.Support.SpelledText.{pair_of}
use Rattle.dsr_script.proofs.PairLemmas.{reads_pair, reads_through}

-- ---- words

-- words whose first two letters have another sum are other words
pub other_key : (xs ys : List ℕ) → nat_eq (get_or xs 0 0 + get_or xs 1 0) (get_or ys 0 0 + get_or ys 1 0) ≡ false → xs ≡ ys → ⊥
other_key xs ys differ e =
    let same : get_or xs 0 0 + get_or xs 1 0 ≡ get_or ys 0 0 + get_or ys 1 0 = ap (λ zs. get_or zs 0 0 + get_or zs 1 0) e in
    grind (arith, nat_tests)

-- an envelope made from what follows a word
record IsMade {P : Type 0} (is_p : P → Type 0) (text_p : P → List ℕ) (make : P → Envelope) (rest : List ℕ) (x : Envelope) : Type 0 where
  pub part : P
  pub kind : is_p part
  pub spelled : rest ≡ text_p part
  pub made : make part ≡ x

reads_word : {P : Type 0} (is_p : P → Type 0) (text_p : P → List ℕ) (make : P → Envelope) (word rest : List ℕ)
    → ((p : P) → is_p p → IsSpelledEnvelope (make p)) → ((p : P) → envelope_text (make p) ≡ word ++ text_p p)
    → ((x : Envelope) → IsSpelledEnvelope x → word ++ rest ≡ envelope_text x → IsMade is_p text_p make rest x)
    → (rp : Option P) → Reads is_p text_p rest rp → Reads IsSpelledEnvelope envelope_text (word ++ rest) (option_map make rp)
reads_word is_p text_p make word rest kinds same found None reads =
    reads_none IsSpelledEnvelope envelope_text (word ++ rest)
    (λ x is e. let m = found x is e in not_read is_p text_p rest reads m.part m.kind m.spelled)
reads_word is_p text_p make word rest kinds same found (Some p) reads =
    let read = was_read is_p text_p rest p reads in
    reads_some IsSpelledEnvelope envelope_text (word ++ rest) (make p) (kinds p read.0) (ap (λ xs. word ++ xs) read.1 ∙ sym (same p))
    (λ x is e.
    let m = found x is e in
    ap make (only_read is_p text_p rest p reads m.part m.kind m.spelled) ∙ m.made)

-- ---- each word

found_round : (rest : List ℕ) (x : Envelope) → IsSpelledEnvelope x → codes "round " ++ rest ≡ envelope_text x → IsMade IsRound round_text round_of rest x
found_round rest Empty is e = absurd (other_key (codes "round " ++ rest) (codes "empty") refl e)
found_round rest (Round round chains) is e =
    record { part = (round, chains); kind = is; spelled = append_cancel_left (codes "round ") rest (round_text (round, chains)) e; made = refl }
found_round rest (Ask request) is e = absurd (other_key (codes "round " ++ rest) (envelope_text (Ask request)) refl e)
found_round rest (Reply reply) is e = absurd (other_key (codes "round " ++ rest) (envelope_text (Reply reply)) refl e)
found_round rest (Seen front) is e = absurd (other_key (codes "round " ++ rest) (envelope_text (Seen front)) refl e)

pub reads_round : (rest : List ℕ) (rp : Option (ℕ × List Chain)) → Reads IsRound round_text rest rp
    → Reads IsSpelledEnvelope envelope_text (codes "round " ++ rest) (option_map round_of rp)
reads_round rest rp reads = reads_word IsRound round_text round_of (codes "round ") rest (λ p h. h) (λ p. refl) (found_round rest) rp reads

found_reply : (rest : List ℕ) (x : Envelope) → IsSpelledEnvelope x → codes "reply " ++ rest ≡ envelope_text x → IsMade IsSpelledReply reply_text Reply rest x
found_reply rest Empty is e = absurd (other_key (codes "reply " ++ rest) (codes "empty") refl e)
found_reply rest (Round round chains) is e = absurd (other_key (codes "reply " ++ rest) (envelope_text (Round round chains)) refl e)
found_reply rest (Ask request) is e = absurd (other_key (codes "reply " ++ rest) (envelope_text (Ask request)) refl e)
found_reply rest (Reply reply) is e =
    record { part = reply; kind = is; spelled = append_cancel_left (codes "reply ") rest (reply_text reply) e; made = refl }
found_reply rest (Seen front) is e = absurd (other_key (codes "reply " ++ rest) (envelope_text (Seen front)) refl e)

pub reads_told : (rest : List ℕ) (rp : Option AReply) → Reads IsSpelledReply reply_text rest rp
    → Reads IsSpelledEnvelope envelope_text (codes "reply " ++ rest) (option_map Reply rp)
reads_told rest rp reads = reads_word IsSpelledReply reply_text Reply (codes "reply ") rest (λ p h. h) (λ p. refl) (found_reply rest) rp reads

found_seen : (rest : List ℕ) (x : Envelope) → IsSpelledEnvelope x → codes "seen " ++ rest ≡ envelope_text x → IsMade IsCount decimal Seen rest x
found_seen rest Empty is e = absurd (other_key (codes "seen " ++ rest) (codes "empty") refl e)
found_seen rest (Round round chains) is e = absurd (other_key (codes "seen " ++ rest) (envelope_text (Round round chains)) refl e)
found_seen rest (Ask request) is e = absurd (other_key (codes "seen " ++ rest) (envelope_text (Ask request)) refl e)
found_seen rest (Reply reply) is e = absurd (other_key (codes "seen " ++ rest) (envelope_text (Reply reply)) refl e)
found_seen rest (Seen front) is e =
    record { part = front; kind = is; spelled = append_cancel_left (codes "seen ") rest (decimal front) e; made = refl }

pub reads_seen : (rest : List ℕ) (rp : Option ℕ) → Reads IsCount decimal rest rp
    → Reads IsSpelledEnvelope envelope_text (codes "seen " ++ rest) (option_map Seen rp)
reads_seen rest rp reads = reads_word IsCount decimal Seen (codes "seen ") rest (λ p h. h) (λ p. refl) (found_seen rest) rp reads

-- ---- a round

pub no_space_in : (n : ℕ) → IsCount n → IsAbsent 32 (decimal n)
no_space_in n small = decimal_without_low 32 n (lit< tt) (omega (arith, small))

-- a round without chains has no space in it
alone : (bytes : List ℕ) → IsAbsent 32 bytes → (round : ℕ) (chains : List Chain) → bytes ≡ round_text (round, chains) → (bytes ≡ decimal round) × (chains ≡ [])
alone bytes free round [] e = (e ∙ append-nil (decimal round), refl)
alone bytes free round (c ∷ cs) e = absurd (not_absent 32 (decimal round) (joined 32 chain_text (c ∷ cs)) (subst (IsAbsent 32) e free))

pub reads_round_alone : (bytes : List ℕ) → IsAbsent 32 bytes → (ra : Option ℕ) → Reads IsCount decimal bytes ra
    → Reads IsRound round_text bytes (pair_of ra (Some []))
reads_round_alone bytes free None reads =
    reads_none IsRound round_text bytes (λ x is e. not_read IsCount decimal bytes reads x.0 is.0 (alone bytes free x.0 x.1 e).0)
reads_round_alone bytes free (Some n) reads =
    let read = was_read IsCount decimal bytes n reads in
    reads_some IsRound round_text bytes (n, []) (read.0, record { few = omega arith; each = All-nil IsSpelledChain }) (read.1 ∙ sym (append-nil (decimal n)))
    (λ x is e.
    let same = alone bytes free x.0 x.1 e in
    ap₂ (λ m cs. (m, cs)) (only_read IsCount decimal bytes n reads x.0 is.0 same.0) (sym same.1))

abbrev AreChains : List Chain → Type 0
AreChains = AreFew IsSpelledChain 32

abbrev chains_text : List Chain → List ℕ
chains_text = joined 32 chain_text

abbrev IsPair : ℕ × List Chain → Type 0
IsPair = AreBoth IsCount decimal AreChains chains_text 32 (at_byte 32) no_space_in

abbrev pair_text : ℕ × List Chain → List ℕ
pair_text = both_text IsCount decimal AreChains chains_text 32 (at_byte 32) no_space_in

-- with a space it has chains
chained : (front rest : List ℕ) (round : ℕ) (chains : List Chain) → IsRound (round, chains) → front ++ 32 ∷ rest ≡ round_text (round, chains)
    → IsPair (round, chains) × (round_text (round, chains) ≡ pair_text (round, chains))
chained front rest round [] is e =
    absurd (not_absent 32 front rest (subst (IsAbsent 32) (sym (append-nil (decimal round)) ∙ sym e) (no_space_in round is.0)))
chained front rest round (c ∷ cs) is e = ((is.0, record { some = omega arith; few = is.1.few; each = is.1.each }), refl)

pair_is : (round : ℕ) (chains : List Chain) → IsPair (round, chains) → IsRound (round, chains) × (pair_text (round, chains) ≡ round_text (round, chains))
pair_is round [] is = let none : ⊥ = omega (arith, is.1.some) in absurd none
pair_is round (c ∷ cs) is = ((is.0, record { few = is.1.few; each = is.1.each }), refl)

pub reads_round_with : (bytes front rest : List ℕ) → bytes ≡ front ++ 32 ∷ rest → IsAbsent 32 front → (ra : Option ℕ) (rb : Option (List Chain))
    → Reads IsCount decimal front ra → Reads AreChains chains_text rest rb → Reads IsRound round_text bytes (pair_of ra rb)
reads_round_with bytes front rest parts part ra rb reads_a reads_b x =
    let pair = reads_pair IsCount decimal AreChains chains_text 32 (at_byte 32) no_space_in bytes front rest parts part ra rb reads_a reads_b in (
      λ e.
          let read = (pair x).0 e in
          let is = pair_is x.0 x.1 read.0 in
          (is.0, read.1 ∙ is.1),
      λ h.
          let is = chained front rest x.0 x.1 h.0 (sym parts ∙ h.1) in
          (pair x).1 (is.0, h.1 ∙ is.1),
    )

-- ---- a reply

no_space_in_number : (n : ℕ) → IsNumber n → IsAbsent 32 (decimal n)
no_space_in_number n h = no_space_in n h.1

abbrev IsEnd : ℕ × Answer → Type 0
IsEnd = AreBoth IsCount decimal IsAnswer answer_text 32 (at_byte 32) no_space_in

abbrev end_text : ℕ × Answer → List ℕ
end_text = both_text IsCount decimal IsAnswer answer_text 32 (at_byte 32) no_space_in

abbrev IsWhole : ℕ × (ℕ × Answer) → Type 0
IsWhole = AreBoth IsNumber decimal IsEnd end_text 32 (at_byte 32) no_space_in_number

abbrev whole_text : ℕ × (ℕ × Answer) → List ℕ
whole_text = both_text IsNumber decimal IsEnd end_text 32 (at_byte 32) no_space_in_number

reply_kinds : (x : AReply) → IsSpelledReply x ↔ IsWhole (reply_parts x)
reply_kinds x = (
  λ h. ((h.0.some_number, h.0.number), (h.0.place, h.1)),
  λ h. (record { some_number = h.0.0; number = h.0.1; place = h.1.0 }, h.1.1),
)

no_reply : (bytes : List ℕ) → Reads IsWhole whole_text bytes None → Reads IsSpelledReply reply_text bytes None
no_reply bytes reads =
    reads_through IsWhole whole_text IsSpelledReply reply_text reply_parts reply_kinds (λ x. refl) bytes None None reads
    (λ x. (λ e. absurd (none-some x e), λ e. absurd (none-some (reply_parts x) e)))

pub no_space : (bytes : List ℕ) → IsAbsent 32 bytes → Reads IsSpelledReply reply_text bytes None
no_space bytes free = no_reply bytes (no_parts IsNumber decimal IsEnd end_text 32 (at_byte 32) no_space_in_number bytes free)

pub one_space : (bytes front rest : List ℕ) → bytes ≡ front ++ 32 ∷ rest → IsAbsent 32 front → IsAbsent 32 rest → Reads IsSpelledReply reply_text bytes None
one_space bytes front rest parts part free =
    no_reply bytes
    (no_rest IsNumber decimal IsEnd end_text 32 (at_byte 32) no_space_in_number bytes front rest parts part
    (no_parts IsCount decimal IsAnswer answer_text 32 (at_byte 32) no_space_in rest free))

pub reads_reply : (bytes number rest place answer : List ℕ) → bytes ≡ number ++ 32 ∷ rest → IsAbsent 32 number → rest ≡ place ++ 32 ∷ answer → IsAbsent 32 place
    → (ra rb : Option ℕ) (rc : Option Answer) (r : Option AReply) → Reads IsNumber decimal number ra → Reads IsCount decimal place rb
    → Reads IsAnswer answer_text answer rc → ((x : AReply) → (r ≡ Some x) ↔ (pair_of ra (pair_of rb rc) ≡ Some (reply_parts x)))
    → Reads IsSpelledReply reply_text bytes r
reads_reply bytes number rest place answer parts part parts_too part_too ra rb rc r reads_a reads_b reads_c made =
    reads_through IsWhole whole_text IsSpelledReply reply_text reply_parts reply_kinds (λ x. refl) bytes (pair_of ra (pair_of rb rc)) r
    (reads_pair IsNumber decimal IsEnd end_text 32 (at_byte 32) no_space_in_number bytes number rest parts part ra (pair_of rb rc) reads_a
    (reads_pair IsCount decimal IsAnswer answer_text 32 (at_byte 32) no_space_in rest place answer parts_too part_too rb rc reads_b reads_c))
    made

pub reads_number : (bytes : List ℕ) (n : ℕ) → 0 < n → Reads IsCount decimal bytes (Some n) → Reads IsNumber decimal bytes (Some n)
reads_number bytes n some reads x = (
  λ e.
      let read = (reads x).0 e in
      ((subst (λ m. 0 < m) (same_Some n x e) some, read.0), read.1),
  λ h. (reads x).1 (h.0.1, h.1),
)

-- ---- texts and drafts

pub one_text : (bytes others : List ℕ) (a : Envelope) → Reads IsSpelledEnvelope envelope_text bytes (Some a)
    → Reads IsSpelledEnvelope envelope_text others (Some a) → bytes ≡ others
one_text bytes others a reads reads_others =
    (was_read IsSpelledEnvelope envelope_text bytes a reads).1 ∙ sym (was_read IsSpelledEnvelope envelope_text others a reads_others).1
