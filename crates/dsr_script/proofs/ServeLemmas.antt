-- What reads the parts of a line of a serve script reads the line.
use Rattle.std.proofs.Common.{refl, ◌≡◌, ◌≢◌, ℕ, ◌<◌, ◌^◌, Bool, true, false, List, [], ◌∷◌, ◌++◌, codes, None, Some, sym, ◌∙◌, ap, subst, arith, lit<}
use Rattle.std.specs.Fmt.{decimal}
use Rattle.std.specs.Str.{bytes_eq}
use Rattle.std.proofs.lemmas.Bool.{false≢true}
use Rattle.std.proofs.lemmas.Slice.Eq.{bytes_eq-Decides}
use Rattle.std.proofs.lemmas.List.Elements.{All-nil}
use Rattle.dsr_base.specs.Reads.{Reads}
use Rattle.dsr_base.specs.Split.{IsAbsent}
use Rattle.dsr_base.proofs.Marks.{one_cut, not_absent, decimal_without_low, letter_then_without}
use Rattle.dsr_base.proofs.ReadsLemmas.{reads_none, reads_some, not_read, was_read, only_read}
use Rattle.dsr_names.specs.Actor.{IsNumbered, actor_text, replica_text}
use Rattle.dsr_names.specs.declared.actor.Actor.{Actor}
use Rattle.dsr_names.specs.declared.actor.Actor.TheVariants.{Replica, Client}
use Rattle.dsr_request.specs.declared.op.Op.{Op}
use Rattle.dsr_request.specs.OpText.{op_text, IsOp}
use Rattle.dsr_envelope.specs.declared.envelope.Envelope.{Envelope}
use Rattle.dsr_script.specs.EnvelopeText.{envelope_text, IsSpelledEnvelope}
use Rattle.dsr_script.specs.declared.place.Place.{Place}
use Rattle.dsr_script.specs.declared.serve_line.ServeLine.{ServeLine}
use Rattle.dsr_script.specs.declared.serve_line.ServeLine.TheVariants.{Ask, Post}
use Rattle.dsr_script.specs.ServeText.{line_word, line_rest, line_text, IsLine}
use Rattle.dsr_script.specs.Script.{place_of}
use Rattle.dsr_request.specs.Support.Texts.{op_without}
use Rattle.dsr_text.proofs.Clean.{IsClean, field_clean, word_clean, number_clean, replica_clean, actor_clean}
use Rattle.dsr_script.proofs.FeedLemmas.{envelope_clean}

-- ---- a client

abbrev pub IsClient : ℕ → Type 0
IsClient client = client < 32

abbrev pub client_text : ℕ → List ℕ
client_text client = actor_text (Client client)

-- ---- no space is in the fields

pub round_spaceless : (round : ℕ) → round < 2 ^ 40 → IsAbsent 32 (decimal round)
round_spaceless round small = decimal_without_low 32 round (lit< tt) (omega (arith, small))

pub replica_spaceless : (r : ℕ) → r < 16 → IsAbsent 32 (replica_text r)
replica_spaceless r small = letter_then_without 114 32 (decimal r) (lit< tt) (decimal_without_low 32 r (lit< tt) (omega (arith, small)))

pub client_spaceless : (c : ℕ) → c < 32 → IsAbsent 32 (client_text c)
client_spaceless c small = letter_then_without 99 32 (decimal c) (lit< tt) (decimal_without_low 32 c (lit< tt) (omega (arith, small)))

pub actor_spaceless : (a : Actor) → IsNumbered a → IsAbsent 32 (actor_text a)
actor_spaceless (Replica r) small = replica_spaceless r small
actor_spaceless (Client c) small = client_spaceless c small

-- ---- the fields after the word

-- a client and its operation
abbrev pub IsAsk : ℕ × Op → Type 0
IsAsk p = (p.0 < 32) × IsOp p.1

abbrev pub ask_text : ℕ × Op → List ℕ
ask_text p = client_text p.0 ++ 32 ∷ op_text 32 p.1

-- the other end and the envelope
abbrev pub IsEnd : Actor × Envelope → Type 0
IsEnd p = IsNumbered p.0 × IsSpelledEnvelope p.1

abbrev pub end_text : Actor × Envelope → List ℕ
end_text p = actor_text p.0 ++ 32 ∷ envelope_text p.1

-- the round before them
abbrev pub IsRound : ℕ × (Actor × Envelope) → Type 0
IsRound p = (p.0 < 2 ^ 40) × IsEnd p.1

abbrev pub round_text : ℕ × (Actor × Envelope) → List ℕ
round_text p = decimal p.0 ++ 32 ∷ end_text p.1

-- the traitor before that
abbrev pub IsScript : ℕ × (ℕ × (Actor × Envelope)) → Type 0
IsScript p = (p.0 < 16) × IsRound p.1

abbrev pub script_text : ℕ × (ℕ × (Actor × Envelope)) → List ℕ
script_text p = replica_text p.0 ++ 32 ∷ round_text p.1

-- ---- no line feed is in a line

pub line_clean : (line : ServeLine) → IsLine line → IsClean (line_text line)
line_clean (Ask client op) is =
    field_clean 32 (codes "ask") (line_rest (Ask client op)) (lit< tt) (word_clean (codes "ask") refl)
    (field_clean 32 (client_text client) (op_text 32 op) (lit< tt) (actor_clean (Client client) is.0)
    (op_without 10 32 op refl (λ (e : ◌≡◌ {A = ℕ} 32 10). omega arith) is.1))
line_clean (Post place envelope) is =
    field_clean 32 (codes "script") (line_rest (Post place envelope)) (lit< tt) (word_clean (codes "script") refl)
    (field_clean 32 (replica_text place.from) _ (lit< tt) (replica_clean place.from is.0)
    (field_clean 32 (decimal place.round) _ (lit< tt) (number_clean place.round (omega (arith, is.1)))
    (field_clean 32 (actor_text place.to) (envelope_text envelope) (lit< tt) (actor_clean place.to is.2) (envelope_clean envelope is.3))))

-- ---- the word

letter_then : (letter : ℕ) (bytes : List ℕ) → 32 < letter → IsAbsent 32 bytes → IsAbsent 32 (letter ∷ bytes)
letter_then letter bytes above rest = letter_then_without letter 32 bytes above rest

no_byte : IsAbsent 32 []
no_byte = All-nil (λ b. b ≢ 32)

ask_spaceless : IsAbsent 32 (codes "ask")
ask_spaceless = letter_then 97 (codes "sk") (lit< tt) (letter_then 115 (codes "k") (lit< tt) (letter_then 107 [] (lit< tt) no_byte))

script_spaceless : IsAbsent 32 (codes "script")
script_spaceless = letter_then 115 (codes "cript") (lit< tt) (letter_then 99 (codes "ript") (lit< tt) (letter_then 114 (codes "ipt") (lit< tt) (letter_then 105 (codes "pt") (lit< tt) (letter_then 112 (codes "t") (lit< tt) (letter_then 116 [] (lit< tt) no_byte)))))

word_spaceless : (line : ServeLine) → IsAbsent 32 (line_word line)
word_spaceless (Ask client op) = ask_spaceless
word_spaceless (Post place envelope) = script_spaceless

-- what `==` with a word says

pub same_word : (xs ys word : List ℕ) (r : Bool) → r ≡ bytes_eq xs ys → r ≡ true → ys ≡ word → xs ≡ word
same_word xs ys word r is holds same = (bytes_eq-Decides xs ys).0 (sym is ∙ holds) ∙ same

pub not_same_word : (xs ys word : List ℕ) (r : Bool) → r ≡ bytes_eq xs ys → r ≡ false → ys ≡ word → xs ≢ word
not_same_word xs ys word r is fails same e = false≢true (sym fails ∙ (is ∙ (bytes_eq-Decides xs ys).1 (e ∙ sym same)))

-- a text without a space is not a line
pub no_word : (bytes : List ℕ) → IsAbsent 32 bytes → Reads IsLine line_text bytes None
no_word bytes whole =
    reads_none IsLine line_text bytes (λ line is e. not_absent 32 (line_word line) (line_rest line) (subst (IsAbsent 32) e whole))

module _ (bytes word rest : List ℕ) (cut : bytes ≡ word ++ 32 ∷ rest) (first : IsAbsent 32 word) where
  same_cut : (line : ServeLine) → bytes ≡ line_text line → (word ≡ line_word line) × (rest ≡ line_rest line)
  same_cut line e = one_cut 32 word rest (line_word line) (line_rest line) first (word_spaceless line) (sym cut ∙ e)

  ask_is_script : codes "ask" ≡ codes "script" → ⊥
  ask_is_script e = cc

  -- another word begins no line
  pub other_word : word ≢ codes "ask" → word ≢ codes "script" → Reads IsLine line_text bytes None
  other_word no_ask no_script = reads_none IsLine line_text bytes none
    where
      none : (line : ServeLine) → IsLine line → bytes ≡ line_text line → ⊥
      none (Ask client op) is e = no_ask (same_cut (Ask client op) e).0
      none (Post place envelope) is e = no_script (same_cut (Post place envelope) e).0

  module _ (asks : word ≡ codes "ask") where
    pub no_ask : Reads IsAsk ask_text rest None → Reads IsLine line_text bytes None
    no_ask reads = reads_none IsLine line_text bytes none
      where
        none : (line : ServeLine) → IsLine line → bytes ≡ line_text line → ⊥
        none (Ask client op) is e = not_read IsAsk ask_text rest reads (client, op) is (same_cut (Ask client op) e).1
        none (Post place envelope) is e = ask_is_script (sym asks ∙ (same_cut (Post place envelope) e).0)

    pub an_ask : (client : ℕ) (op : Op) → Reads IsAsk ask_text rest (Some (client, op)) → Reads IsLine line_text bytes (Some (Ask client op))
    an_ask client op reads =
        let read = was_read IsAsk ask_text rest (client, op) reads in
        reads_some IsLine line_text bytes (Ask client op) read.0
        (cut ∙ (ap (λ xs. xs ++ 32 ∷ rest) asks ∙ ap (λ xs. codes "ask" ++ 32 ∷ xs) read.1)) only
      where
        only : (line : ServeLine) → IsLine line → bytes ≡ line_text line → Ask client op ≡ line
        only (Ask other asked) is e =
            ap (λ p. Ask p.0 p.1) (only_read IsAsk ask_text rest (client, op) reads (other, asked) is (same_cut (Ask other asked) e).1)
        only (Post place envelope) is e = absurd (ask_is_script (sym asks ∙ (same_cut (Post place envelope) e).0))

  module _ (scripts : word ≡ codes "script") where
    abbrev fields_of : Place → Envelope → ℕ × (ℕ × (Actor × Envelope))
    fields_of place envelope = (place.from, (place.round, (place.to, envelope)))

    pub no_script : Reads IsScript script_text rest None → Reads IsLine line_text bytes None
    no_script reads = reads_none IsLine line_text bytes none
      where
        none : (line : ServeLine) → IsLine line → bytes ≡ line_text line → ⊥
        none (Ask client op) is e = ask_is_script (sym (sym scripts ∙ (same_cut (Ask client op) e).0))
        none (Post place envelope) is e =
            not_read IsScript script_text rest reads (fields_of place envelope) (is.0, (is.1, (is.2, is.3))) (same_cut (Post place envelope) e).1

    pub a_script : (from round : ℕ) (to : Actor) (envelope : Envelope) → Reads IsScript script_text rest (Some (from, (round, (to, envelope))))
        → Reads IsLine line_text bytes (Some (Post (place_of from round to) envelope))
    a_script from round to envelope reads =
        let read = was_read IsScript script_text rest (from, (round, (to, envelope))) reads in
        reads_some IsLine line_text bytes (Post (place_of from round to) envelope) (read.0.0, read.0.1.0, read.0.1.1.0, read.0.1.1.1)
        (cut ∙ (ap (λ xs. xs ++ 32 ∷ rest) scripts ∙ ap (λ xs. codes "script" ++ 32 ∷ xs) read.1)) only
      where
        only : (line : ServeLine) → IsLine line → bytes ≡ line_text line → Post (place_of from round to) envelope ≡ line
        only (Ask client op) is e = absurd (ask_is_script (sym (sym scripts ∙ (same_cut (Ask client op) e).0)))
        only (Post place other) is e =
            ap (λ p. Post (place_of p.0 p.1.0 p.1.1.0) p.1.1.1)
            (only_read IsScript script_text rest (from, (round, (to, envelope))) reads (fields_of place other) (is.0, (is.1, (is.2, is.3)))
            (same_cut (Post place other) e).1)
