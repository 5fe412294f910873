-- What reads the parts of a line of a transcript reads the line.
use Rattle.std.proofs.Common.{◌≡◌, ◌≢◌, ◌<◌, ℕ, Bool, true, false, List, [], ◌∷◌, ◌++◌, codes, Option, None, Some, refl, sym, ◌∙◌, ap, subst, arith, lit<}
use Rattle.std.specs.Str.{bytes_eq}
use Rattle.std.specs.Fmt.{decimal}
use Rattle.std.proofs.lemmas.Bool.{false≢true}
use Rattle.std.proofs.lemmas.Slice.Eq.{bytes_eq-Decides}
use Rattle.std.proofs.lemmas.List.Elements.{All-nil}
use Rattle.dsr_base.specs.Reads.{Reads}
use Rattle.dsr_base.specs.Split.{IsAbsent}
use Rattle.dsr_base.proofs.Marks.{one_cut, not_absent, decimal_without_low, letter_then_without}
use Rattle.dsr_base.proofs.ReadsLemmas.{reads_none, reads_some, not_read, was_read, only_read}
use Rattle.dsr_base.proofs.TwoParts.{at_byte, no_parts, no_front, no_rest, reads_parts, made_none, reads_made}
use Rattle.dsr_names.specs.Actor.{IsNumbered, actor_text}
use Rattle.dsr_names.specs.declared.actor.Actor.{Actor}
use Rattle.dsr_names.specs.declared.actor.Actor.TheVariants.{Replica, Client}
use Rattle.dsr_envelope.specs.declared.entry.Entry.{Entry}
use Rattle.dsr_envelope.specs.declared.entry.Entry.TheVariants as entry
use Rattle.dsr_envelope.specs.declared.envelope.Envelope.{Envelope}
use Rattle.dsr_script.proofs.FeedLemmas.{envelope_clean}
use Rattle.dsr_text.proofs.Clean.{IsClean, field_clean, word_clean, actor_clean}
use Rattle.dsr_run.specs.Step.{Step}
use Rattle.dsr_record.specs.declared.noted.NotedEntry.{NotedEntry}
use Rattle.dsr_record.specs.declared.noted.NotedEntry.TheVariants.{Post, Take}
use Rattle.dsr_record.specs.declared.version.Version.{Version}
use Rattle.dsr_record.specs.declared.version.Version.TheVariants.{One, Two}
use Rattle.dsr_record.specs.Support.Noted.{entry_of, IsEnd, end_text, IsNoted, noted_text, posted, taken}
use Rattle.dsr_record.specs.RecordText.{entry_text, step_text, IsSpelledEntry, IsSpelledStep, IsStepOf}

-- ---- no space is in an actor or in a word

pub actor_spaceless : (a : Actor) → IsNumbered a → IsAbsent 32 (actor_text a)
actor_spaceless (Replica r) small = letter_then_without 114 32 (decimal r) (lit< tt) (decimal_without_low 32 r (lit< tt) (omega (arith, small)))
actor_spaceless (Client c) small = letter_then_without 99 32 (decimal c) (lit< tt) (decimal_without_low 32 c (lit< tt) (omega (arith, small)))

letter_then : (letter : ℕ) (bytes : List ℕ) → 32 < letter → IsAbsent 32 bytes → IsAbsent 32 (letter ∷ bytes)
letter_then letter bytes above rest = letter_then_without letter 32 bytes above rest

no_byte : IsAbsent 32 []
no_byte = All-nil (λ b. b ≢ 32)

post_spaceless : IsAbsent 32 (codes "post")
post_spaceless = letter_then 112 (codes "ost") (lit< tt) (letter_then 111 (codes "st") (lit< tt) (letter_then 115 (codes "t") (lit< tt) (letter_then 116 [] (lit< tt) no_byte)))

take_spaceless : IsAbsent 32 (codes "take")
take_spaceless = letter_then 116 (codes "ake") (lit< tt) (letter_then 97 (codes "ke") (lit< tt) (letter_then 107 (codes "e") (lit< tt) (letter_then 101 [] (lit< tt) no_byte)))

abbrev first_byte : List ℕ → ℕ
first_byte [] = 0
first_byte (b ∷ bytes) = b

post_is_take : codes "post" ≡ codes "take" → ⊥
post_is_take e = let first : ◌≡◌ {A = ℕ} 112 116 = ap first_byte e in omega (arith, first)

-- a test that failed, of two words
pub not_same_word : (word given other : List ℕ) (r : Bool) → r ≡ bytes_eq word given → r ≡ false → given ≡ other → word ≢ other
not_same_word word given other r is fails same e =
    false≢true (sym fails ∙ (is ∙ (bytes_eq-Decides word given).1 (e ∙ sym same)))

pub same_word : (word given other : List ℕ) (r : Bool) → r ≡ bytes_eq word given → r ≡ true → given ≡ other → word ≡ other
same_word word given other r is holds same = (bytes_eq-Decides word given).0 (sym is ∙ holds) ∙ same

-- ---- an entry

pub no_entry : (bytes : List ℕ) → IsAbsent 32 bytes → Reads IsNoted noted_text bytes None
no_entry bytes whole = reads_none IsNoted noted_text bytes none
  where
    none : (e : NotedEntry) → IsNoted e → bytes ≡ noted_text e → ⊥
    none (Post to envelope) is e = not_absent 32 (codes "post") (end_text (to, envelope)) (subst (IsAbsent 32) e whole)
    none (Take from envelope) is e = not_absent 32 (codes "take") (end_text (from, envelope)) (subst (IsAbsent 32) e whole)

module _ (bytes word rest : List ℕ) (cut : bytes ≡ word ++ 32 ∷ rest) (first : IsAbsent 32 word) where
  post_cut : (to : Actor) (envelope : Envelope) → bytes ≡ noted_text (Post to envelope) → (word ≡ codes "post") × (rest ≡ end_text (to, envelope))
  post_cut to envelope e = one_cut 32 word rest (codes "post") (end_text (to, envelope)) first post_spaceless (sym cut ∙ e)

  take_cut : (from : Actor) (envelope : Envelope) → bytes ≡ noted_text (Take from envelope) → (word ≡ codes "take") × (rest ≡ end_text (from, envelope))
  take_cut from envelope e = one_cut 32 word rest (codes "take") (end_text (from, envelope)) first take_spaceless (sym cut ∙ e)

  pub other_word : word ≢ codes "post" → word ≢ codes "take" → Reads IsNoted noted_text bytes None
  other_word no_post no_take = reads_none IsNoted noted_text bytes none
    where
      none : (e : NotedEntry) → IsNoted e → bytes ≡ noted_text e → ⊥
      none (Post to envelope) is e = no_post (post_cut to envelope e).0
      none (Take from envelope) is e = no_take (take_cut from envelope e).0

  pub reads_post : word ≡ codes "post" → (r : Option (Actor × Envelope)) → Reads IsEnd end_text rest r → Reads IsNoted noted_text bytes (posted r)
  reads_post is_post None reads = reads_none IsNoted noted_text bytes none
    where
      none : (e : NotedEntry) → IsNoted e → bytes ≡ noted_text e → ⊥
      none (Post to envelope) is e = not_read IsEnd end_text rest reads (to, envelope) is (post_cut to envelope e).1
      none (Take from envelope) is e = post_is_take (sym is_post ∙ (take_cut from envelope e).0)
  reads_post is_post (Some end) reads =
      let read = was_read IsEnd end_text rest end reads in
      reads_some IsNoted noted_text bytes (Post end.0 end.1) read.0
      (cut ∙ (ap (λ xs. xs ++ 32 ∷ rest) is_post ∙ ap (λ xs. codes "post" ++ 32 ∷ xs) read.1)) only
    where
      only : (e : NotedEntry) → IsNoted e → bytes ≡ noted_text e → Post end.0 end.1 ≡ e
      only (Post to envelope) is e = ap (λ (p : Actor × Envelope). Post p.0 p.1) (only_read IsEnd end_text rest end reads (to, envelope) is (post_cut to envelope e).1)
      only (Take from envelope) is e = absurd (post_is_take (sym is_post ∙ (take_cut from envelope e).0))

  pub reads_take : word ≡ codes "take" → (r : Option (Actor × Envelope)) → Reads IsEnd end_text rest r → Reads IsNoted noted_text bytes (taken r)
  reads_take is_take None reads = reads_none IsNoted noted_text bytes none
    where
      none : (e : NotedEntry) → IsNoted e → bytes ≡ noted_text e → ⊥
      none (Post to envelope) is e = post_is_take (sym (post_cut to envelope e).0 ∙ is_take)
      none (Take from envelope) is e = not_read IsEnd end_text rest reads (from, envelope) is (take_cut from envelope e).1
  reads_take is_take (Some end) reads =
      let read = was_read IsEnd end_text rest end reads in
      reads_some IsNoted noted_text bytes (Take end.0 end.1) read.0
      (cut ∙ (ap (λ xs. xs ++ 32 ∷ rest) is_take ∙ ap (λ xs. codes "take" ++ 32 ∷ xs) read.1)) only
    where
      only : (e : NotedEntry) → IsNoted e → bytes ≡ noted_text e → Take end.0 end.1 ≡ e
      only (Post to envelope) is e = absurd (post_is_take (sym (post_cut to envelope e).0 ∙ is_take))
      only (Take from envelope) is e = ap (λ (p : Actor × Envelope). Take p.0 p.1) (only_read IsEnd end_text rest end reads (from, envelope) is (take_cut from envelope e).1)

-- ---- a step

-- an actor and a noted entry are what a step is read from
abbrev make_step : Actor × NotedEntry → Step
make_step p = (p.0, entry_of p.1)

abbrev noted_as : Entry → NotedEntry
noted_as (entry.Post to envelope) = Post to envelope
noted_as (entry.Take from envelope) = Take from envelope

same_entry : (e : Entry) → entry_of (noted_as e) ≡ e
same_entry (entry.Post to envelope) = refl
same_entry (entry.Take from envelope) = refl

abbrev step_parts : Step → Actor × NotedEntry
step_parts step = (step.0, noted_as step.1)

abbrev AreParts : Actor × NotedEntry → Type 0
AreParts p = IsNumbered p.0 × IsNoted p.1

abbrev parts_text : Actor × NotedEntry → List ℕ
parts_text p = actor_text p.0 ++ 32 ∷ noted_text p.1

back : (step : Step) → make_step (step_parts step) ≡ step
back step = ap (λ e. (step.0, e)) (same_entry step.1)

are_parts : (step : Step) → IsSpelledStep step → AreParts (step_parts step)
are_parts step is = (is.0, subst IsSpelledEntry (sym (same_entry step.1)) is.1)

same_text : (step : Step) → step_text step ≡ parts_text (step_parts step)
same_text step = ap (λ e. actor_text step.0 ++ 32 ∷ entry_text e) (sym (same_entry step.1))

module _ (bytes : List ℕ) where
  no_step : Reads AreParts parts_text bytes None → Reads IsSpelledStep step_text bytes None
  no_step reads = made_none AreParts parts_text IsSpelledStep step_text make_step step_parts back are_parts same_text bytes reads

  pub no_space : IsAbsent 32 bytes → Reads IsSpelledStep step_text bytes None
  no_space whole = no_step (no_parts IsNumbered actor_text IsNoted noted_text 32 (at_byte 32) actor_spaceless bytes whole)

  module _ (front rest : List ℕ) (cut : bytes ≡ front ++ 32 ∷ rest) (first : IsAbsent 32 front) where
    pub no_actor : Reads IsNumbered actor_text front None → Reads IsSpelledStep step_text bytes None
    no_actor reads = no_step (no_front IsNumbered actor_text IsNoted noted_text 32 (at_byte 32) actor_spaceless bytes front rest cut first reads)

    pub not_entry : Reads IsNoted noted_text rest None → Reads IsSpelledStep step_text bytes None
    not_entry reads = no_step (no_rest IsNumbered actor_text IsNoted noted_text 32 (at_byte 32) actor_spaceless bytes front rest cut first reads)

    pub reads_step : (actor : Actor) (noted : NotedEntry) → Reads IsNumbered actor_text front (Some actor) → Reads IsNoted noted_text rest (Some noted)
        → Reads IsSpelledStep step_text bytes (Some (actor, entry_of noted))
    reads_step actor noted reads_a reads_b =
        let both = reads_parts IsNumbered actor_text IsNoted noted_text 32 (at_byte 32) actor_spaceless bytes front rest cut first actor noted reads_a reads_b in
        let are = (was_read AreParts parts_text bytes (actor, noted) both).0 in
        reads_made AreParts parts_text IsSpelledStep step_text make_step step_parts back are_parts same_text bytes (actor, noted) are refl both

-- ---- no line feed is in a line

word_of : (e : Entry) → IsClean (Rattle.dsr_record.specs.RecordText.entry_word e)
word_of (entry.Post to envelope) = word_clean (codes "post") refl
word_of (entry.Take from envelope) = word_clean (codes "take") refl

pub step_clean : (step : Step) → IsSpelledStep step → IsClean (step_text step)
step_clean step is =
    field_clean 32 (actor_text step.0) _ (lit< tt) (actor_clean step.0 is.0)
    (field_clean 32 _ _ (lit< tt) (word_of step.1)
    (field_clean 32 _ _ (lit< tt) (actor_clean _ is.1.0) (envelope_clean _ is.1.1)))

pub line_clean : (version : Version) (step : Step) → IsStepOf version step → IsClean (step_text step)
line_clean One step is = step_clean step is.0
line_clean Two step is = step_clean step is
