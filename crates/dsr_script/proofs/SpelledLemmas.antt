-- What texts say about signatures, read back.
use Rattle.std.proofs.Common.{◌≡◌, ℕ, ◌↔◌, Bool, true, false, cond, List, ◌∷◌, ◌++◌, Option, None, Some, refl, sym, ◌∙◌, ap, ap₂, subst, arith, lit<}
use Rattle.std.specs.Bool.{Decides}
use Rattle.std.specs.Prelude.{IsTrue, not, unwrap_or}
use Rattle.std.specs.Option.{option_map}
use Rattle.std.proofs.lemmas.Bool.{false≢true}
use Rattle.std.proofs.lemmas.List.{append-nil}
use Rattle.std.proofs.lemmas.Option.{none-some, same_Some}
use Rattle.dsr_base.specs.Reads.{Reads}
use Rattle.dsr_base.specs.Split.{IsAbsent}
use Rattle.std.specs.Fmt.{decimal}
use Rattle.dsr_base.proofs.Marks.{not_absent, letter_then_without, decimal_without_low}
use Rattle.dsr_base.proofs.ReadsLemmas.{reads_none, reads_some, not_read, was_read, only_read}
use Rattle.dsr_base.proofs.TwoParts.{at_byte, both_text, AreBoth}
use Rattle.dsr_names.specs.Actor.{actor_text, IsNumbered}
use Rattle.dsr_names.specs.declared.actor.Actor.{Actor}
use Rattle.dsr_names.specs.declared.actor.Actor.TheVariants.{Replica, Client}
use Rattle.dsr_desk.specs.Signature.{Signature, signed}
use Rattle.dsr_desk.specs.StatementText.{IsStatement}
use Rattle.dsr_desk.specs.Support.StatementEquality.{statement_eq, statement_eq-Decides}
use Rattle.dsr_desk.specs.declared.statement.Statement.{Statement}
use Rattle.dsr_script.proofs.PairLemmas.{reads_pair}
use Rattle.dsr_envelope.specs.Limits.{IsSignature}
use Rattle.dsr_script.specs.SignatureText.{Spelled, spelled_at, spelled_text, other_text}
use Rattle.dsr_script.specs.Support.Links.{said_in}
use Rattle.dsr_script.specs.Support.SpelledText.{IsSpelled, IsOther, closed_text, long_form, pair_of}

abbrev pub said_of : Actor → Option Statement → Spelled
said_of signer other = record { signer = signer; other = other }

-- ---- the signature of a place

at_place : (fitting : Statement) (s : Signature) → s.statement ≡ fitting → spelled_at fitting s ≡ said_of s.signer None
at_place fitting s same = ap (λ b. said_of s.signer (cond b None (Some s.statement))) ((statement_eq-Decides s.statement fitting).1 same)

elsewhere : (b : Bool) (fitting : Statement) (s : Signature) → Decides b (s.statement ≡ fitting) → (s.statement ≡ fitting → ⊥)
    → said_of s.signer (cond b None (Some s.statement)) ≡ said_of s.signer (Some s.statement)
elsewhere true fitting s decides other = absurd (other (decides.0 refl))
elsewhere false fitting s decides other = refl

not_at_place : (fitting : Statement) (s : Signature) → (s.statement ≡ fitting → ⊥) → spelled_at fitting s ≡ said_of s.signer (Some s.statement)
not_at_place fitting s other = elsewhere (statement_eq s.statement fitting) fitting s (statement_eq-Decides s.statement fitting) other

same_other : (b : Bool) (fitting : Statement) (s : Signature) (other : Statement) → Decides b (s.statement ≡ fitting) → Some other ≡ cond b None (Some s.statement)
    → (other ≡ s.statement) × (s.statement ≡ fitting → ⊥)
same_other true fitting s other decides e = absurd (none-some other (sym e))
same_other false fitting s other decides e = (same_Some other s.statement e, λ same. false≢true (decides.1 same))

module _ (fitting : Statement) (x : Spelled) where
  -- a text writes the short form if the statement fits
  pub fits_said : x.other ≡ None → x ≡ spelled_at fitting (said_in fitting x)
  fits_said none =
      ap (said_of x.signer) none
      ∙ (sym (at_place fitting (signed x.signer fitting) refl)
      ∙ ap (λ other. spelled_at fitting (signed x.signer (unwrap_or other fitting))) (sym none))

  module _ (statement : Statement) (some : x.other ≡ Some statement) where
    -- a text writes in full a statement that does not fit
    other_said : (statement ≡ fitting → ⊥) → x ≡ spelled_at fitting (said_in fitting x)
    other_said differs =
        ap (said_of x.signer) some
        ∙ (sym (not_at_place fitting (signed x.signer statement) differs)
        ∙ ap (λ other. spelled_at fitting (signed x.signer (unwrap_or other fitting))) (sym some))

    -- but never writes in full one that fits
    fitting_not_said : statement ≡ fitting → x ≡ spelled_at fitting (said_in fitting x) → ⊥
    fitting_not_said fits e =
        let s = said_in fitting x in
        let both = same_other (statement_eq s.statement fitting) fitting s statement (statement_eq-Decides s.statement fitting) (sym some ∙ ap (λ y. y.other) e) in
        both.1 (sym both.0 ∙ fits)

    -- so a test for what fits decides it
    pub other_decides : (fits : Bool) → IsTrue fits ↔ (statement ≡ fitting) → IsTrue (not fits) ↔ (x ≡ spelled_at fitting (said_in fitting x))
    other_decides true decides = (λ t. absurd (false≢true t), λ e. absurd (fitting_not_said (decides.0 refl) e))
    other_decides false decides = (λ t. other_said (λ same. false≢true (decides.1 same)), λ e. refl)

-- ---- reading

pub no_open_in_actor : (a : Actor) → IsNumbered a → IsAbsent 40 (actor_text a)
no_open_in_actor (Replica r) h = letter_then_without 114 40 (decimal r) (lit< tt) (decimal_without_low 40 r (lit< tt) (omega (arith, h)))
no_open_in_actor (Client c) h = letter_then_without 99 40 (decimal c) (lit< tt) (decimal_without_low 40 c (lit< tt) (omega (arith, h)))

-- without an opening parenthesis there is only a signer
short_alone : (bytes : List ℕ) → IsAbsent 40 bytes → (signer : Actor) (other : Option Statement) → bytes ≡ spelled_text (said_of signer other)
    → (bytes ≡ actor_text signer) × (other ≡ None)
short_alone bytes free signer None e = (e ∙ append-nil (actor_text signer), refl)
short_alone bytes free signer (Some statement) e = absurd (not_absent 40 (actor_text signer) (closed_text statement) (subst (IsAbsent 40) e free))

pub reads_short : (bytes : List ℕ) → IsAbsent 40 bytes → (ra : Option Actor) → Reads IsNumbered actor_text bytes ra
    → Reads IsSpelled spelled_text bytes (option_map (λ (a : Actor). said_of a None) ra)
reads_short bytes free None reads =
    reads_none IsSpelled spelled_text bytes
    (λ x is e. not_read IsNumbered actor_text bytes reads x.signer is.signer (short_alone bytes free x.signer x.other e).0)
reads_short bytes free (Some a) reads =
    let read = was_read IsNumbered actor_text bytes a reads in
    reads_some IsSpelled spelled_text bytes (said_of a None) (record { signer = read.0; other = tt }) (read.1 ∙ sym (append-nil (actor_text a)))
    (λ x is e.
    let alone = short_alone bytes free x.signer x.other e in
    ap₂ said_of (only_read IsNumbered actor_text bytes a reads x.signer is.signer alone.0) (sym alone.1))

-- with one there is another statement
long_alone : (front rest : List ℕ) → (signer : Actor) (other : Option Statement) → IsNumbered signer → front ++ 40 ∷ rest ≡ spelled_text (said_of signer other)
    → (statement : Statement) × (other ≡ Some statement)
long_alone front rest signer None h e =
    absurd (not_absent 40 front rest (subst (IsAbsent 40) (sym (append-nil (actor_text signer)) ∙ sym e) (no_open_in_actor signer h)))
long_alone front rest signer (Some statement) h e = (statement, refl)

module _ (bytes front rest : List ℕ) (parts : bytes ≡ front ++ 40 ∷ rest) (part : IsAbsent 40 front) where
  abbrev IsPair : Actor × Statement → Type 0
  IsPair = AreBoth IsNumbered actor_text IsStatement closed_text 40 (at_byte 40) no_open_in_actor

  abbrev pair_text : Actor × Statement → List ℕ
  pair_text = both_text IsNumbered actor_text IsStatement closed_text 40 (at_byte 40) no_open_in_actor

  long_is : (x : Spelled) (statement : Statement) → x.other ≡ Some statement → IsSpelled x → IsPair (x.signer, statement)
  long_is x statement some is = (is.signer, subst IsOther some is.other)

  long_text : (x : Spelled) (statement : Statement) → x.other ≡ Some statement → bytes ≡ spelled_text x → bytes ≡ pair_text (x.signer, statement)
  long_text x statement some e = e ∙ ap (λ other. actor_text x.signer ++ other_text other) some

  long_through : (rp : Option (Actor × Statement)) → Reads IsPair pair_text bytes rp → Reads IsSpelled spelled_text bytes (option_map long_form rp)
  long_through None reads =
      reads_none IsSpelled spelled_text bytes
      (λ x is e.
      let other = long_alone front rest x.signer x.other is.signer (sym parts ∙ e) in
      not_read IsPair pair_text bytes reads (x.signer, other.0) (long_is x other.0 other.1 is) (long_text x other.0 other.1 e))
  long_through (Some p) reads =
      let read = was_read IsPair pair_text bytes p reads in
      reads_some IsSpelled spelled_text bytes (long_form p) (record { signer = read.0.0; other = read.0.1 }) read.1
      (λ x is e.
      let other = long_alone front rest x.signer x.other is.signer (sym parts ∙ e) in
      ap long_form (only_read IsPair pair_text bytes p reads (x.signer, other.0) (long_is x other.0 other.1 is) (long_text x other.0 other.1 e))
      ∙ ap (said_of x.signer) (sym other.1))

  pub reads_long : (ra : Option Actor) (rb : Option Statement) → Reads IsNumbered actor_text front ra → Reads IsStatement closed_text rest rb
      → Reads IsSpelled spelled_text bytes (option_map long_form (pair_of ra rb))
  reads_long ra rb reads_a reads_b =
      long_through (pair_of ra rb) (reads_pair IsNumbered actor_text IsStatement closed_text 40 (at_byte 40) no_open_in_actor bytes front rest parts part ra rb reads_a reads_b)

-- ---- what can be said

kind_of : (b : Bool) (fitting : Statement) (s : Signature) → Decides b (s.statement ≡ fitting) → IsStatement fitting
    → IsStatement s.statement ↔ IsOther (cond b None (Some s.statement))
kind_of true fitting s decides fits = (λ h. tt, λ h. subst IsStatement (sym (decides.0 refl)) fits)
kind_of false fitting s decides fits = (λ h. h, λ h. h)

-- what a text says about a signature can be said if the signature is within the limits
pub said_kinds : (fitting : Statement) → IsStatement fitting → (s : Signature) → IsSignature s ↔ IsSpelled (spelled_at fitting s)
said_kinds fitting fits s =
    let kinds = kind_of (statement_eq s.statement fitting) fitting s (statement_eq-Decides s.statement fitting) fits in (
      λ h. record { signer = h.signer; other = kinds.0 h.statement },
      λ h. record { signer = h.signer; statement = kinds.1 h.other },
    )
