-- If a replica gives its first reply and the tally stores it, the tally represents one more note; if the replica gave
-- one before, the tally does so unchanged.
use Rattle.std.proofs.Common.{◌≡◌, ℕ, ◌<◌, ◌≤◌, ◌==◌, nat_lt, Bool, true, false, List, ◌∷◌, length, Option, None, Some, if◌then◌else◌, get_or, refl, ap, sym, ◌∙◌, arith}
use Rattle.std.specs.Prelude.{slice_index_or, slice_set, is_some}
use Rattle.std.specs.Option.{option_or}
use Rattle.std.proofs.lemmas.Bool.{true≢false}
use Rattle.std.proofs.lemmas.Bool.Decides.{Decides-eqb, nat_tests}
use Rattle.std.proofs.lemmas.Grind.{get_or-set_at}
use Rattle.std.proofs.lemmas.List.{get_or-set_other}
use Rattle.std.proofs.lemmas.Option.{none-some}
use Rattle.dsr_base.specs.Bits.{count_below}
use Rattle.dsr_base.proofs.Pigeonhole.{count_agree}
use Rattle.dsr_ledger.specs.declared.reply.Reply.{Reply}
use Rattle.dsr_quorum.specs.Tally.{Tally, StandsFor}
use Rattle.dsr_quorum.specs.Votes.{Note, first_of, is_reply, votes, winner}
use Rattle.dsr_quorum.proofs.Voting.{none_enough}

-- a replica that gave a reply keeps it as its first
same_first : (note : Note) (notes : List Note) (first : Reply) → first_of note.replica notes ≡ Some first → (p : ℕ)
    → first_of p (note ∷ notes) ≡ first_of p notes
same_first note notes first had p = by_replica (note.replica == p) ((Decides-eqb note.replica p).0)
  where
    keeps : (o : Option Reply) → o ≡ Some first → (later : Option Reply) → option_or o later ≡ o
    keeps None e later = absurd (none-some first e)
    keeps (Some r) e later = refl

    or_none : (o : Option Reply) → option_or o None ≡ o
    or_none None = refl
    or_none (Some r) = refl

    by_replica : (b : Bool) → (b ≡ true → note.replica ≡ p) → option_or (first_of p notes) (if b then Some note.reply else None) ≡ first_of p notes
    by_replica true same = keeps (first_of p notes) (ap (λ q. first_of q notes) (sym (same refl)) ∙ had) (Some note.reply)
    by_replica false same = or_none (first_of p notes)

some_first : (o : Option Reply) → is_some o ≡ true → (first : Reply) × (o ≡ Some first)
some_first None e = absurd (true≢false (sym e))
some_first (Some first) e = (first, refl)

no_first : (o : Option Reply) → is_some o ≡ false → o ≡ None
no_first None e = refl
no_first (Some first) e = absurd (true≢false e)

-- nor does its note make another reply win
pub winner_again : (f n : ℕ) (note : Note) (notes : List Note) (first : Reply) → first_of note.replica notes ≡ Some first
    → winner f n (note ∷ notes) ≡ winner f n notes
winner_again f n note notes first had = by_winner (winner f n notes) refl
  where
    not_more : (a b : ℕ) → b ≤ a → nat_lt a b ≡ false
    not_more a b few = grind (arith, nat_tests)

    by_winner : (o : Option Reply) → winner f n notes ≡ o
        → option_or o (if nat_lt f (votes n (note ∷ notes) note.reply) then Some note.reply else None) ≡ o
    by_winner (Some w) is = refl
    by_winner None is =
        let same : votes n (note ∷ notes) note.reply ≡ votes n notes note.reply =
        count_agree (λ p. is_reply note.reply (first_of p (note ∷ notes))) (λ p. is_reply note.reply (first_of p notes)) n
        (λ p within. ap (is_reply note.reply) (same_first note notes first had p)) in
        let few = none_enough f n notes note.reply is in
        ap (λ b. if b then Some note.reply else None) (not_more f (votes n (note ∷ notes) note.reply) (omega (arith, same, few)))

-- a note of a replica that gave a reply before changes nothing
pub stands_again : (tally : Tally) (note : Note) (notes : List Note) → note.replica < tally.n
    → is_some (get_or tally.firsts note.replica None) ≡ true → StandsFor tally notes → StandsFor tally (note ∷ notes)
stands_again tally note notes inside had stands = record {
  firsts = λ p within. stands.firsts p within ∙ sym (same_first note notes first.0 was p);
  winner = stands.winner ∙ sym (winner_again tally.f tally.n note notes first.0 was);
}
  where
    first : (r : Reply) × (get_or tally.firsts note.replica None ≡ Some r)
    first = some_first (get_or tally.firsts note.replica None) had

    was : first_of note.replica notes ≡ Some first.0
    was = sym (stands.firsts note.replica inside) ∙ first.1

-- the first reply of a replica, at its place
pub stands_first : (f n : ℕ) (firsts : List (Option Reply)) (won : Option Reply) (note : Note) (notes : List Note) (elected now : Option Reply)
    → note.replica < n → n ≤ length firsts → is_some (get_or firsts note.replica None) ≡ false
    → StandsFor (record { f = f; n = n; firsts = firsts; winner = won }) notes
    → elected ≡ (if nat_lt f (count_below (λ p. is_reply note.reply (slice_index_or (slice_set firsts note.replica (Some note.reply)) p None)) n) then Some note.reply else None)
    → now ≡ option_or won elected
    → StandsFor (record { f = f; n = n; firsts = slice_set firsts note.replica (Some note.reply); winner = now }) (note ∷ notes)
stands_first f n firsts won note notes elected now inside all had stands election is = record {
  firsts = placed;
  winner = is ∙ (λ i. option_or (stands.winner i) (elects i));
}
  where
    was : first_of note.replica notes ≡ None
    was = sym (stands.firsts note.replica inside) ∙ no_first (get_or firsts note.replica None) had

    or_none : (o : Option Reply) → o ≡ option_or o None
    or_none None = refl
    or_none (Some r) = refl

    new_first : (p : ℕ) (b : Bool) → (b ≡ true → note.replica ≡ p) → (note.replica ≡ p → b ≡ true) → p < n
        → get_or (slice_set firsts note.replica (Some note.reply)) p None ≡ option_or (first_of p notes) (if b then Some note.reply else None)
    new_first p true same equal within =
        get_or-set_at firsts note.replica p (Some note.reply) None (sym (same refl)) (omega (arith, inside, all))
        ∙ ap (λ o. option_or o (Some note.reply)) (sym (ap (λ q. first_of q notes) (sym (same refl)) ∙ was))
    new_first p false same equal within =
        get_or-set_other firsts note.replica p (Some note.reply) None (λ e. true≢false (sym (equal (sym e))))
        ∙ (stands.firsts p within ∙ or_none (first_of p notes))

    placed : (p : ℕ) → p < n → get_or (slice_set firsts note.replica (Some note.reply)) p None ≡ first_of p (note ∷ notes)
    placed p within = new_first p (note.replica == p) ((Decides-eqb note.replica p).0) ((Decides-eqb note.replica p).1) within

    elects : elected ≡ (if nat_lt f (votes n (note ∷ notes) note.reply) then Some note.reply else None)
    elects =
        election ∙ ap (λ count. if nat_lt f count then Some note.reply else None)
        (count_agree (λ p. is_reply note.reply (slice_index_or (slice_set firsts note.replica (Some note.reply)) p None))
        (λ p. is_reply note.reply (first_of p (note ∷ notes))) n (λ p within. ap (is_reply note.reply) (placed p within)))
