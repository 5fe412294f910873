-- The issue front of a number is the seen front just before the first ask with that number, and
-- stays.
use Rattle.std.proofs.Common.{◌≡◌, ℕ, ◌≤◌, ◌==◌, Bool, true, false, List, [], ◌∷◌, ◌++◌, Option, None, Some, if◌then◌else◌, inl, inr, refl, ap, sym, ◌∙◌, subst, arith}
use Rattle.std.specs.Option.{option_or}
use Rattle.std.proofs.lemmas.Bool.{true≢false}
use Rattle.std.proofs.lemmas.Bool.Decides.{Decides-eqb}
use Rattle.std.proofs.lemmas.Option.{none-some, same_Some}
use Rattle.dsr_base.specs.Growth.{Extends}
use Rattle.dsr_base.specs.Member.{here, there}
use Rattle.dsr_names.specs.Shape.{Shape}
use Rattle.dsr_names.specs.declared.actor.Actor.TheVariants.{Replica, Client}
use Rattle.dsr_chain.specs.declared.signed_request.SignedRequest.{SignedRequest}
use Rattle.dsr_envelope.specs.declared.envelope.Envelope.TheVariants.{Empty, Round, Ask, Reply, Seen}
use Rattle.dsr_envelope.specs.declared.entry.Entry.{Entry}
use Rattle.dsr_envelope.specs.declared.entry.Entry.TheVariants.{Post, Take}
use Rattle.dsr_client.specs.Conduct.{next_number, IsClientLog}
use Rattle.dsr_client.specs.Issue.{is_ask_for, issue_front, IsUnasked, IsIssued}
use Rattle.dsr_client.specs.State.{outstanding, seen}
use Rattle.dsr_client.proofs.Fronts.{seen_grows}
use Rattle.dsr_client.proofs.Numbers.{numbered}

-- the entry is an ask of the number
record IsAskOf (number : ℕ) (entry : Entry) : Type 0 where
  pub replica : ℕ
  pub ask : SignedRequest
  pub is : entry ≡ Post (Replica replica) (Ask ask)
  pub is_number : ask.request.number ≡ number

ask_of_entry : (number : ℕ) (entry : Entry) → is_ask_for number entry ≡ true → IsAskOf number entry
ask_of_entry number (Post (Replica q) Empty) e = absurd (true≢false (sym e))
ask_of_entry number (Post (Replica q) (Round round chains)) e = absurd (true≢false (sym e))
ask_of_entry number (Post (Replica q) (Ask ask)) e =
    record { replica = q; ask = ask; is = refl; is_number = (Decides-eqb ask.request.number number).0 e }
ask_of_entry number (Post (Replica q) (Reply reply)) e = absurd (true≢false (sym e))
ask_of_entry number (Post (Replica q) (Seen front)) e = absurd (true≢false (sym e))
ask_of_entry number (Post (Client c) x) e = absurd (true≢false (sym e))
ask_of_entry number (Take from x) e = absurd (true≢false (sym e))

is_ask : (number q : ℕ) (ask : SignedRequest) (entry : Entry) → entry ≡ Post (Replica q) (Ask ask) → ask.request.number ≡ number
    → is_ask_for number entry ≡ true
is_ask number q ask entry e same = ap (is_ask_for number) e ∙ (Decides-eqb ask.request.number number).1 same

module _ (shape : Shape) (number : ℕ) where
  -- ---- no front

  front_none : (o : Option ℕ) (asks : Bool) (front : ℕ) → option_or o (if asks then Some front else None) ≡ None → (o ≡ None) × (asks ≡ false)
  front_none None true front e = absurd (none-some front (sym e))
  front_none None false front e = (refl, refl)
  front_none (Some x) asks front e = absurd (none-some x (sym e))

  pub unasked : (log : List Entry) → issue_front shape number log ≡ None → IsUnasked number log
  unasked [] e q ask inside same = elim inside [ ]
  unasked (entry ∷ older) e q ask (here is) same =
      let parts = front_none (issue_front shape number older) (is_ask_for number entry) (seen shape older) e in
      true≢false (sym (is_ask number q ask entry is same) ∙ parts.1)
  unasked (entry ∷ older) e q ask (there later) same =
      let parts = front_none (issue_front shape number older) (is_ask_for number entry) (seen shape older) e in
      unasked older parts.0 q ask later same

  pub no_front : (log : List Entry) → IsUnasked number log → issue_front shape number log ≡ None
  no_front [] none = refl
  no_front (entry ∷ older) none =
      by_ask (no_front older (λ q ask inside. none q ask (there inside))) (is_ask_for number entry) refl
    where
      by_ask : issue_front shape number older ≡ None → (b : Bool) → is_ask_for number entry ≡ b → issue_front shape number (entry ∷ older) ≡ None
      by_ask before true asks = let h = ask_of_entry number entry asks in absurd (none h.replica h.ask (here h.is) h.is_number)
      by_ask before false asks =
          ap (λ o. option_or o (if is_ask_for number entry then Some (seen shape older) else None)) before
          ∙ ap (λ b. if b then Some (seen shape older) else None) asks

  -- ---- the first ask

  -- at the first ask with the number the front is the seen front just before
  pub first_front : (log : List Entry) → IsUnasked number log → (q : ℕ) (ask : SignedRequest) → ask.request.number ≡ number
      → issue_front shape number (Post (Replica q) (Ask ask) ∷ log) ≡ Some (seen shape log)
  first_front log none q ask same =
      ap (λ o. option_or o (if ask.request.number == number then Some (seen shape log) else None)) (no_front log none)
      ∙ ap (λ b. if b then Some (seen shape log) else None) ((Decides-eqb ask.request.number number).1 same)

  front_after : (newer log : List Entry) (front : ℕ) → issue_front shape number log ≡ Some front → issue_front shape number (newer ++ log) ≡ Some front
  front_after [] log front e = e
  front_after (entry ∷ newer) log front e =
      ap (λ o. option_or o (if is_ask_for number entry then Some (seen shape (newer ++ log)) else None)) (front_after newer log front e)

  -- the front stays
  pub front_stays : (log later : List Entry) (front : ℕ) → issue_front shape number log ≡ Some front → Extends later log
      → issue_front shape number later ≡ Some front
  front_stays log later front e grown =
      subst (λ l. issue_front shape number l ≡ Some front) (sym grown.1) (front_after grown.0 log front e)

  -- ---- the front determines the first ask

  issued_later : (entry : Entry) (log : List Entry) (front : ℕ) → IsIssued shape number log front → IsIssued shape number (entry ∷ log) front
  issued_later entry log front h = record {
    newer = entry ∷ h.newer;
    older = h.older;
    replica = h.replica;
    ask = h.ask;
    parts = ap (λ l. entry ∷ l) h.parts;
    is_number = h.is_number;
    first = h.first;
    front_is = h.front_is;
  }

  pub issued : (log : List Entry) (front : ℕ) → issue_front shape number log ≡ Some front → IsIssued shape number log front
  issued [] front e = absurd (none-some front e)
  issued (entry ∷ older) front e = by_older (λ x. issued older x) (issue_front shape number older) refl e
    where
      now : issue_front shape number older ≡ None → (b : Bool) → is_ask_for number entry ≡ b → (if b then Some (seen shape older) else None) ≡ Some front
          → IsIssued shape number (entry ∷ older) front
      now before true asks e =
          let h = ask_of_entry number entry asks in
          record {
            newer = [];
            older = older;
            replica = h.replica;
            ask = h.ask;
            parts = ap (λ x. x ∷ older) h.is;
            is_number = h.is_number;
            first = unasked older before;
            front_is = same_Some (seen shape older) front e;
          }
      now before false asks e = absurd (none-some front e)

      by_older : ((x : ℕ) → issue_front shape number older ≡ Some x → IsIssued shape number older x) → (o : Option ℕ)
          → issue_front shape number older ≡ o
          → option_or o (if is_ask_for number entry then Some (seen shape older) else None) ≡ Some front → IsIssued shape number (entry ∷ older) front
      by_older before None is e = now is (is_ask_for number entry) refl e
      by_older before (Some x) is e = issued_later entry older front (before front (is ∙ e))

  pub front_told : (log : List Entry) (front : ℕ) → IsIssued shape number log front → issue_front shape number log ≡ Some front
  front_told log front h =
      front_stays (Post (Replica h.replica) (Ask h.ask) ∷ h.older) log front
      (first_front h.older h.first h.replica h.ask h.is_number ∙ ap Some h.front_is) (h.newer, h.parts)

  -- the front is at most the present seen front
  seen_since : (newer log : List Entry) → seen shape log ≤ seen shape (newer ++ log)
  seen_since [] log = omega arith
  seen_since (entry ∷ newer) log =
      let before = seen_since newer log in
      let more = seen_grows shape entry (newer ++ log) in
      omega (arith, before, more)

  pub front_below : (log : List Entry) (front : ℕ) → issue_front shape number log ≡ Some front → front ≤ seen shape log
  front_below log front e =
      let h = issued log front e in
      let entry = Post (Replica h.replica) (Ask h.ask) in
      let step = seen_grows shape entry h.older in
      let since = seen_since h.newer (entry ∷ h.older) in
      let at = ap (seen shape) h.parts in
      let is = h.front_is in
      omega (arith, step, since, at, is)

-- the next number of a client has no front, while nothing is outstanding
pub next_unasked : (shape : Shape) (me : ℕ) (log : List Entry) → IsClientLog shape me log → outstanding shape log ≡ None
    → IsUnasked (next_number shape log) log
next_unasked shape me log loyal none q ask inside same = elim ((numbered shape me log loyal).posted q ask inside).1 [
  | inl low ↦ omega (arith, low, same)
  | inr now ↦ none-some ask (sym none ∙ now)
]
