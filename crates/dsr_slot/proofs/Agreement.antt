-- The law of one slot: all loyal replicas decide the same, and a loyal sender's value is decided.
use Rattle.std.proofs.Common.{◌≡◌, ◌≢◌, ℕ, zero, suc, ◌<◌, ◌≤◌, Bool, true, false, List, [], ◌∷◌, Option, inl, inr, refl, ap, ap₂, sym, ◌∙◌, subst, arith}
use Rattle.std.specs.Prelude.{◌==◌}
use Rattle.std.proofs.lemmas.Bool.{cases_lt}
use Rattle.std.proofs.lemmas.Bool.Decides.{Decides-eqb}
use Rattle.dsr_base.specs.Member.{In, here, there}
use Rattle.dsr_names.specs.Shape.{Shape, HasFewTraitors, is_traitor, IsLoyal, sender}
use Rattle.dsr_names.specs.declared.actor.Actor.{Actor}
use Rattle.dsr_names.specs.declared.actor.Actor.TheVariants.{Replica}
use Rattle.dsr_request.specs.Request.{Request}
use Rattle.dsr_desk.specs.Signature.{Signature, signed}
use Rattle.dsr_desk.specs.declared.statement.Statement.{Statement}
use Rattle.dsr_chain.specs.Content.{content}
use Rattle.dsr_chain.specs.Chain.{Chain, link_after, extended, started}
use Rattle.dsr_chain.specs.Proper.{IsProper, sender_of}
use Rattle.dsr_chain.specs.ProperTest.{is_signer}
use Rattle.dsr_chain.specs.declared.slot_value.SlotValue.{SlotValue}
use Rattle.dsr_chain.proofs.Lemmas.{is_signer-Decides, signature_of, link_at, first_link, same_value, same_asked_value, some_loyal}
use Rattle.dsr_slot.specs.declared.kept.Kept.{Kept}
use Rattle.dsr_slot.specs.Keeping.{kept_after, content_of}
use Rattle.dsr_slot.specs.Conduct.{posted}
use Rattle.dsr_slot.specs.Decision.{decision}
use Rattle.dsr_slot.specs.Broadcast.{Exchange, IsLinkOf, IsBroadcast, WasPosted, read_by, decided_by}
use Rattle.dsr_slot.proofs.Lists.{holds_or_not, in_each, from_one}
use Rattle.dsr_slot.specs.Kept.{Hears}
use Rattle.dsr_slot.proofs.Keeps.{Apart, after_from, after_apart, after_hears}
use Rattle.dsr_slot.proofs.Posting.{relay_posted, start_posted, post_proper, post_own, post_other}

-- ---- two kept lists that hear of one another

one_of : (k l : Kept) → Hears (l ∷ []) (content_of k) → content_of l ≡ content_of k
one_of k l (inl h) = among h.0 h.1 h.2
  where
    among : (z : Kept) → In z (l ∷ []) → content_of z ≡ content_of k → content_of l ≡ content_of k
    among z (here e) same = ap content_of e ∙ same
    among z (there h) same = elim h [ ]
one_of k l (inr full) = absurd (omega (arith, full))

none_of : (wanted : Option (List Request)) → ¬ Hears [] wanted
none_of wanted (inl h) = elim h.1 [ ]
none_of wanted (inr full) = omega (arith, full)

-- two contents that both are the one kept content do not differ
not_two : (k l m : Kept) (rest : List Kept) → Apart (l ∷ m ∷ rest) → Hears (k ∷ []) (content_of l) → Hears (k ∷ []) (content_of m) → ⊥
not_two k l m rest apart hears_first hears_second =
    apart.0 (m, here refl, sym (one_of m k hears_second) ∙ one_of l k hears_first)

-- the second list hears each content of the first
abbrev AllHeard : List Kept → List Kept → Type 0
AllHeard ks ls = (k : Kept) → In k ks → Hears ls (content_of k)

-- equal contents have equal values
abbrev ContentsTell : List Kept → List Kept → Type 0
ContentsTell ks ls = (k l : Kept) → In k ks → In l ls → content_of k ≡ content_of l → k.chain.value ≡ l.chain.value

same_decision : (ks ls : List Kept) → Apart ks → Apart ls → AllHeard ks ls → AllHeard ls ks → ContentsTell ks ls → decision ks ≡ decision ls
same_decision [] [] apart apart_too heard heard_too tell = refl
same_decision [] (l ∷ []) apart apart_too heard heard_too tell = absurd (none_of (content_of l) (heard_too l (here refl)))
same_decision [] (l ∷ m ∷ rest) apart apart_too heard heard_too tell = refl
same_decision (k ∷ []) [] apart apart_too heard heard_too tell = absurd (none_of (content_of k) (heard k (here refl)))
same_decision (k ∷ []) (l ∷ []) apart apart_too heard heard_too tell =
    tell k l (here refl) (here refl) (sym (one_of k l (heard k (here refl))))
same_decision (k ∷ []) (l ∷ m ∷ rest) apart apart_too heard heard_too tell =
    absurd (not_two k l m rest apart_too (heard_too l (here refl)) (heard_too m (there (here refl))))
same_decision (k ∷ l ∷ more) [] apart apart_too heard heard_too tell = refl
same_decision (k ∷ l ∷ more) (m ∷ []) apart apart_too heard heard_too tell =
    absurd (not_two m k l more apart (heard k (here refl)) (heard l (there (here refl))))
same_decision (k ∷ l ∷ more) (m ∷ n ∷ rest) apart apart_too heard heard_too tell = refl

-- ---- the broadcast

signed_is : (s : Signature) (signer : Actor) (statement : Statement) → s.signer ≡ signer → s.statement ≡ statement → s ≡ signed signer statement
signed_is s signer statement signer_is statement_is = ap₂ signed signer_is statement_is

replicas_differ : (i l : ℕ) → (i ≡ l → ⊥) → Replica l ≢ Replica i
replicas_differ i l differ e = differ cc

module _ (shape : Shape) (slot : ℕ) (value : SlotValue) (given : Exchange) (broadcast : IsBroadcast shape slot value given) where
  abbrev kept : ℕ → ℕ → List Kept
  kept p r = kept_after shape slot (read_by shape given p) r

  abbrev posts : ℕ → ℕ → List Chain
  posts l r = posted shape slot (Replica l) value (suc r) (kept l r)

  abbrev Loyal : ℕ → Type 0
  Loyal p = IsLoyal shape (Replica p)

  -- a loyal replica gives to every replica what it posts
  gives : (r l q : ℕ) → r ≤ shape.f → Loyal l → q < shape.n → given (suc r) l q ≡ posts l r
  gives r l q within loyal inside = broadcast.loyal r l q within loyal inside

  -- so every loyal replica hears it
  post_heard : (r l q : ℕ) (c : Chain) → r ≤ shape.f → Loyal l → Loyal q → In c (posts l r) → Hears (kept q (suc shape.f)) (content c.value)
  post_heard r l q c within loyal loyal_too h =
      after_hears shape slot (read_by shape given q) r c
      (in_each c shape.n (λ i. given (suc r) i q) l loyal.0 (subst (In c) (sym (gives r l q within loyal loyal_too.0)) h))
      (post_proper shape slot (read_by shape given l) (Replica l) value loyal.0 broadcast.asked r c h) (suc shape.f) (omega (arith, within))

  -- and hears the content of each link that it signed and posted, in any round
  posted_heard : (l q : ℕ) (carried : SlotValue) (before : List Actor) → Loyal l → Loyal q
      → WasPosted shape given l (signed (Replica l) (link_after slot carried before)) → Hears (kept q (suc shape.f)) (content carried)
  posted_heard l q carried before loyal loyal_too was =
      let h : In was.chain (posts l was.round) = subst (In was.chain) (gives was.round l was.taker was.within loyal was.inside) was.stands in
      let own = post_own shape slot (read_by shape given l) (Replica l) value was.round was.chain carried before h was.signed in
      subst (Hears (kept q (suc shape.f))) (sym own.same) (post_heard was.round l q was.chain was.within loyal loyal_too h)

  -- ---- a loyal replica posted each signature of its own on a proper chain

  abbrev AllPosted : ℕ → Type 0
  AllPosted r =
      (p l : ℕ) (c : Chain) (s : Signature) → Loyal p → Loyal l → In c (read_by shape given p (suc r)) → IsProper shape slot (suc r) c
      → In s c.signatures → s.signer ≡ Replica l → WasPosted shape given l s

  from_traitor : (r i p l : ℕ) (c : Chain) (s : Signature) → r ≤ shape.f → i < shape.n → is_traitor shape i ≡ true → Loyal p → Loyal l
      → In c (given (suc r) i p) → IsProper shape slot (suc r) c → In s c.signatures → s.signer ≡ Replica l → WasPosted shape given l s
  from_traitor r i p l c s within inside traitor loyal loyal_too h proper stands signer =
      let on = link_at shape slot (suc r) c s proper stands in
      broadcast.unforged r i p l c s within inside traitor loyal.0 h stands loyal_too signer (subst (IsLinkOf slot) (sym on.statement) refl)

  from_loyal : (r i p l : ℕ) (c : Chain) (s : Signature) → r ≤ shape.f → Loyal i → Loyal p → Loyal l → In c (given (suc r) i p)
      → In s c.signatures → s.signer ≡ Replica l → ((b : ℕ) → suc b ≡ r → AllPosted b) → WasPosted shape given l s
  from_loyal r i p l c s within poster loyal loyal_too h stands signer earlier = elim (holds_or_not (i == l) (Decides-eqb i l)) [
    | inl same ↦
        record {
          round = r;
          taker = p;
          chain = c;
          within = within;
          inside = loyal.0;
          stands = subst (λ j. In c (given (suc r) j p)) same h;
          signed = stands;
        }
    | inr differ ↦
        let was =
        post_other shape slot (read_by shape given i) (Replica i) value r c s (subst (In c) (gives r i p within poster loyal.0) h) stands
        (λ e. replicas_differ i l differ (sym signer ∙ e)) in
        earlier was.before was.next i l was.chain s poster loyal_too was.read_then was.proper was.stands signer
  ]

  by_poster : (r i p l : ℕ) (c : Chain) (s : Signature) → (b : Bool) → is_traitor shape i ≡ b → r ≤ shape.f → i < shape.n → Loyal p → Loyal l
      → In c (given (suc r) i p) → IsProper shape slot (suc r) c → In s c.signatures → s.signer ≡ Replica l
      → ((b : ℕ) → suc b ≡ r → AllPosted b) → WasPosted shape given l s
  by_poster r i p l c s true traitor within inside loyal loyal_too h proper stands signer earlier =
      from_traitor r i p l c s within inside traitor loyal loyal_too h proper stands signer
  by_poster r i p l c s false poster within inside loyal loyal_too h proper stands signer earlier =
      from_loyal r i p l c s within (inside, poster) loyal loyal_too h stands signer earlier

  posted_step : (r : ℕ) → r ≤ shape.f → ((b : ℕ) → suc b ≡ r → AllPosted b) → AllPosted r
  posted_step r within earlier p l c s loyal loyal_too h proper stands signer =
      let from = from_one c shape.n (λ i. given (suc r) i p) h in
      by_poster r from.0 p l c s (is_traitor shape from.0) refl within from.1 loyal loyal_too from.2 proper stands signer earlier

  all_posted : (r : ℕ) → r ≤ shape.f → AllPosted r
  all_posted zero within = posted_step zero within (λ b e. absurd (omega (arith, e)))
  all_posted (suc r) within =
      posted_step (suc r) within
      (λ b e. let same : r ≡ b = omega (arith, e) in subst AllPosted same (all_posted r (omega (arith, within))))

  -- ---- agreement

  -- if a loyal replica read a proper chain, and a loyal replica signed it, all loyal replicas hear its content
  signed_heard : (r p l q : ℕ) (c : Chain) (s : Signature) → r ≤ shape.f → Loyal p → Loyal l → Loyal q → In c (read_by shape given p (suc r))
      → IsProper shape slot (suc r) c → In s c.signatures → s.signer ≡ Replica l → Hears (kept q (suc shape.f)) (content c.value)
  signed_heard r p l q c s within loyal signer_loyal loyal_too h proper stands signer =
      let on = link_at shape slot (suc r) c s proper stands in
      let is : s ≡ signed (Replica l) (link_after slot c.value on.before) =
      signed_is s (Replica l) (link_after slot c.value on.before) signer on.statement in
      posted_heard l q c.value on.before signer_loyal loyal_too
      (subst (WasPosted shape given l) is (all_posted r within p l c s loyal signer_loyal h proper stands signer))

  -- every loyal replica hears what a loyal replica keeps: this one relays it, or a loyal replica has signed it
  heard : HasFewTraitors shape → (p q : ℕ) (k : Kept) → Loyal p → Loyal q → In k (kept p (suc shape.f)) → Hears (kept q (suc shape.f)) (content_of k)
  heard few p q k loyal loyal_too h =
      let was = after_from shape slot (read_by shape given p) (suc shape.f) k h in
      let earlier = was.earlier in
      let within : was.before ≤ shape.f = omega arith in
      elim (holds_or_not (is_signer (Replica p) k.chain) (is_signer-Decides (Replica p) k.chain)) [
        | inl own ↦
            let found = signature_of (Replica p) k.chain.signatures own in
            signed_heard was.before p p q k.chain found.0 within loyal loyal loyal_too was.read_then was.proper found.1 found.2
        | inr unsigned ↦ elim (cases_lt was.before shape.f) [
          | inl lower ↦
              post_heard (suc was.before) p q (extended k.chain (Replica p)) (omega (arith, lower)) loyal loyal_too
              (relay_posted shape slot (Replica p) value (suc (suc was.before)) (kept p (suc was.before)) k was.kept_then
              (record { kept_before = ap suc was.round_is; unsigned = unsigned }))
          | inr last ↦
              let is_last : was.before ≡ shape.f = omega (arith, last) in
              let found = some_loyal shape slot k.chain (subst (λ j. IsProper shape slot (suc j) k.chain) is_last was.proper) few in
              signed_heard was.before p found.replica q k.chain found.signature within loyal (found.inside, found.loyal) loyal_too was.read_then
              was.proper found.stands found.signer
        ]
      ]

  contents_tell : (p q : ℕ) → ContentsTell (kept p (suc shape.f)) (kept q (suc shape.f))
  contents_tell p q k l h h_too same =
      let was = after_from shape slot (read_by shape given p) (suc shape.f) k h in
      let was_too = after_from shape slot (read_by shape given q) (suc shape.f) l h_too in
      same_value shape slot (suc was.before) (suc was_too.before) k.chain l.chain was.proper was_too.proper same

  pub agreement : HasFewTraitors shape → (p q : ℕ) → Loyal p → Loyal q → decided_by shape slot given p ≡ decided_by shape slot given q
  agreement few p q loyal loyal_too =
      same_decision (kept p (suc shape.f)) (kept q (suc shape.f)) (after_apart shape slot (read_by shape given p) (suc shape.f))
      (after_apart shape slot (read_by shape given q) (suc shape.f)) (λ k h. heard few p q k loyal loyal_too h) (λ k h. heard few q p k loyal_too loyal h)
      (contents_tell p q)

  -- ---- validity

  only_its_own : (p : ℕ) (k : Kept) → IsLoyal shape (sender_of shape slot) → Loyal p → In k (kept p (suc shape.f)) → content_of k ≡ content value
  only_its_own p k sends loyal h =
      let was = after_from shape slot (read_by shape given p) (suc shape.f) k h in
      let earlier = was.earlier in
      let l = sender shape slot in
      let first = first_link shape slot (suc was.before) k.chain was.proper in
      let is : first.0 ≡ signed (Replica l) (link_after slot k.chain.value []) =
      signed_is first.0 (Replica l) (link_after slot k.chain.value []) first.2 first.3 in
      let found =
      subst (WasPosted shape given l) is
      (all_posted was.before (omega arith) p l k.chain first.0 loyal sends was.read_then was.proper first.1 first.2) in
      let stands : In found.chain (posts l found.round) = subst (In found.chain) (gives found.round l found.taker found.within sends found.inside) found.stands in
      (post_own shape slot (read_by shape given l) (Replica l) value found.round found.chain k.chain.value [] stands found.signed).from_start refl

  value_decided : (ks : List Kept) → Apart ks → Hears ks (content value) → ((k : Kept) → In k ks → content_of k ≡ content value)
      → ((k : Kept) → In k ks → content_of k ≡ content value → k.chain.value ≡ value) → decision ks ≡ value
  value_decided [] apart hears only tell = absurd (none_of (content value) hears)
  value_decided (k ∷ []) apart hears only tell = tell k (here refl) (only k (here refl))
  value_decided (k ∷ l ∷ rest) apart hears only tell =
      absurd (apart.0 (l, here refl, only l (there (here refl)) ∙ sym (only k (here refl))))

  pub validity : IsLoyal shape (sender_of shape slot) → (p : ℕ) → Loyal p → decided_by shape slot given p ≡ value
  validity sends p loyal =
      let l = sender shape slot in
      value_decided (kept p (suc shape.f)) (after_apart shape slot (read_by shape given p) (suc shape.f))
      (post_heard 0 l p (started slot value (Replica l)) (omega arith) sends loyal (start_posted shape slot (Replica l) value (kept l 0) refl))
      (λ k h. only_its_own p k sends loyal h)
      (λ k h same.
      let was = after_from shape slot (read_by shape given p) (suc shape.f) k h in
      same_asked_value shape k.chain.value value was.proper.asked broadcast.asked same)
