-- What is kept: it stays, it comes from a proper chain that was read, no two have one content, and the content of each
-- proper chain that is read is heard.
use Rattle.std.proofs.Common.{◌≡◌, ℕ, zero, suc, ◌<◌, ◌≤◌, List, [], ◌∷◌, ◌++◌, length, Option, ◌⊎◌, inl, inr, refl, ap, sym, ◌∙◌, subst, append_assoc, arith}
use Rattle.std.specs.Prelude.{◌≢◌, ⊤, ◌&&◌, not, nat_lt, All, AllPairs}
use Rattle.std.specs.Bool.{Decides}
use Rattle.std.proofs.lemmas.Bool.{cases_lt}
use Rattle.std.proofs.lemmas.Bool.Decides.{Decides-and, Decides-or, Decides-not, Decides-like, Decides-ltb}
use Rattle.std.proofs.lemmas.List.{append-nil, length_push}
use Rattle.std.proofs.lemmas.List.Elements.{All-nil, All-cons}
use Rattle.std.proofs.lemmas.List.Kept.{AllPairs-cons}
use Rattle.dsr_base.specs.Growth.{IsPrefixOf}
use Rattle.dsr_base.specs.Member.{In, here, there}
use Rattle.dsr_names.specs.Shape.{Shape}
use Rattle.dsr_base.proofs.MemberLemmas.{In-append_left, In-append_right, In-append_cases, In-one}
use Rattle.dsr_request.specs.Request.{Request}
use Rattle.dsr_chain.specs.Content.{content}
use Rattle.dsr_chain.specs.Chain.{Chain}
use Rattle.dsr_chain.specs.Proper.{IsProper}
use Rattle.dsr_chain.specs.ProperTest.{is_proper, same_content}
use Rattle.dsr_chain.proofs.Lemmas.{is_proper-Decides, same_content-Decides}
use Rattle.dsr_slot.specs.declared.kept.Kept.{Kept}
use Rattle.dsr_slot.specs.Kept.{HasContent, Hears, CameFrom}
use Rattle.dsr_slot.specs.Keeping.{kept_in, content_of, is_kept, is_news, keep_one, keep, kept_after}
use Rattle.dsr_slot.proofs.Lists.{holds_or_not, by_test}

-- no two kept chains have one content
abbrev pub Apart : List Kept → Type 0
Apart [] = ⊤
Apart (k ∷ ks) = (¬ HasContent (content_of k) ks) × Apart ks

none_later : (k : Kept) (ks : List Kept) → ¬ HasContent (content_of k) ks → All (λ l. content_of k ≢ content_of l) ks
none_later k [] none = All-nil (λ l. content_of k ≢ content_of l)
none_later k (l ∷ ls) none =
    All-cons (λ l. content_of k ≢ content_of l) l ls (λ e. none (l, here refl, sym e)) (none_later k ls (λ h. none (h.0, there h.1, h.2)))

pairs_apart : (kept : List Kept) → Apart kept → AllPairs (λ k l. content_of k ≢ content_of l) kept
pairs_apart [] apart = λ i j d before inside. absurd (omega (arith, inside))
pairs_apart (k ∷ ks) apart = AllPairs-cons (λ k l. content_of k ≢ content_of l) k ks (none_later k ks apart.0) (pairs_apart ks apart.1)

-- a chain that is to be kept beside these
pub record IsNews (shape : Shape) (slot round : ℕ) (kept : List Kept) (chain : Chain) : Type 0 where
  pub proper : IsProper shape slot round chain
  pub fresh : ¬ HasContent (content chain.value) kept
  pub room : length kept < 2

-- ---- what is kept stays

grew_not : (kept : List Kept) → IsPrefixOf kept kept
grew_not kept = ([], sym (append-nil kept))

grew_on : (before kept later : List Kept) → IsPrefixOf before kept → IsPrefixOf kept later → IsPrefixOf before later
grew_on before kept later g h = (g.0 ++ h.0, h.1 ∙ (ap (λ ks. ks ++ h.0) g.1 ∙ append_assoc before g.0 h.0))

-- ---- one chain

at_first : (wanted : Option (List Request)) (k : Kept) (ks : List Kept) → (content_of k ≡ wanted) ⊎ HasContent wanted ks → HasContent wanted (k ∷ ks)
at_first wanted k ks (inl e) = (k, here refl, e)
at_first wanted k ks (inr h) = (h.0, there h.1, h.2)

first_or_later : (wanted : Option (List Request)) (k : Kept) (ks : List Kept) (l : Kept) → In l (k ∷ ks) → content_of l ≡ wanted
    → (content_of k ≡ wanted) ⊎ HasContent wanted ks
first_or_later wanted k ks l (here e) same = inl (ap content_of e ∙ same)
first_or_later wanted k ks l (there h) same = inr (l, h, same)

pub is_kept-Decides : (wanted : Option (List Request)) (kept : List Kept) → Decides (is_kept wanted kept) (HasContent wanted kept)
is_kept-Decides wanted [] = (λ e. absurd cc, λ h. elim h.1 [ ])
is_kept-Decides wanted (k ∷ ks) =
    Decides-like (is_kept wanted (k ∷ ks)) (at_first wanted k ks) (λ h. first_or_later wanted k ks h.0 h.1 h.2)
    (Decides-or (same_content (content_of k) wanted) (is_kept wanted ks) (same_content-Decides (content_of k) wanted) (is_kept-Decides wanted ks))

pub is_news-Decides : (shape : Shape) (slot round : ℕ) (kept : List Kept) (chain : Chain)
    → Decides (is_news shape slot round kept chain) (IsNews shape slot round kept chain)
is_news-Decides shape slot round kept chain =
    Decides-like (is_news shape slot round kept chain) (λ h. record { proper = h.0; fresh = h.1.0; room = h.1.1 })
    (λ h. (h.proper, (h.fresh, h.room)))
    (Decides-and (is_proper shape slot round chain) (not (is_kept (content chain.value) kept) && nat_lt (length kept) 2)
    (is_proper-Decides shape slot round chain)
    (Decides-and (not (is_kept (content chain.value) kept)) (nat_lt (length kept) 2)
    (Decides-not (is_kept (content chain.value) kept) (is_kept-Decides (content chain.value) kept)) (Decides-ltb (length kept) 2)))

module _ (shape : Shape) (slot round : ℕ) where
  one_cases : (kept : List Kept) (chain : Chain)
      → (IsNews shape slot round kept chain × (keep_one shape slot round kept chain ≡ kept ++ kept_in round chain ∷ []))
      ⊎ ((¬ IsNews shape slot round kept chain) × (keep_one shape slot round kept chain ≡ kept))
  one_cases kept chain =
      by_test (is_news shape slot round kept chain) (is_news-Decides shape slot round kept chain) (kept ++ kept_in round chain ∷ []) kept

  -- a chain of another slot changes nothing
  pub skips_other_slots : (kept : List Kept) (chain : Chain) → chain.slot ≢ slot → keep_one shape slot round kept chain ≡ kept
  skips_other_slots kept chain other = elim (one_cases kept chain) [
    | inl news ↦ absurd (other news.0.proper.of_slot)
    | inr none ↦ none.1
  ]

  one_stays : (kept : List Kept) (chain : Chain) (k : Kept) → In k kept → In k (keep_one shape slot round kept chain)
  one_stays kept chain k h = elim (one_cases kept chain) [
    | inl news ↦ subst (In k) (sym news.1) (In-append_left k kept (kept_in round chain ∷ []) h)
    | inr none ↦ subst (In k) (sym none.1) h
  ]

  one_grew : (kept : List Kept) (chain : Chain) → IsPrefixOf kept (keep_one shape slot round kept chain)
  one_grew kept chain = elim (one_cases kept chain) [
    | inl news ↦ (kept_in round chain ∷ [], news.1)
    | inr none ↦ ([], none.1 ∙ sym (append-nil kept))
  ]

  one_more : (kept : List Kept) (chain : Chain) → length kept ≤ length (keep_one shape slot round kept chain)
  one_more kept chain = elim (one_cases kept chain) [
    | inl news ↦ omega (arith, ap length news.1, length_push kept (kept_in round chain))
    | inr none ↦ omega (arith, ap length none.1)
  ]

  one_few : (kept : List Kept) (chain : Chain) → length kept ≤ 2 → length (keep_one shape slot round kept chain) ≤ 2
  one_few kept chain few = elim (one_cases kept chain) [
    | inl news ↦ let room = news.0.room in omega (arith, ap length news.1, length_push kept (kept_in round chain))
    | inr none ↦ omega (arith, ap length none.1)
  ]

  -- what a kept chain comes from: a proper chain among these
  pub record WasRead (chains : List Chain) (k : Kept) : Type 0 where
    pub round_is : k.round ≡ round
    pub read : In k.chain chains
    pub proper : IsProper shape slot round k.chain

  one_from : (kept : List Kept) (chain : Chain) (k : Kept) → In k (keep_one shape slot round kept chain)
      → In k kept ⊎ ((kept_in round chain ≡ k) × IsProper shape slot round chain)
  one_from kept chain k h = elim (one_cases kept chain) [
    | inl news ↦ elim (In-append_cases k kept (kept_in round chain ∷ []) (subst (In k) news.1 h)) [
      | inl before ↦ inl before
      | inr last ↦ inr (In-one k (kept_in round chain) last, news.0.proper)
    ]
    | inr none ↦ inl (subst (In k) none.1 h)
  ]

  apart_push : (kept : List Kept) (k : Kept) → Apart kept → ¬ HasContent (content_of k) kept → Apart (kept ++ k ∷ [])
  apart_push [] k apart fresh = (λ h. elim h.1 [ ], tt)
  apart_push (l ∷ ls) k apart fresh = (
    λ h. elim (In-append_cases h.0 ls (k ∷ []) h.1) [
      | inl before ↦ apart.0 (h.0, before, h.2)
      | inr last ↦ fresh (l, here refl, sym (ap content_of (In-one h.0 k last) ∙ h.2))
    ],
    apart_push ls k apart.1 (λ h. fresh (h.0, there h.1, h.2)),
  )

  one_apart : (kept : List Kept) (chain : Chain) → Apart kept → Apart (keep_one shape slot round kept chain)
  one_apart kept chain apart = elim (one_cases kept chain) [
    | inl news ↦ subst Apart (sym news.1) (apart_push kept (kept_in round chain) apart news.0.fresh)
    | inr none ↦ subst Apart (sym none.1) apart
  ]

  one_hears_later : (kept : List Kept) (chain : Chain) (wanted : Option (List Request)) → Hears kept wanted
      → Hears (keep_one shape slot round kept chain) wanted
  one_hears_later kept chain wanted (inl h) = inl (h.0, one_stays kept chain h.0 h.1, h.2)
  one_hears_later kept chain wanted (inr full) = let more = one_more kept chain in inr (omega arith)

  -- a proper chain that is not kept beside these is heard by them
  heard_before : (kept : List Kept) (chain : Chain) → IsProper shape slot round chain → ¬ IsNews shape slot round kept chain
      → Hears kept (content chain.value)
  heard_before kept chain proper old = elim (holds_or_not (is_kept (content chain.value) kept) (is_kept-Decides (content chain.value) kept)) [
    | inl same ↦ inl same
    | inr fresh ↦ elim (cases_lt (length kept) 2) [
      | inl room ↦ absurd (old (record { proper = proper; fresh = fresh; room = room }))
      | inr full ↦ inr full
    ]
  ]

  one_hears : (kept : List Kept) (chain : Chain) → IsProper shape slot round chain
      → Hears (keep_one shape slot round kept chain) (content chain.value)
  one_hears kept chain proper = elim (one_cases kept chain) [
    | inl news ↦
        inl (
          kept_in round chain,
          subst (In (kept_in round chain)) (sym news.1) (In-append_right (kept_in round chain) kept (kept_in round chain ∷ []) (here refl)),
          refl,
        )
    | inr none ↦ subst (λ ks. Hears ks (content chain.value)) (sym none.1) (heard_before kept chain proper none.0)
  ]

  -- ---- the chains of one round

  keep_stays : (chains : List Chain) (kept : List Kept) (k : Kept) → In k kept → In k (keep shape slot round kept chains)
  keep_stays [] kept k h = h
  keep_stays (c ∷ cs) kept k h = keep_stays cs (keep_one shape slot round kept c) k (one_stays kept c k h)

  keep_grew : (chains : List Chain) (kept : List Kept) → IsPrefixOf kept (keep shape slot round kept chains)
  keep_grew [] kept = grew_not kept
  keep_grew (c ∷ cs) kept =
      grew_on kept (keep_one shape slot round kept c) (keep shape slot round kept (c ∷ cs)) (one_grew kept c) (keep_grew cs (keep_one shape slot round kept c))

  keep_hears_later : (chains : List Chain) (kept : List Kept) (wanted : Option (List Request)) → Hears kept wanted
      → Hears (keep shape slot round kept chains) wanted
  keep_hears_later [] kept wanted h = h
  keep_hears_later (c ∷ cs) kept wanted h = keep_hears_later cs (keep_one shape slot round kept c) wanted (one_hears_later kept c wanted h)

  keep_apart : (chains : List Chain) (kept : List Kept) → Apart kept → Apart (keep shape slot round kept chains)
  keep_apart [] kept h = h
  keep_apart (c ∷ cs) kept h = keep_apart cs (keep_one shape slot round kept c) (one_apart kept c h)

  keep_few : (chains : List Chain) (kept : List Kept) → length kept ≤ 2 → length (keep shape slot round kept chains) ≤ 2
  keep_few [] kept h = h
  keep_few (c ∷ cs) kept h = keep_few cs (keep_one shape slot round kept c) (one_few kept c h)

  read_later : (c : Chain) (cs : List Chain) (k : Kept) → WasRead cs k → WasRead (c ∷ cs) k
  read_later c cs k h = record { round_is = h.round_is; read = there h.read; proper = h.proper }

  read_first : (c : Chain) (cs : List Chain) (k : Kept) → kept_in round c ≡ k → IsProper shape slot round c → WasRead (c ∷ cs) k
  read_first c cs k is proper = record {
    round_is = ap (λ z. z.round) (sym is);
    read = here (ap (λ z. z.chain) is);
    proper = subst (IsProper shape slot round) (ap (λ z. z.chain) is) proper;
  }

  keep_from : (chains : List Chain) (kept : List Kept) (k : Kept) → In k (keep shape slot round kept chains) → In k kept ⊎ WasRead chains k
  keep_from [] kept k h = inl h
  keep_from (c ∷ cs) kept k h = elim (keep_from cs (keep_one shape slot round kept c) k h) [
    | inl before ↦ elim (one_from kept c k before) [
      | inl old ↦ inl old
      | inr now ↦ inr (read_first c cs k now.0 now.1)
    ]
    | inr later ↦ inr (read_later c cs k later)
  ]

  keep_hears : (chains : List Chain) (kept : List Kept) (c : Chain) → In c chains → IsProper shape slot round c
      → Hears (keep shape slot round kept chains) (content c.value)
  keep_hears [] kept c h proper = elim h [ ]
  keep_hears (d ∷ cs) kept c (here e) proper =
      keep_hears_later cs (keep_one shape slot round kept d) (content c.value)
      (subst (λ z. Hears (keep_one shape slot round kept d) (content z.value)) e (one_hears kept d (subst (IsProper shape slot round) (sym e) proper)))
  keep_hears (d ∷ cs) kept c (there h) proper = keep_hears cs (keep_one shape slot round kept d) c h proper

-- ---- the rounds of the slot

module _ (shape : Shape) (slot : ℕ) (read : ℕ → List Chain) where
  -- what a kept chain comes from: a proper chain of an earlier round, kept since
  pub record WasKept (rounds : ℕ) (k : Kept) : Type 0 where
    pub before : ℕ
    pub earlier : before < rounds
    pub round_is : k.round ≡ suc before
    pub read_then : In k.chain (read (suc before))
    pub proper : IsProper shape slot (suc before) k.chain
    pub kept_then : In k (kept_after shape slot read (suc before))

  kept_before : (r : ℕ) (k : Kept) → WasKept r k → WasKept (suc r) k
  kept_before r k h =
      let earlier = h.earlier in
      record { before = h.before; earlier = omega arith; round_is = h.round_is; read_then = h.read_then; proper = h.proper; kept_then = h.kept_then }

  pub after_from : (r : ℕ) (k : Kept) → In k (kept_after shape slot read r) → WasKept r k
  after_from zero k h = elim h [ ]
  after_from (suc r) k h = elim (keep_from shape slot (suc r) (read (suc r)) (kept_after shape slot read r) k h) [
    | inl old ↦ kept_before r k (after_from r k old)
    | inr now ↦ record { before = r; earlier = omega arith; round_is = now.round_is; read_then = now.read; proper = now.proper; kept_then = h }
  ]

  pub after_apart : (r : ℕ) → Apart (kept_after shape slot read r)
  after_apart zero = tt
  after_apart (suc r) = keep_apart shape slot (suc r) (read (suc r)) (kept_after shape slot read r) (after_apart r)

  pub after_hears : (before : ℕ) (c : Chain) → In c (read (suc before)) → IsProper shape slot (suc before) c → (rounds : ℕ) → before < rounds
      → Hears (kept_after shape slot read rounds) (content c.value)
  after_hears before c h proper zero earlier = absurd (omega arith)
  after_hears before c h proper (suc r) earlier = elim (cases_lt before r) [
    | inl lower ↦ keep_hears_later shape slot (suc r) (read (suc r)) (kept_after shape slot read r) (content c.value) (after_hears before c h proper r lower)
    | inr upper ↦
        let last : before ≡ r = omega arith in
        keep_hears shape slot (suc r) (read (suc r)) (kept_after shape slot read r) c (subst (λ b. In c (read (suc b))) last h)
        (subst (λ b. IsProper shape slot (suc b) c) last proper)
  ]

  -- ---- what a reader may take from it

  pub after_few : (r : ℕ) → length (kept_after shape slot read r) ≤ 2
  after_few zero = omega arith
  after_few (suc r) = keep_few shape slot (suc r) (read (suc r)) (kept_after shape slot read r) (after_few r)

  pub after_came : (r : ℕ) (k : Kept) → In k (kept_after shape slot read r) → CameFrom shape slot read r k
  after_came r k h =
      let from = after_from r k h in
      let earlier = from.earlier in
      let at = from.round_is in
      record {
        counted = omega arith;
        within = omega arith;
        was_read = subst (λ z. In k.chain (read z)) (sym at) from.read_then;
        proper = subst (λ z. IsProper shape slot z k.chain) (sym at) from.proper;
      }

  pub after_stays : (rounds later : ℕ) → rounds ≤ later → IsPrefixOf (kept_after shape slot read rounds) (kept_after shape slot read later)
  after_stays rounds zero few =
      let none : rounds ≡ 0 = omega arith in
      subst (λ r. IsPrefixOf (kept_after shape slot read r) []) (sym none) (grew_not [])
  after_stays rounds (suc r) few = elim (cases_lt r rounds) [
    | inl all ↦
        let last : rounds ≡ suc r = omega arith in
        subst (λ z. IsPrefixOf (kept_after shape slot read z) (kept_after shape slot read (suc r))) (sym last) (grew_not (kept_after shape slot read (suc r)))
    | inr before ↦
        grew_on (kept_after shape slot read rounds) (kept_after shape slot read r) (kept_after shape slot read (suc r))
        (after_stays rounds r (omega arith)) (keep_grew shape slot (suc r) (read (suc r)) (kept_after shape slot read r))
  ]

  pub after_heard : (rounds round : ℕ) (c : Chain) → 0 < round → round ≤ rounds → In c (read round) → IsProper shape slot round c
      → Hears (kept_after shape slot read rounds) (content c.value)
  after_heard rounds zero c counted within h proper = absurd (omega arith)
  after_heard rounds (suc before) c counted within h proper = after_hears before c h proper rounds (omega arith)

  pub after_distinct : (r : ℕ) → AllPairs (λ k l. content_of k ≢ content_of l) (kept_after shape slot read r)
  after_distinct r = pairs_apart (kept_after shape slot read r) (after_apart r)
